-- `closing::rounds::put_clears`: the buffer has the first k of them, by `round-more`. Assumes nothing.
use mathlib.Core.Path.{sym, ap}
use mathlib.Core.List.{[], ◌∷◌}
use Prim.Native.Nat.{◌+◌}
use native.Mathlib.Omega.{arith}
use Rattle.bits.proofs.Puts.{put-nil}
use Rattle.judge.specs.declared.Instruction.{Instruction}
use Rattle.builders.specs.Lists.{encoded, rounds}
use Rattle.closing.specs.Closing.{clear_slice}
use Rattle.closing.proofs.Lengths.{length-clears}
use Rattle.builders.proofs.PutLaws.{round-more}
use Rattle.closing.proofs.rounds.put_clears.Goals as goal

pub loop-k-init : goal.loop-k-init
unfolding rounds encoded
loop-k-init c = sym (put-nil _ _)

pub loop-k-preserved : goal.loop-k-preserved
loop-k-preserved c =
    let a = c.args in
    let l = c.loop-k in
    round-more (clear_slice a.f.s) l.k a.at (a.at + l.k) a.list.now l.list c.put.new.list (omega arith) (omega (arith, length-clears a.f.s l.k)) l.invariant
    (ap (λ (i : Instruction). i ∷ []) c.store_masked.ensures) c.put.ensures
