-- `closing::rounds::put_copies`: the buffer has the first k bits' copies, by `round-more`. Assumes nothing.
use mathlib.Core.Path.{sym, ap₂}
use mathlib.Core.List.{[], ◌∷◌}
use Prim.Native.Nat.{◌*◌}
use native.Mathlib.Omega.{arith}
use Rattle.bits.proofs.Puts.{put-nil}
use Rattle.judge.specs.declared.Instruction.{Instruction}
use Rattle.builders.specs.Lists.{encoded, rounds}
use Rattle.closing.specs.Closing.{copy_slice}
use Rattle.closing.proofs.Lengths.{length-copies}
use Rattle.builders.proofs.PutLaws.{round-more}
use Rattle.closing.proofs.rounds.put_copies.Goals as goal

pub loop-k-init : goal.loop-k-init
unfolding rounds encoded
loop-k-init c = sym (put-nil _ _)

pub loop-k-preserved : goal.loop-k-preserved
loop-k-preserved c =
    let a = c.args in
    let l = c.loop-k in
    round-more (copy_slice a.f.a a.f.s) l.k 0 (2 * l.k) a.list.now l.list c.put_all.new.list (omega arith) (omega (arith, length-copies a.f.a a.f.s l.k)) l.invariant
    (ap₂ (λ (i j : Instruction). i ∷ j ∷ []) c.logic_at.ensures c.store_at.ensures) c.put_all.ensures
