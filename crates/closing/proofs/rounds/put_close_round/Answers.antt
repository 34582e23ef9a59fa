-- `closing::rounds::put_close_round`: behind the mask the buffer has those of the first k bits, by `round-more`. Assumes nothing.
use mathlib.Core.Path.{◌≡◌, refl, sym, ap, ap₂, ◌∙◌}
use mathlib.Core.List.{[], ◌∷◌}
use Prim.Native.Nat.{ℕ, ◌+◌, ◌*◌}
use native.Mathlib.Omega.{arith}
use Rattle.bits.specs.Steps.{put_at}
use Rattle.bits.proofs.Puts.{put-nil}
use Rattle.judge.specs.declared.Instruction.{Instruction}
use Rattle.builders.specs.Lists.{encoded, rounds}
use Rattle.closing.specs.Closing.{take_mask, close_slice}
use Rattle.closing.proofs.Lengths.{length-close-slices}
use Rattle.builders.proofs.PutLaws.{put-more, round-more}
use Rattle.closing.proofs.rounds.put_close_round.Goals as goal

pub loop-k-init : goal.loop-k-init
unfolding rounds encoded
loop-k-init c = sym (put-nil _ _)

pub loop-k-preserved : goal.loop-k-preserved
loop-k-preserved c =
    let a = c.args in
    let l = c.loop-k in
    round-more (close_slice a.t a.f.s) l.k (a.at + 1) (a.at + 1 + 2 * l.k) c.put.new.list l.list c.put_all.new.list (omega arith)
    (omega (arith, length-close-slices a.t a.f.s l.k)) l.invariant
    (ap₂ (λ (i j : Instruction). i ∷ j ∷ []) c.take_further.ensures c.store_masked.ensures) c.put_all.ensures

pub returns : goal.returns
returns c =
    let a = c.args in
    let l = c.loop-k in
    let e : l.k ≡ a.f.n = omega arith in
    put-more a.at (a.at + 1) (take_mask ∷ []) (rounds (close_slice a.t a.f.s) a.f.n) a.list.now c.put.new.list l.list (omega arith) refl c.put.ensures
    (l.invariant ∙ ap (λ (n : ℕ). put_at (8 * (a.at + 1)) (encoded (rounds (close_slice a.t a.f.s) n)) c.put.new.list) e)
