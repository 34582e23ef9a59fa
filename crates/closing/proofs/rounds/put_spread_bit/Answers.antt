-- `closing::rounds::put_spread_bit`: between the first instruction and the last the buffer has the first k rounds, by `round-more`. Assumes nothing.
use mathlib.Core.Path.{◌≡◌, refl, sym, ap, ap₂, ◌∙◌}
use mathlib.Core.List.{[], ◌∷◌}
use Prim.Native.Nat.{ℕ, ◌≤◌, ◌+◌, ◌*◌}
use native.Mathlib.Omega.{arith}
use lib.ListN.{length}
use Rattle.bits.specs.Steps.{put_at}
use Rattle.bits.proofs.Puts.{put-nil}
use Rattle.judge.specs.declared.Instruction.{Instruction}
use Rattle.builders.specs.Lists.{encoded, rounds}
use Rattle.closing.specs.Closing.{take_x, store_masked, spread_round}
use Rattle.closing.proofs.Lengths.{length-spread-rounds}
use Rattle.builders.proofs.PutLaws.{put-more, round-more}
use Rattle.closing.proofs.rounds.put_spread_bit.Goals as goal

pub loop-k-init : goal.loop-k-init
unfolding rounds encoded
loop-k-init c = sym (put-nil _ _)

pub loop-k-preserved : goal.loop-k-preserved
loop-k-preserved c =
    let at = c.args.at in
    let l = c.loop-k in
    round-more spread_round l.k (at + 1) (at + 1 + 2 * l.k) c.put.new.list l.list c.put_all.new.list (omega arith)
    (omega (arith, length-spread-rounds l.k)) l.invariant
    (ap₂ (λ (i j : Instruction). i ∷ j ∷ []) c.logic_from.ensures c.shift_masked.ensures) c.put_all.ensures

pub returns : goal.returns
returns c =
    let a = c.args in
    let at = a.at in
    let xs = a.list.now in
    let l = c.loop-k in
    let h : 8 * at ≤ length xs = omega arith in
    let rs = rounds spread_round 8 in
    let e : l.k ≡ 8 = omega arith in
    put-more at (at + 17) (take_x a.h ∷ rs) (store_masked 0 a.g ∷ []) xs l.list c.put-2.new.list h (omega (arith, length-spread-rounds 8))
    (put-more at (at + 1) (take_x a.h ∷ []) rs xs c.put.new.list l.list h refl
    (c.put.ensures ∙ ap (λ (i : Instruction). put_at (8 * at) (encoded (i ∷ [])) xs) c.logic_at.ensures)
    (l.invariant ∙ ap (λ (n : ℕ). put_at (8 * (at + 1)) (encoded (rounds spread_round n)) c.put.new.list) e))
    (c.put-2.ensures ∙ ap (λ (i : Instruction). put_at (8 * (at + 17)) (encoded (i ∷ [])) l.list) c.store_masked.ensures)
