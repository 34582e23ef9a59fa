-- `builders::search_rounds::put_greatest_round`: the flips between one instruction and two, by `put-more`. Assumes nothing.
use mathlib.Core.Path.{◌≡◌, refl, sym, ap, ap₂, ◌∙◌}
use mathlib.Core.List.{[], ◌∷◌}
use Prim.Native.Nat.{ℕ, ◌≤◌, ◌+◌, ◌*◌}
use native.Mathlib.Omega.{arith}
use lib.ListN.{length}
use Rattle.bits.specs.Steps.{put_at}
use Rattle.bits.proofs.Puts.{put-nil}
use Rattle.judge.specs.declared.Instruction.{Instruction}
use Rattle.builders.specs.Lists.{encoded, rounds}
use Rattle.builders.specs.Searches.{take_marked, or_flipped, without, unmark}
use Rattle.builders.proofs.ListLaws.{length-flips}
use Rattle.builders.proofs.PutLaws.{put-more, rounds-more}
use Rattle.builders.proofs.search_rounds.put_greatest_round.Goals as goal

pub loop-e-init : goal.loop-e-init
unfolding rounds encoded
loop-e-init c = sym (put-nil _ _)

pub loop-e-preserved : goal.loop-e-preserved
loop-e-preserved c =
    let at = c.args.at in
    let l = c.loop-e in
    let o = c.put-in-loop-e in
    rounds-more or_flipped l.e (at + 1) (at + 1 + l.e) c.put.new.list l.list o.new.list (omega arith) (omega (arith, length-flips l.e)) l.invariant
    (o.ensures ∙ ap (λ (i : Instruction). put_at (8 * (at + 1 + l.e)) (encoded (i ∷ [])) l.list) c.or_flip.ensures)

pub returns : goal.returns
returns c =
    let a = c.args in
    let at = a.at in
    let xs = a.list.now in
    let l = c.loop-e in
    let h : 8 * at ≤ length xs = omega arith in
    let e : l.e ≡ 8 = omega arith in
    let fs = rounds or_flipped 8 in
    put-more at (at + 9) (take_marked a.g ∷ fs) (without a.g ∷ unmark ∷ []) xs l.list c.put_all.new.list h (omega (arith, length-flips 8))
    (put-more at (at + 1) (take_marked a.g ∷ []) fs xs c.put.new.list l.list h refl
    (c.put.ensures ∙ ap (λ (i : Instruction). put_at (8 * at) (encoded (i ∷ [])) xs) c.logic_at.ensures)
    (l.invariant ∙ ap (λ (n : ℕ). put_at (8 * (at + 1)) (encoded (rounds or_flipped n)) c.put.new.list) e))
    (c.put_all.ensures ∙ ap₂ (λ (i j : Instruction). put_at (8 * (at + 9)) (encoded (i ∷ j ∷ [])) l.list) c.logic_at-2.ensures c.logic_from.ensures)
