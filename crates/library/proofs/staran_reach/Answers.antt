-- `staran_reach`: what the entry leaves, and its answer as two numbers. Assumes nothing.
use mathlib.Core.Path.{◌∙◌, subst, sym}
use Prim.Native.Nat.{ℕ, ◌≤◌}
use Rattle.library.proofs.LeftLaws.{count-reached, numbers-reached, reach-small, reach-left}
use Rattle.library.proofs.staran_reach.Goals as goal

pub number_and_count-requires : goal.number_and_count-requires
number_and_count-requires c =
    let r = c.reach-r in
    subst (λ (n : ℕ). n ≤ 786432) (sym (count-reached r.result)) (reach-small _ _ _ _ r.ensures.answer)

pub returns : goal.returns
returns c =
    let r = c.reach-r in
    reach-left _ _ _ _ _ _ r.ensures.answer r.ensures.bytes (c.number_and_count.ensures ∙ numbers-reached r.result)
