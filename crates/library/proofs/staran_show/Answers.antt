-- `staran_show`: what the entry leaves, and its answer as two numbers. Assumes nothing.
use mathlib.Core.Path.{◌∙◌, subst, sym}
use Prim.Native.Nat.{ℕ, ◌≤◌}
use Rattle.library.proofs.LeftLaws.{count-shown, numbers-shown, show-small, show-left}
use Rattle.library.proofs.staran_show.Goals as goal

pub number_and_count-requires : goal.number_and_count-requires
number_and_count-requires c =
    let r = c.show-r in
    subst (λ (n : ℕ). n ≤ 786432) (sym (count-shown r.result)) (show-small _ _ _ r.ensures.answer)

pub returns : goal.returns
returns c =
    let r = c.show-r in
    show-left _ _ _ _ _ r.ensures.answer r.ensures.text (c.number_and_count.ensures ∙ numbers-shown r.result)
