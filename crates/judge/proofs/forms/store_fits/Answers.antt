-- `judge::forms::store_fits`: rows 5 to 9 and 14 of an instruction that stores. Assumes nothing.
use mathlib.Core.Path.{ap, ◌∙◌}
use mathlib.Core.Bool.{Bool, not, ◌&&◌}
use lib.Dec.{eqb, ltb}
use Rattle.judge.specs.Instructions.{instruction_at}
use Rattle.judge.proofs.FormLaws.{store-fits}
use Rattle.judge.proofs.forms.store_fits.Goals as goal

pub returns : goal.returns
unfolding instruction_at
returns c =
    let s = c in
    let i = instruction_at s.args.list.now s.args.k in
    ap (λ (b : Bool). not (eqb i.source 0) && not (ltb 4 i.source) && b) c.mode_fits.ensures ∙ store-fits s.args.m i s.requires.k_value
