-- `judge::forms::resolve_fits`: rows 5 to 9 and 14 of a resolve. Assumes nothing.
use mathlib.Core.Path.{ap, ◌∙◌}
use mathlib.Core.Bool.{Bool, ◌&&◌}
use lib.Dec.{eqb}
use Rattle.judge.specs.Instructions.{instruction_at}
use Rattle.judge.proofs.FormLaws.{resolve-fits}
use Rattle.judge.proofs.forms.resolve_fits.Goals as goal

pub returns : goal.returns
unfolding instruction_at
returns c m =
    let a = c.args in
    let i = instruction_at a.list.now a.k in
    ap (λ (b : Bool). eqb i.source 0 && b) c.idle.ensures ∙ resolve-fits m i c.requires.k_value
