-- `rows::barred_flip`: the condition, read off. Assumes nothing.
use mathlib.Core.Path.{refl}
use Rattle.judge.specs.Judge.{barred_flip}
use Rattle.judge.proofs.rows.barred_flip.Goals as goal

pub returns : goal.returns
unfolding barred_flip
returns c = refl
