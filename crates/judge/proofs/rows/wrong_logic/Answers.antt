-- `rows::wrong_logic`: the row, read off. Assumes nothing.
use mathlib.Core.Path.{refl}
use Rattle.judge.specs.Judge.{wrong_logic}
use Rattle.judge.proofs.rows.wrong_logic.Goals as goal

pub returns : goal.returns
unfolding wrong_logic
returns c = refl
