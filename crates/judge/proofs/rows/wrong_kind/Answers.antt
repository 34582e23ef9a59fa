-- `rows::wrong_kind`: the row, read off. Assumes nothing.
use mathlib.Core.Path.{refl}
use Rattle.judge.specs.Judge.{wrong_kind}
use Rattle.judge.proofs.rows.wrong_kind.Goals as goal

pub returns : goal.returns
unfolding wrong_kind
returns c = refl
