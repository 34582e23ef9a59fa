-- `judge::rows::wrong_source`: the callees' contracts put together. Assumes nothing.
use Rattle.judge.specs.Judge.{wrong_source}
use Rattle.judge.proofs.rows.wrong_source.Goals as goal

pub returns : goal.returns
unfolding wrong_source
returns c = cc
