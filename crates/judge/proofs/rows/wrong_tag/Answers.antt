-- `judge::rows::wrong_tag`: the callees' contracts put together. Assumes nothing.
use Rattle.judge.specs.Judge.{wrong_tag}
use Rattle.judge.proofs.rows.wrong_tag.Goals as goal

pub returns : goal.returns
unfolding wrong_tag
returns c = cc
