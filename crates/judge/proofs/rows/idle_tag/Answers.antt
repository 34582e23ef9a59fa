-- `judge::rows::idle_tag`: the callees' contracts put together. Assumes nothing.
use Rattle.judge.specs.Judge.{idle_tag}
use Rattle.judge.proofs.rows.idle_tag.Goals as goal

pub returns : goal.returns
unfolding idle_tag
returns c = cc
