-- `judge::rows::idle_mode`: the callees' contracts put together. Assumes nothing.
use Rattle.judge.specs.Judge.{idle_mode}
use Rattle.judge.proofs.rows.idle_mode.Goals as goal

pub returns : goal.returns
unfolding idle_mode
returns c = cc
