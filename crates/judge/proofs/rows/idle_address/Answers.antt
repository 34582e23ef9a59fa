-- `judge::rows::idle_address`: the callees' contracts put together. Assumes nothing.
use Rattle.judge.specs.Judge.{idle_address}
use Rattle.judge.proofs.rows.idle_address.Goals as goal

pub returns : goal.returns
unfolding idle_address
returns c = cc
