-- `judge::rows::unset_mode`: the callees' contracts put together. Assumes nothing.
use Rattle.judge.specs.Judge.{unset_mode}
use Rattle.judge.proofs.rows.unset_mode.Goals as goal

pub returns : goal.returns
unfolding unset_mode
returns c = cc
