-- `judge::rows::barred_shift`: the callees' contracts put together. Assumes nothing.
use Rattle.judge.specs.Judge.{barred_shift}
use Rattle.judge.proofs.rows.barred_shift.Goals as goal

pub returns : goal.returns
unfolding barred_shift
returns c = cc
