-- `staran_step_5`: what `step` leaves, and its answer as six numbers. Assumes nothing.
use Rattle.library.proofs.LeftLaws.{stepped-small, step-left}
use Rattle.library.proofs.staran_step_5.Goals as goal

pub put_six-requires : goal.put_six-requires
put_six-requires c = stepped-small _ _ c.step-a.ensures

pub returns : goal.returns
returns c = step-left _ _ _ c.step-a.ensures c.put_six.ensures
