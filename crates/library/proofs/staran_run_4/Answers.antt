-- `staran_run_4`: what `run` leaves, and its answer as six numbers. Assumes nothing.
use Rattle.library.proofs.LeftLaws.{ran-small, run-left}
use Rattle.library.proofs.staran_run_4.Goals as goal

pub six-requires : goal.six-requires
six-requires c =
    ran-small _ _ c.run-a.ensures

pub returns : goal.returns
returns c =
    run-left _ _ _ c.run-a.ensures c.six.ensures
