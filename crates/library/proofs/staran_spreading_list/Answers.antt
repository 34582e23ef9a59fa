-- `staran_spreading_list`: what the builder leaves, and its answer as three numbers. Assumes nothing.
use Rattle.library.proofs.LeftLaws.{spreading-small, spreading-left}
use Rattle.library.proofs.staran_spreading_list.Goals as goal

pub two_counts-requires : goal.two_counts-requires
two_counts-requires c =
    spreading-small _ _ _ _ _ _ _ c.spreading_list-r.ensures

pub returns : goal.returns
returns c =
    spreading-left _ _ _ _ _ _ _ _ c.spreading_list-r.ensures c.two_counts.ensures
