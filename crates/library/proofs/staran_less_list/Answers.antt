-- `staran_less_list`: what the builder leaves, and its answer as three numbers. Assumes nothing.
use Rattle.library.proofs.LeftLaws.{search-small, less-left}
use Rattle.library.proofs.staran_less_list.Goals as goal

pub two_counts-requires : goal.two_counts-requires
two_counts-requires c =
    search-small _ _ _ _ _ _ _ c.less_list-r.ensures

pub returns : goal.returns
returns c =
    less-left _ _ _ _ _ _ _ c.less_list-r.ensures c.two_counts.ensures
