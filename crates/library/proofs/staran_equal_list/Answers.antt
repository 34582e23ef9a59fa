-- `staran_equal_list`: what the builder leaves, and its answer as three numbers. Assumes nothing.
use Rattle.library.proofs.LeftLaws.{search-small, equal-left}
use Rattle.library.proofs.staran_equal_list.Goals as goal

pub two_counts-requires : goal.two_counts-requires
two_counts-requires c =
    search-small _ _ _ _ _ _ _ c.equal_list-r.ensures

pub returns : goal.returns
returns c =
    equal-left _ _ _ _ _ _ _ c.equal_list-r.ensures c.two_counts.ensures
