-- `staran_closing_list`: what the builder leaves, and its answer as three numbers. Assumes nothing.
use Rattle.library.proofs.LeftLaws.{closing-small, closing-left}
use Rattle.library.proofs.staran_closing_list.Goals as goal

pub two_counts-requires : goal.two_counts-requires
two_counts-requires c =
    closing-small _ _ _ _ _ _ _ c.closing_list-r.ensures

pub returns : goal.returns
returns c =
    closing-left _ _ _ _ _ _ _ _ c.closing_list-r.ensures c.two_counts.ensures
