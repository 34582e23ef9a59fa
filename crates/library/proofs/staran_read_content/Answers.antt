-- `staran_read_content`: what the entry leaves, and its answer as three numbers. Assumes nothing.
use Rattle.library.proofs.LeftLaws.{read_small, read-left}
use Rattle.library.proofs.staran_read_content.Goals as goal

pub three-requires : goal.three-requires
three-requires c =
    read_small _ _ _ _ c.read_content-r.ensures

pub returns : goal.returns
returns c =
    read-left _ _ _ _ c.read_content-r.ensures _ c.three.ensures
