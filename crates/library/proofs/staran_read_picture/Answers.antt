-- `staran_read_picture`: what the entry leaves, and its answer as three numbers. Assumes nothing.
use Rattle.library.proofs.LeftLaws.{read-picture-small, read-picture-left}
use Rattle.library.proofs.staran_read_picture.Goals as goal

pub three-requires : goal.three-requires
three-requires c =
    read-picture-small _ _ _ _ _ c.read_picture-r.ensures

pub returns : goal.returns
returns c =
    read-picture-left _ _ _ _ _ c.read_picture-r.ensures _ c.three.ensures
