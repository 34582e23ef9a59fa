-- `staran_write_picture`: what the entry leaves, and its answer as three numbers. Assumes nothing.
use Rattle.library.proofs.LeftLaws.{write-picture-small, write-picture-left}
use Rattle.library.proofs.staran_write_picture.Goals as goal

pub three-requires : goal.three-requires
three-requires c =
    write-picture-small _ _ _ _ _ c.write_picture-r.ensures

pub returns : goal.returns
returns c =
    write-picture-left _ _ _ _ _ c.write_picture-r.ensures _ c.three.ensures
