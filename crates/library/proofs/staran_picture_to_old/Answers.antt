-- `staran_picture_to_old`: what the entry leaves, and its answer as three numbers. Assumes nothing.
use Rattle.library.proofs.LeftLaws.{to-old-small, to-old-left}
use Rattle.library.proofs.staran_picture_to_old.Goals as goal

pub three-requires : goal.three-requires
three-requires c =
    to-old-small _ _ _ c.to_old-r.ensures

pub returns : goal.returns
returns c =
    to-old-left _ _ _ c.to_old-r.ensures _ c.three.ensures
