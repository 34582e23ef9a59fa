-- `staran_picture_to_new`: what the entry leaves, and its answer as three numbers. Assumes nothing.
use Rattle.library.proofs.LeftLaws.{to-new-small, to-new-left}
use Rattle.library.proofs.staran_picture_to_new.Goals as goal

pub three-requires : goal.three-requires
three-requires c =
    to-new-small _ _ _ c.to_new-r.ensures

pub returns : goal.returns
returns c =
    to-new-left _ _ _ c.to_new-r.ensures _ c.three.ensures
