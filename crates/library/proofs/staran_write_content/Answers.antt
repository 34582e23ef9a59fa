-- `staran_write_content`: what the entry leaves, and its answer as three numbers. Assumes nothing.
use Rattle.library.proofs.LeftLaws.{write-small, write-left}
use Rattle.library.proofs.staran_write_content.Goals as goal

pub three-requires : goal.three-requires
three-requires c =
    write-small _ _ _ _ c.write_content-r.ensures

pub returns : goal.returns
returns c =
    write-left _ _ _ _ c.write_content-r.ensures _ c.three.ensures
