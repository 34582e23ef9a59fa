-- `staran_make`: what the entry leaves, and its answer as five numbers. Assumes nothing.
use Rattle.library.proofs.LeftLaws.{make-small, make-left}
use Rattle.library.proofs.staran_make.Goals as goal

pub five-requires : goal.five-requires
five-requires c =
    let r = c.assemble-r.ensures in
    make-small _ _ _ _ r.answer

pub returns : goal.returns
returns c =
    let r = c.assemble-r.ensures in
    make-left _ _ _ _ _ _ _ r.answer r.list r.items c.five.ensures
