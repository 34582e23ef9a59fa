-- `staran_pass`: the item and the number that the pass answers. Assumes nothing.
use Rattle.library.proofs.LeftLaws.{pass-left}
use Rattle.library.proofs.staran_pass.Goals as goal

pub returns : goal.returns
returns c =
    pass-left _ _ _ _ _ _ c.pass.ensures c.put_pass.ensures.item c.put_pass.ensures.number
