-- `head`: each number as its two bytes.
use Rattle.blocks.specs.Block.{header}
use Rattle.blocks.proofs.head.Goals as goal

pub returns : goal.returns
unfolding header
returns c = simp (c.two.ensures, c.two-2.ensures, c.two-3.ensures, c.two-4.ensures)
