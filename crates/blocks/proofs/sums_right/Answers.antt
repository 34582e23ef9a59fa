-- `sums_right`: both stored sums against both sums, as `==` compares them.
use Rattle.blocks.specs.Block.{sums_right}
use Rattle.blocks.proofs.sums_right.Goals as goal

pub returns : goal.returns
unfolding sums_right
returns c = simp (c.eq.ensures, c.two_at.ensures.0, c.two_at-2.ensures.0, c.sums.ensures.0, c.sums.ensures.1)
