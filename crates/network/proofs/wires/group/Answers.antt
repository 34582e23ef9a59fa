-- `wires::group`: significant bits are what leading zeros leave of a byte.
use native.Mathlib.Omega.{arith}
use lib.Count.{leading_le}
use lib.Pow.{pow_pos}
use Rattle.network.proofs.WireLaws.{one_up, group-is}
use Rattle.network.proofs.wires.group.Goals as goal

-- the answer before the bounds of its steps, so that a wrong count is refused as one
pub returns : goal.returns
returns c = group-is c.args.line c.args.j c.requires

pub nonzero_rem-result : goal.nonzero_rem-result
nonzero_rem-result c = omega (arith, one_up c.args.j c.requires, pow_pos c.args.j)

pub overflow_sub-result : goal.overflow_sub-result
overflow_sub-result c = leading_le 8 _
