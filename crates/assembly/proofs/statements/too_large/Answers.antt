-- `statements::too_large`: both ends by the laws of the test.
use Rattle.std.proofs.Common.{◌∙◌}
use borrow.Author.Tests.{le-ltb}
use Rattle.builders.proofs.SearchRefusals.{wide_enough, shifted-out}
use Rattle.assembly.proofs.statements.too_large.Goals as goal

pub returns-then-n-lt64 : goal.returns-then-n-lt64
returns-then-n-lt64 c = shifted-out c.args.number c.args.n

pub returns-else-n-lt64 : goal.returns-else-n-lt64
returns-else-n-lt64 c = le-ltb _ _ c.if-n-lt64.false ∙ wide_enough c.args.number c.args.n c.ranges.number.fits c.if-n-lt64.false
