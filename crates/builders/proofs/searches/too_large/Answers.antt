-- `builders::searches::too_large`: both ends by the laws of the test. Assumes nothing.
use mathlib.Core.Path.{◌∙◌}
use borrow.Author.Tests.{le-ltb}
use Rattle.builders.proofs.SearchRefusals.{wide_enough, shifted-out}
use Rattle.builders.proofs.searches.too_large.Goals as goal

pub returns-then-n-lt64 : goal.returns-then-n-lt64
returns-then-n-lt64 c = shifted-out c.args.number c.args.n

pub returns-else-n-lt64 : goal.returns-else-n-lt64
returns-else-n-lt64 c =
    let s = c in
    le-ltb s.args.n 64 c.if-n-lt64.false ∙ wide_enough s.args.number s.args.n s.ranges.number.fits c.if-n-lt64.false
