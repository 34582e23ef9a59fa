-- `registers::resolver::smallest_responder`: no line of the bytes passed is 1, and the first byte that is not 0 has the smallest. Assumes nothing.
use native.Mathlib.Omega.{arith}
use Rattle.registers.proofs.ResolverLaws.{skip-byte, hit-found, hit-none}
use Rattle.registers.proofs.resolver.smallest_responder.Goals as goal

pub returns-then-x-ne0 : goal.returns-then-x-ne0
returns-then-x-ne0 c =
    let l = c.loop-i in
    hit-found c.args.y.now l.i (c.fits-y l.i) l.invariant c.below_lowest.result c.below_lowest.ensures.0 (omega arith) (omega arith)

pub loop-i-preserved : goal.loop-i-preserved
loop-i-preserved c = skip-byte c.args.y.now c.loop-i.i (c.fits-y c.loop-i.i) c.loop-i.invariant c.if-x-ne0.false

pub returns : goal.returns
returns c = hit-none c.args.y.now c.loop-i.i (omega arith) c.loop-i.invariant
