-- `registers::resolver::smallest_responder`: no line of the bytes passed is 1. Assumes nothing.
use Rattle.registers.proofs.ResolverLaws.{NoneTo}
use Rattle.registers.proofs.resolver.smallest_responder.Given as goal

abbrev pub invariant-loop-i : goal.invariant-loop-i
invariant-loop-i l = NoneTo l.y l.i
