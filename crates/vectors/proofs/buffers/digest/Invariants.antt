-- `digest`: both remainders are below their primes.
use Rattle.std.proofs.Common.{◌<◌}
use Rattle.vectors.proofs.buffers.digest.Given as goal

abbrev pub invariant-loop-x : goal.invariant-loop-x
invariant-loop-x l = (l.d1 < 65521) × (l.d2 < 65519)
