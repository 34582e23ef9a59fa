-- `seal_block`: both sums are remainders.
use Rattle.std.proofs.Common.{◌<◌}
use Rattle.vectors.proofs.buffers.seal_block.Given as goal

abbrev pub invariant-loop-x : goal.invariant-loop-x
invariant-loop-x l = (l.s1 < 65535) × (l.s2 < 65535)
