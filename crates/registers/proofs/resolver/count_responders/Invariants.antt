-- `registers::resolver::count_responders`: after some bytes it is the count of their lines that are 1. Assumes nothing.
use mathlib.Core.Path.{◌≡◌}
use Prim.Native.Nat.{◌≤◌, ◌*◌}
use Rattle.registers.proofs.ResolverLaws.{count_to}
use Rattle.registers.proofs.resolver.count_responders.Given as goal

abbrev pub invariant-loop-x : goal.invariant-loop-x
invariant-loop-x l = (l.n ≤ 8 * l.x-index) × (l.n ≡ count_to l.y l.x-index)
