-- `read_group`: each turn is one write more.
use mathlib.Core.Path.{◌≡◌}
use Prim.Native.Nat.{◌+◌, ◌*◌}
use lib.ListN.{length, get_or}
use Rattle.bits.specs.Steps.{written}
use Rattle.memory.proofs.reading.read_group.Given as goal

abbrev pub invariant-loop-t : goal.invariant-loop-t
invariant-loop-t l = (length l.out ≡ 256) × (l.out ≡ written (λ k. 32 * k + l.i) (λ k o. get_or l.mem (32 * k + l.from) 0) l.initial.out l.t)
