-- `put_group`: each turn is one write more.
use mathlib.Core.Path.{◌≡◌}
use Prim.Native.Nat.{◌+◌, ◌*◌}
use lib.ListN.{length, get_or}
use Rattle.bits.specs.Steps.{written}
use Rattle.words.proofs.ordering.put_group.Given as goal

abbrev pub invariant-loop-t : goal.invariant-loop-t
invariant-loop-t l = (length l.mem ≡ 8192) × (l.mem ≡ written (λ n. 32 * (8 * l.k + n) + l.i) (λ n o. get_or l.bytes (32 * n + l.i) 0) l.initial.mem l.t)
