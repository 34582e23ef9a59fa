-- `put_all`: each turn is twice eight writes more.
use mathlib.Core.Path.{◌≡◌}
use Prim.Native.Nat.{◌+◌, ◌*◌, ◌/◌, ◌%◌}
use lib.Bits.{bit_xor}
use lib.ListN.{length, get_or}
use Rattle.bits.specs.Steps.{written}
use Rattle.words.proofs.ordering.put_all.Given as goal

abbrev pub invariant-loop-turn : goal.invariant-loop-turn
invariant-loop-turn l = (length l.mem ≡ 8192) × (l.mem ≡ written (λ n. 32 * (8 * bit_xor l.v (n / 8) + n % 8) + n / 8) (λ n o. get_or l.bytes (32 * (n % 8) + n / 8) 0) l.initial.mem (8 * (2 * l.turn)))
