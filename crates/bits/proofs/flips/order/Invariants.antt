-- `flips::order`: the quarters so far are the first of the flipped ones.
use mathlib.Core.Path.{◌≡◌}
use Prim.Native.Nat.{◌*◌}
use lib.Bits.{bit_xor}
use lib.ListN.{length, take}
use Rattle.bits.specs.Bits.{listed}
use Rattle.bits.specs.Quarters.{quarter_of, line_at}
use Rattle.bits.proofs.flips.order.Given as goal

abbrev pub invariant-loop-i : goal.invariant-loop-i
invariant-loop-i s = (length s.out ≡ 4) × (take s.i s.out ≡ listed (quarter_of (λ l. line_at s.q (bit_xor l (64 * s.g)))) s.i)
