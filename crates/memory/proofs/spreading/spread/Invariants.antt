-- `spread`: each turn is one lane more.
use mathlib.Core.Path.{◌≡◌}
use Prim.Native.Nat.{◌*◌, ◌/◌, ◌%◌}
use lib.Bits.{bit_xor}
use lib.ListN.{length, take}
use Rattle.bits.specs.Bits.{bit_of, listed}
use Rattle.memory.specs.Groups.{lane_byte}
use Rattle.memory.proofs.spreading.spread.Given as goal

abbrev pub invariant-loop-t : goal.invariant-loop-t
invariant-loop-t g l = (length l.out ≡ 256) × (take (32 * l.t) l.out ≡ listed (λ n. bit_xor (lane_byte (bit_of l.item) l.mode l.addr (n % 32) (n / 32)) g.row.TURNED) (32 * l.t))
