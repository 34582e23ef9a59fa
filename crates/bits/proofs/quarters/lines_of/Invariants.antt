-- `quarters::lines_of`: the bytes so far are the first of the item.
use mathlib.Core.Path.{◌≡◌}
use Prim.Native.Nat.{◌*◌}
use lib.ListN.{length, take}
use Rattle.bits.specs.Bits.{listed, byte_of}
use Rattle.bits.specs.Quarters.{line_at}
use Rattle.bits.proofs.quarters.lines_of.Given as goal

abbrev pub invariant-loop-i : goal.invariant-loop-i
invariant-loop-i l = (length l.out ≡ 32) × (take (8 * l.i) l.out ≡ listed (byte_of (line_at l.q)) (8 * l.i))
