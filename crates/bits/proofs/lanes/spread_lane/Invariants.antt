-- `spread_lane`: the bytes so far are the first of the lane.
use mathlib.Core.Path.{◌≡◌}
use Prim.Native.Nat.{◌+◌, ◌*◌, ◌^◌}
use lib.Bits.{bit_xor}
use lib.ListN.{length, take}
use Rattle.bits.specs.Bits.{bit_of, listed}
use Rattle.bits.proofs.lanes.spread_lane.Given as goal

abbrev pub invariant-loop-i : goal.invariant-loop-i
invariant-loop-i g l = (length l.out ≡ 32) × (take l.i l.out ≡ listed (λ k. bit_xor (bit_of l.item (8 * k + l.j) * 2 ^ l.s) g.row.TURNED) l.i)
