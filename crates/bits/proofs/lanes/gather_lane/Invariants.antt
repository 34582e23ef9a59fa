-- `gather_lane`: the bytes so far are the first of the list.
use mathlib.Core.Path.{◌≡◌}
use Prim.Native.Nat.{◌*◌, ◌%◌, ◌^◌}
use lib.ListN.{length, take}
use lib.Bits.{bit_or}
use lib.ListN.{get_or}
use Rattle.bits.specs.Bits.{digit, listed}
use Rattle.bits.proofs.lanes.gather_lane.Given as goal

abbrev pub invariant-loop-i : goal.invariant-loop-i
invariant-loop-i l = (length l.out ≡ 32) × (take l.i l.out ≡ listed (λ k. bit_or (get_or l.acc k 0) (digit (get_or l.lane k 0) l.s * 2 ^ l.j % 256)) l.i)
