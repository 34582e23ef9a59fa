-- `masked`: the bytes so far are the first of the item.
use mathlib.Core.Path.{◌≡◌}
use lib.Bits.{bit_and}
use lib.ListN.{length, get_or, take}
use Rattle.bits.specs.Bits.{listed}
use Rattle.memory.proofs.spreading.masked.Given as goal

abbrev pub invariant-loop-i : goal.invariant-loop-i
invariant-loop-i l = (length l.out ≡ 32) × (take l.i l.out ≡ listed (λ k. bit_and (get_or l.item k 0) (get_or l.mask k 0)) l.i)
