-- `registers::logic`: the loop fills both new rows at once; a byte of each is what `byte-X` and `byte-Y` say. Assumes nothing.
use mathlib.Core.Path.{◌≡◌}
use lib.ListN.{length, take}
use Rattle.bits.specs.Bits.{bit_of, pack}
use Rattle.registers.specs.Logic.{new_x, new_y}
use Rattle.registers.proofs.logic.Given as goal

abbrev pub invariant-loop-i : goal.invariant-loop-i
invariant-loop-i l = record {
  size-x : length l.x ≡ 32;
  size-y : length l.y ≡ 32;
  front-x : take l.i l.x ≡ pack (λ k. new_x l.byte7 (bit_of l.r.x k) (bit_of l.r.y k) (bit_of l.item k)) l.i;
  front-y : take l.i l.y ≡ pack (λ k. new_y l.byte7 (bit_of l.r.y k) (bit_of l.item k)) l.i;
}
