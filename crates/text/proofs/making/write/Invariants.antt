-- `making::write`: what is left to read brings what is left to put.
use mathlib.Core.Path.{◌≡◌}
use mathlib.Core.List.{List}
use Prim.Native.Nat.{ℕ, ◌+◌, ◌≤◌}
use lib.ListN.{length}
use Rattle.bits.specs.Steps.{Put}
use Rattle.text.specs.Make.{emitted, made_bytes}
use Rattle.text.proofs.ScanLaws.{left}
use Rattle.text.proofs.making.write.Given as goal

abbrev pub invariant-loop-i : goal.invariant-loop-i
invariant-loop-i l = (length l.out ≡ length l.initial.out) × (l.next + length (emitted l.s l.i (left l.text l.i)) ≤ length l.out)
    × ((e : ℕ) (final : List ℕ) → Put l.next (emitted l.s l.i (left l.text l.i)) l.out e final → Put 0 (made_bytes l.text) l.initial.out e final)
