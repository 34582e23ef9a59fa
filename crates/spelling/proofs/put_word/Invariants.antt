-- `put_word`: each turn is one character of the rest.
use mathlib.Core.Path.{◌≡◌}
use mathlib.Core.List.{List}
use Prim.Native.Nat.{ℕ, ◌+◌, ◌≤◌}
use lib.ListN.{length, drop}
use Rattle.std.specs.List.{flat_map}
use Rattle.spelling.specs.Words.{visible, spelled}
use Rattle.bits.specs.Steps.{Put}
use Rattle.spelling.proofs.put_word.Given as goal

abbrev pub invariant-loop-c : goal.invariant-loop-c
invariant-loop-c l = (length l.text ≡ length l.initial.text) × (l.next + length (flat_map visible (drop l.c-index l.c-items)) ≤ length l.text)
    × ((e : ℕ) (final : List ℕ) → Put l.next (flat_map visible (drop l.c-index l.c-items)) l.text e final → Put l.at (spelled l.w) l.initial.text e final)
