-- `showing::put_line`: each turn is one word of the rest.
use mathlib.Core.Path.{◌≡◌}
use mathlib.Core.List.{List}
use Prim.Native.Nat.{ℕ, ◌+◌, ◌≤◌}
use lib.ListN.{length, drop}
use Rattle.bits.specs.Steps.{Put}
use Rattle.text.specs.Show.{rest}
use Rattle.text.proofs.showing.put_line.Given as goal

abbrev pub invariant-loop-w : goal.invariant-loop-w
invariant-loop-w l = (length l.text ≡ length l.initial.text) × (l.initial.next ≤ length l.initial.text) × (l.next + length (rest (drop l.w-index l.w-items)) ≤ length l.text)
    × ((e : ℕ) (final : List ℕ) → Put l.next (rest (drop l.w-index l.w-items)) l.text e final → Put l.initial.next (rest l.w-items) l.initial.text e final)
