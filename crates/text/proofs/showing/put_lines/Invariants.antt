-- `showing::put_lines`: each turn is one line of the rest.
use mathlib.Core.Path.{◌≡◌}
use mathlib.Core.List.{List}
use Prim.Native.Nat.{ℕ, ◌+◌, ◌-◌, ◌≤◌}
use lib.ListN.{length}
use Rattle.bits.specs.Steps.{Put}
use Rattle.registers.specs.Modes.{none_set}
use Rattle.judge.specs.Modes.{modes_after}
use Rattle.text.specs.Show.{shown_from}
use Rattle.text.proofs.showing.put_lines.Given as goal

abbrev pub invariant-loop-k : goal.invariant-loop-k
invariant-loop-k l = (length l.text ≡ length l.initial.text) × (l.next + length (shown_from l.list l.k (l.n - l.k)) ≤ length l.text) × (l.modes ≡ modes_after l.list none_set l.k)
    × ((e : ℕ) (final : List ℕ) → Put l.next (shown_from l.list l.k (l.n - l.k)) l.text e final → Put 0 (shown_from l.list 0 l.n) l.initial.text e final)
