-- `showing::text_size`: each turn is one line more.
use mathlib.Core.Path.{◌≡◌}
use Prim.Native.Nat.{◌+◌, ◌-◌, ◌*◌, ◌≤◌}
use lib.ListN.{length}
use Rattle.registers.specs.Modes.{none_set}
use Rattle.judge.specs.Modes.{modes_after}
use Rattle.text.specs.Show.{shown_from}
use Rattle.text.proofs.showing.text_size.Given as goal

abbrev pub invariant-loop-k : goal.invariant-loop-k
invariant-loop-k l = (l.modes ≡ modes_after l.list none_set l.k) × (l.total ≤ 192 * l.k) × (l.total + length (shown_from l.list l.k (l.n - l.k)) ≡ length (shown_from l.list 0 l.n))
