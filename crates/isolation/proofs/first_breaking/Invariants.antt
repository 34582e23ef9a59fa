-- `isolation::first_breaking`: none of the instructions passed breaks the condition, and the mode registers are as they leave them. Assumes nothing.
use mathlib.Core.Path.{◌≡◌}
use Rattle.bits.proofs.Search.{NoneBelow}
use Rattle.judge.specs.Modes.{modes_after}
use Rattle.fields.specs.Isolation.{breaks_at}
use Rattle.isolation.proofs.first_breaking.Given as goal

abbrev pub invariant-loop-k : goal.invariant-loop-k
invariant-loop-k l = NoneBelow (breaks_at l.initial.modes l.list) l.k × (l.modes ≡ modes_after l.list l.initial.modes l.k)
