-- `judge::searches::tally`: none of the instructions passed has a number, those that take or give were counted, and the mode registers are as they leave them. Assumes nothing.
use mathlib.Core.Path.{◌≡◌}
use Prim.Native.Nat.{◌≤◌}
use Rattle.bits.specs.Search.{count}
use Rattle.bits.proofs.Search.{NoneBelow}
use Rattle.judge.specs.Instructions.{instruction_at, takes, gives}
use Rattle.judge.specs.Modes.{modes_after}
use Rattle.judge.specs.Judge.{faulty}
use Rattle.judge.proofs.searches.tally.Given as goal

abbrev pub invariant-loop-k : goal.invariant-loop-k
invariant-loop-k l = (l.taken ≤ l.k) × (l.given ≤ l.k) × (l.taken ≡ count (λ j. takes (instruction_at l.list j)) l.k) × (l.given ≡ count (λ j. gives (instruction_at l.list j)) l.k)
    × NoneBelow (faulty l.initial.modes l.list) l.k × (l.modes ≡ modes_after l.list l.initial.modes l.k)
