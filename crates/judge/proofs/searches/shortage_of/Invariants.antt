-- `judge::searches::shortage_of`: none of the instructions passed lacks what it wants, and those that want some were counted. Assumes nothing.
use mathlib.Core.Path.{◌≡◌}
use mathlib.Core.Bool.{Bool}
use Prim.Native.Nat.{◌≤◌}
use Rattle.bits.specs.Search.{count}
use Rattle.bits.proofs.Search.{NoneBelow}
use Rattle.judge.specs.declared.Instruction.{Instruction}
use Rattle.judge.specs.Instructions.{instruction_at}
use Rattle.judge.specs.Judge.{lacks}
use Rattle.judge.proofs.searches.shortage_of.Given as goal

abbrev pub invariant-loop-k : goal.invariant-loop-k
invariant-loop-k g l = (l.used ≤ l.k)
    × ((uses : Instruction → Bool) → ((i : Instruction) (w : Bool) → goal.F-post g l.wants i w → w ≡ uses i) →
    (l.used ≡ count (λ j. uses (instruction_at l.list j)) l.k) × NoneBelow (lacks uses l.list l.have) l.k)
