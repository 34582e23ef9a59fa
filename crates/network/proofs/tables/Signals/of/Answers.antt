-- `tables::Signals::of`: the row is out once the loop has passed it.
use mathlib.Core.Path.{ap₂, ◌∙◌}
use mathlib.Core.List.{List, []}
use Prim.Native.Nat.{ℕ}
use native.Mathlib.Omega.{arith}
use lib.ListN.{get_or}
use Rattle.network.proofs.tables.Signals.of.Goals as goal
use Rattle.network.proofs.tables.Signals.of.Goals.{then-i-s, else-i-s}

pub loop-i-preserved : goal.loop-i-preserved
loop-i-preserved c =
    λ h.
    elim c.if-i-s.branch [
      | then-i-s w ↦ w.all-is ∙ ap₂ (λ (t : List (List ℕ)) (k : ℕ). get_or t k []) c.signal_table-table.ensures w.if-i-s.true
      | else-i-s w ↦ w.all-is ∙ c.loop-i.invariant (omega arith)
    ]

pub invariant_of-result : goal.invariant_of-result
invariant_of-result c = record { of_shift = record { within = c.requires; are = c.loop-i.invariant (omega arith) } }
