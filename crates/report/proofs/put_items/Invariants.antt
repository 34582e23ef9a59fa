-- `put_items`: each turn is one item more.
use mathlib.Core.Path.{◌≡◌}
use Prim.Native.Nat.{◌+◌, ◌*◌}
use lib.ListN.{length}
use Rattle.report.specs.Report.{item_lines}
use Rattle.bits.specs.Steps.{Put}
use Rattle.report.proofs.put_items.Given as goal

abbrev pub invariant-loop-k : goal.invariant-loop-k
invariant-loop-k l = (length l.text ≡ length l.initial.text) × (l.next ≡ l.at + 65 * l.k) × Put l.at (item_lines l.out l.k) l.initial.text l.next l.text
