-- `put_item`: each turn is one byte more; then the line feed.
use mathlib.Core.Path.{◌≡◌}
use Prim.Native.Nat.{◌+◌, ◌*◌}
use lib.ListN.{length, take}
use Rattle.report.specs.Report.{hexed}
use Rattle.bits.specs.Steps.{Put}
use Rattle.report.proofs.put_item.Given as goal

abbrev pub invariant-loop-x : goal.invariant-loop-x
invariant-loop-x l = (length l.text ≡ length l.initial.text) × (l.next ≡ l.at + 2 * l.x-index) × Put l.at (hexed (take l.x-index l.item)) l.initial.text l.next l.text
