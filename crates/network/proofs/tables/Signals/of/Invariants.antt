-- `tables::Signals::of`: the row is out once the loop has passed it.
use mathlib.Core.Path.{◌≡◌}
use mathlib.Core.List.{[]}
use Prim.Native.Nat.{◌<◌}
use lib.ListN.{get_or}
use Rattle.network.specs.Shifts.{signals}
use Rattle.network.proofs.tables.Signals.of.Given as goal

abbrev pub invariant-loop-i : goal.invariant-loop-i
invariant-loop-i l = l.s < l.i → l.all ≡ get_or signals l.s []
