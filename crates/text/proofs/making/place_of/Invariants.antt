-- `making::place_of`: each turn is one character more.
use mathlib.Core.Path.{◌≡◌}
use Prim.Native.Nat.{◌+◌, ◌≤◌}
use Rattle.text.specs.Make.{line_at, column_at}
use Rattle.text.proofs.making.place_of.Given as goal

abbrev pub invariant-loop-k : goal.invariant-loop-k
invariant-loop-k l = (l.line ≤ l.k + 1) × (l.column ≤ l.k + 1) × (l.line ≡ line_at l.text l.k) × (l.column ≡ column_at l.text l.k)
