-- `making::scan`: what is left to read brings the rest of the way.
use mathlib.Core.Path.{◌≡◌}
use Prim.Native.Nat.{◌+◌, ◌*◌, ◌≤◌}
use lib.ListN.{length}
use Rattle.text.specs.Make.{ends, emitted, made_bytes, last_of}
use Rattle.text.proofs.ScanLaws.{left}
use Rattle.text.proofs.making.scan.Given as goal

abbrev pub invariant-loop-i : goal.invariant-loop-i
invariant-loop-i l = (l.count ≤ l.i) × (l.s.start ≤ l.i) × (ends l.s l.i (left l.text l.i) ≡ last_of l.text) × (8 * l.count + length (emitted l.s l.i (left l.text l.i)) ≡ length (made_bytes l.text))
