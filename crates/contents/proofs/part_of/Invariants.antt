-- `part_of`: the first bytes of the part, up to block i's, are those of the content.
use mathlib.Core.Path.{◌≡◌}
use Prim.Native.Nat.{◌-◌, ◌*◌, min}
use lib.ListN.{length, take}
use Rattle.contents.specs.Payloads.{payloads}
use Rattle.contents.proofs.part_of.Given as goal

abbrev pub invariant-loop-i : goal.invariant-loop-i
invariant-loop-i l =
    take (min (length l.initial.part) (496 * l.i - l.at)) l.part ≡ payloads l.bytes l.at (min (length l.initial.part) (496 * l.i - l.at))
