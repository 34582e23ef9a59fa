-- `put_part`: the first bytes of the part, up to block i's, stand in the payloads.
use mathlib.Core.Path.{◌≡◌}
use Prim.Native.Nat.{◌-◌, ◌+◌, ◌*◌, min}
use lib.ListN.{length, get_or}
use Rattle.bits.specs.Steps.{written}
use Rattle.contents.specs.Payloads.{payload_at}
use Rattle.contents.proofs.put_part.Given as goal

abbrev pub invariant-loop-i : goal.invariant-loop-i
invariant-loop-i l =
    l.out ≡ written (λ j. payload_at (l.at + j)) (λ j o. get_or l.part j 0) l.initial.out (min (length l.part) (496 * l.i - l.at))
