-- `read_all`: each turn is twice eight writes more; all of them fill the list lane by lane.
use mathlib.Core.Path.{◌≡◌}
use Prim.Native.Nat.{◌+◌, ◌*◌, ◌/◌, ◌%◌}
use lib.ListN.{length, get_or}
use Rattle.bits.specs.Steps.{written}
use Rattle.memory.specs.Groups.{spot}
use Rattle.memory.proofs.reading.read_all.Given as goal

abbrev pub invariant-loop-turn : goal.invariant-loop-turn
invariant-loop-turn l = (length l.out ≡ 256) × (l.out ≡ written (λ n. 32 * (n % 8) + n / 8) (λ n o. get_or l.mem (spot l.mode l.addr (n / 8) (n % 8)) 0) l.initial.out (8 * (2 * l.turn)))
