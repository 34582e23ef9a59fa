-- `builders::sum_rounds::put_fields`: behind `lead` the buffer has the first k rounds, by `round-more`. Assumes nothing.
use mathlib.Core.Path.{◌≡◌}
use Prim.Native.Nat.{◌*◌}
use lib.ListN.{length}
use Rattle.bits.specs.Steps.{put_at}
use Rattle.builders.specs.Lists.{encoded}
use Rattle.builders.specs.Sums.{bit_rounds}
use Rattle.builders.proofs.sum_rounds.put_fields.Given as goal

abbrev pub invariant-loop-k : goal.invariant-loop-k
invariant-loop-k l = l.list ≡ put_at (8 * length l.lead) (encoded (bit_rounds l.byte7 l.a l.b l.s l.k)) l.initial.list
