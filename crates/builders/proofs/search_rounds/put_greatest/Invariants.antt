-- `builders::search_rounds::put_greatest`: behind its first instruction the buffer has the first rounds, by `rounds-more`. Assumes nothing.
use mathlib.Core.Path.{◌≡◌}
use Prim.Native.Nat.{◌*◌}
use Rattle.bits.specs.Steps.{put_at}
use Rattle.builders.specs.Lists.{encoded}
use Rattle.builders.specs.Searches.{greatest_rounds}
use Rattle.builders.proofs.search_rounds.put_greatest.Given as goal

abbrev pub invariant-loop-round : goal.invariant-loop-round
invariant-loop-round l = l.list ≡ put_at (8 * 1) (encoded (greatest_rounds l.a l.n l.round)) l.initial.list
