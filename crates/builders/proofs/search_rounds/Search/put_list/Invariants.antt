-- `builders::search_rounds::Search::put_list`: behind its first instruction the buffer has the first k rounds, by `round-more`. Assumes nothing.
use mathlib.Core.Path.{◌≡◌}
use Prim.Native.Nat.{◌*◌}
use Rattle.bits.specs.Steps.{put_at}
use Rattle.builders.specs.Lists.{encoded}
use Rattle.builders.specs.Searches.{is_less, search_rounds}
use Rattle.builders.proofs.search_rounds.Search.put_list.Given as goal

abbrev pub invariant-loop-k : goal.invariant-loop-k
invariant-loop-k l = l.list ≡ put_at (8 * 1) (encoded (search_rounds (is_less l.self) l.a l.k)) l.initial.list
