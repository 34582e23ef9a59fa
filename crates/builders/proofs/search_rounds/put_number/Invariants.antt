-- `builders::search_rounds::put_number`: the buffer has the first k items, by `items_more`. Assumes nothing.
use mathlib.Core.Path.{◌≡◌}
use Rattle.bits.specs.Steps.{put_at}
use Rattle.builders.specs.Searches.{number_items}
use Rattle.builders.proofs.search_rounds.put_number.Given as goal

abbrev pub invariant-loop-k : goal.invariant-loop-k
invariant-loop-k l = l.items ≡ put_at 0 (number_items l.number l.k) l.initial.items
