-- `closing::masks::put_closing_masks`: the buffer has the first t items, by `items_more`. Assumes nothing.
use mathlib.Core.Path.{◌≡◌}
use Rattle.bits.specs.Steps.{put_at}
use Rattle.builders.specs.Lists.{items_of}
use Rattle.closing.specs.Closing.{marked, closing_item}
use Rattle.closing.proofs.masks.put_closing_masks.Given as goal

abbrev pub invariant-loop-t : goal.invariant-loop-t
invariant-loop-t l = l.items ≡ put_at 0 (items_of (closing_item (marked l.marks)) l.t) l.fn.items
