-- `closing::masks::put_spreading_items`: the buffer has the first k items, by `spreading-more`. Assumes nothing.
use mathlib.Core.Path.{◌≡◌}
use Rattle.bits.specs.Steps.{put_at}
use Rattle.builders.specs.Lists.{items_of}
use Rattle.closing.specs.Closing.{spreading_item}
use Rattle.closing.proofs.masks.put_spreading_items.Given as goal

abbrev pub invariant-loop-k : goal.invariant-loop-k
invariant-loop-k l = l.items ≡ put_at 0 (items_of (spreading_item l.marks) l.k) l.fn.items
