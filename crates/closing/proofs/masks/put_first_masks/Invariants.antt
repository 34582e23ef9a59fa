-- `closing::masks::put_first_masks`: the buffer has item 0 and the first k masks, by `items_more`. Assumes nothing.
use mathlib.Core.Path.{◌≡◌}
use Prim.Native.Nat.{suc}
use Rattle.bits.specs.Steps.{put_at}
use Rattle.builders.specs.Lists.{items_of}
use Rattle.closing.specs.Closing.{spreading_item}
use Rattle.closing.proofs.masks.put_first_masks.Given as goal

abbrev pub invariant-loop-k : goal.invariant-loop-k
invariant-loop-k l = l.items ≡ put_at 0 (items_of (spreading_item l.marks) (suc l.k)) l.fn.items
