-- `closing::masks::from_count`: the item has the words from `count` on that are below p, by `item-add`. Assumes nothing.
use mathlib.Core.Path.{◌≡◌}
use Rattle.bits.specs.Bits.{item}
use Rattle.closing.proofs.MaskLaws.{between}
use Rattle.closing.proofs.masks.from_count.Given as goal

abbrev pub invariant-loop-p : goal.invariant-loop-p
invariant-loop-p l = l.out ≡ item (between l.count l.p)
