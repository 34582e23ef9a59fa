-- `closing::masks::put_spreading_items`: the buffer has the first k items, by `spreading-more`. Assumes nothing.
use native.Mathlib.Omega.{arith}
use Rattle.closing.proofs.MaskLaws.{spreading-more}
use Rattle.closing.proofs.masks.put_spreading_items.Goals as goal

pub loop-k-preserved : goal.loop-k-preserved
loop-k-preserved c =
    let a = c.args in
    let l = c.loop-k in
    spreading-more a.marks.now l.k a.items.now l.items c.repeat_item.new.items (omega arith) l.invariant c.repeat_item.ensures
