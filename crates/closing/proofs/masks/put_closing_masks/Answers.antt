-- `closing::masks::put_closing_masks`: the buffer has the first t items, by `items_more`. Assumes nothing.
use mathlib.Core.Path.{sym, ap₂, ◌∙◌}
use mathlib.Core.List.{List}
use Prim.Native.Nat.{ℕ, ◌*◌}
use native.Mathlib.Nat.{zero-add}
use native.Mathlib.Omega.{arith}
use Rattle.bits.specs.Steps.{put_at}
use Rattle.bits.proofs.Puts.{put-nil}
use Rattle.builders.specs.Lists.{rounds}
use Rattle.closing.specs.Closing.{marked, closing_item}
use Rattle.builders.proofs.PutLaws.{items_more}
use Rattle.closing.proofs.MaskLaws.{closing-mask}
use Rattle.closing.proofs.masks.put_closing_masks.Goals as goal

pub loop-t-init : goal.loop-t-init
unfolding rounds
loop-t-init c = sym (put-nil _ _)

pub loop-t-preserved : goal.loop-t-preserved
loop-t-preserved c =
    let a = c.args in
    let l = c.loop-t in
    let m = marked a.marks.now in
    let o = c.put_item in
    items_more (closing_item m) l.t 0 a.items.now l.items o.new.items (omega arith) l.invariant
    (o.ensures ∙ ap₂ (λ (j : ℕ) (z : List ℕ). put_at (32 * j) z l.items) (sym (zero-add l.t)) (c.arrivals.ensures ∙ closing-mask m l.t (omega arith)))
