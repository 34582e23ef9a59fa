-- `builders::search_rounds::put_number`: the buffer has the first k items, by `items_more`. Assumes nothing.
use mathlib.Core.Path.{sym, ap₂, ◌∙◌}
use mathlib.Core.List.{List}
use Prim.Native.Nat.{ℕ, ◌*◌}
use native.Mathlib.Nat.{zero-add}
use native.Mathlib.Omega.{arith}
use Rattle.bits.specs.Bits.{digit}
use Rattle.bits.specs.Steps.{put_at}
use Rattle.bits.proofs.Puts.{put-nil}
use Rattle.builders.specs.Lists.{rounds}
use Rattle.builders.proofs.PutLaws.{items_more}
use Rattle.builders.proofs.search_rounds.put_number.Goals as goal

pub loop-k-init : goal.loop-k-init
unfolding rounds
loop-k-init c = sym (put-nil _ _)

pub loop-k-preserved : goal.loop-k-preserved
loop-k-preserved c =
    let a = c.args in
    let l = c.loop-k in
    let o = c.put_item in
    items_more (λ k p. digit a.number k) l.k 0 a.items.now l.items o.new.items (omega arith) l.invariant
    (o.ensures ∙ ap₂ (λ (j : ℕ) (z : List ℕ). put_at (32 * j) z l.items) (sym (zero-add l.k)) c.bit_item.ensures)
