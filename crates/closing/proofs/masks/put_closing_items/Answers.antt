-- `closing::masks::put_closing_items`: the mask of the words to clear is the ninth item, by `items_more`. Assumes nothing.
use mathlib.Core.Path.{ap, ◌∙◌}
use mathlib.Core.Bool.{cond}
use mathlib.Core.List.{List}
use Prim.Native.Nat.{ℕ, ◌*◌}
use native.Mathlib.Omega.{arith}
use lib.Dec.{ltb}
use Rattle.bits.specs.Bits.{item}
use Rattle.bits.specs.Steps.{put_at}
use Rattle.registers.specs.Resolver.{responder_count}
use Rattle.closing.specs.Closing.{marked, closing_item}
use Rattle.builders.proofs.PutLaws.{items_more}
use Rattle.closing.proofs.masks.put_closing_items.Goals as goal

pub returns : goal.returns
returns c =
    let a = c.args in
    let p = c.put_closing_masks in
    let n = c.count_responders in
    let f = c.from_count in
    let o = c.put_item in
    items_more (closing_item (marked a.marks.now)) 8 0 a.items.now p.new.items o.new.items (omega arith) p.ensures
    (o.ensures
    ∙ ap (λ (z : List ℕ). put_at (32 * 8) z p.new.items) (f.ensures ∙ ap (λ (n : ℕ). item (λ p. cond (ltb p n) 0 1)) (unfold responder_count in n.ensures.0)))
