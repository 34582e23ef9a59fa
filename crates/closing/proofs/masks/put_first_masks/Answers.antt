-- `closing::masks::put_first_masks`: the buffer has item 0 and the first k masks, by `items_more`. Assumes nothing.
use mathlib.Core.Path.{◌≡◌, refl, ap, ap₂, ◌∙◌}
use mathlib.Core.List.{List}
use Prim.Native.Nat.{ℕ, suc, ◌<◌, ◌+◌, ◌*◌}
use native.Mathlib.Omega.{arith}
use lib.ListN.{length, get_or}
use Rattle.bits.specs.Bits.{bit_of, item}
use Rattle.bits.proofs.Items.{pack-is}
use Rattle.bits.specs.Steps.{put_at}
use Rattle.builders.specs.Lists.{rounds, items_of}
use Rattle.closing.specs.Closing.{spreading_item}
use Rattle.builders.proofs.PutLaws.{items_more}
use Rattle.closing.proofs.MaskLaws.{spreading-mask}
use Rattle.closing.proofs.masks.put_first_masks.Goals as goal

-- the marks are an item as they are
whole : (m : List ℕ) → length m ≡ 32 → ((i : ℕ) → get_or m i 0 < 256) → m ≡ item (bit_of m)
whole m e h = pack-is (bit_of m) 32 m e h (λ k l. refl)

pub loop-k-init : goal.loop-k-init
unfolding rounds
loop-k-init c =
    let a = c.args in
    c.put_item.ensures ∙ ap (λ (z : List ℕ). put_at 0 z a.items.now) (whole a.marks.now c.told-marks c.fits-marks)

pub loop-k-preserved : goal.loop-k-preserved
loop-k-preserved c =
    let a = c.args in
    let l = c.loop-k in
    let o = c.put_item-in-loop-k in
    let g = spreading_item a.marks.now in
    let j : 1 + l.k ≡ 0 + suc l.k = omega arith in
    let n : suc l.k + 1 ≡ suc (l.k + 1) = omega arith in
    items_more g (suc l.k) 0 a.items.now l.items o.new.items (omega arith) l.invariant
    (o.ensures ∙ ap₂ (λ (j : ℕ) (z : List ℕ). put_at (32 * j) z l.items) j (c.arrivals.ensures ∙ spreading-mask a.marks.now l.k (omega arith)))
    ∙ ap (λ (n : ℕ). put_at 0 (items_of g n) a.items.now) n
