-- Laws of the blocks of a content, as a loop writes them one after the other. Assumes nothing.
use mathlib.Core.Path.{◌≡◌, refl, sym, ap, ap₂, ◌∙◌}
use mathlib.Core.List.{List, ◌++◌, append_assoc}
use Prim.Native.Nat.{ℕ, zero, suc, ◌+◌, ◌-◌, ◌*◌, ◌≤◌}
use native.Mathlib.Numerals.{add-one}
use native.Mathlib.Omega.{arith}
use lib.ListN.{length, take, drop, length-append, length-take}
use lib.Seq.{take_at, drop-drop, drop-append-add}
use borrow.Rule.Slice.PartMut.{put_mid, Post-is}
use Rattle.blocks.specs.Block.{block}
use Rattle.blocks.proofs.WriteLaws.{length-block}
use Rattle.contents.specs.File.{block_count, first_blocks, blocks_of}
use Rattle.contents.specs.Content.{over}

-- ---- the blocks of a content, one after the other
pub payload-le : (content : List ℕ) (i : ℕ) → length (take 496 (drop (496 * i) content)) ≤ 496
payload-le content i = omega (arith, length-take 496 (drop (496 * i) content))

pub length-blocks : (kind : ℕ) (content : List ℕ) (count n : ℕ) → length (first_blocks kind content count n) ≡ 512 * n
unfolding first_blocks
length-blocks kind content count zero = refl
length-blocks kind content count (suc n) =
    let pay = take 496 (drop (496 * n) content) in
    omega (arith, length-append (first_blocks kind content count n) (block kind n count pay), length-blocks kind content count n, length-block kind n count pay (payload-le content n))

pub blocks_more : (kind : ℕ) (content : List ℕ) (count i : ℕ) (out old ys : List ℕ)
    → out ≡ first_blocks kind content count i ++ drop (512 * i) old
    → ys ≡ block kind i count (take 496 (drop (496 * i) content))
    → put_mid (512 * i) (512 * i + 512 - 512 * i) out ys ≡ first_blocks kind content count (i + 1) ++ drop (512 * (i + 1)) old
unfolding first_blocks
blocks_more kind content count i out old ys e p =
    let f = first_blocks kind content count i in
    let b = block kind i count (take 496 (drop (496 * i) content)) in
    let lf : length f ≡ 512 * i = length-blocks kind content count i in
    let n : 512 * i + 512 ≡ length f + 512 = omega arith in
    let m : 512 * i + 512 ≡ 512 * (i + 1) = omega arith in
    ap₂ (λ (x y : List ℕ). take (512 * i) out ++ (x ++ y)) p (Post-is (512 * i) (512 * i + 512) out (omega arith))
    ∙ ap (λ (x : List ℕ). take (512 * i) x ++ (b ++ drop (512 * i + 512) x)) e
    ∙ ap₂ (λ (x y : List ℕ). x ++ (b ++ y)) (take_at f (drop (512 * i) old) (512 * i) lf)
    (ap (λ (k : ℕ). drop k (f ++ drop (512 * i) old)) n ∙ drop-append-add f (drop (512 * i) old) 512 ∙ drop-drop 512 (512 * i) old ∙ ap (λ (k : ℕ). drop k old) m)
    ∙ sym (append_assoc f b (drop (512 * (i + 1)) old))
    ∙ ap (λ (k : ℕ). first_blocks kind content count k ++ drop (512 * (i + 1)) old) (sym (add-one i))

-- all blocks are written
pub blocks-done : (kind : ℕ) (content : List ℕ) (count i : ℕ) (out old : List ℕ) → count ≡ block_count (length content) → i ≡ count
    → out ≡ first_blocks kind content count i ++ drop (512 * i) old → out ≡ over (blocks_of kind content) old
unfolding blocks_of
blocks-done kind content count i out old q e p =
    let n = block_count (length content) in
    p
    ∙ ap₂ (λ (x y : ℕ). first_blocks kind content x y ++ drop (512 * y) old) q (e ∙ q)
    ∙ ap (λ (k : ℕ). first_blocks kind content n n ++ drop k old) (sym (length-blocks kind content n n))
