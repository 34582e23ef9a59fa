-- What is written is read back, and what is read is written back: a good file has one form only. Assumes nothing.
use mathlib.Core.Path.{◌≡◌, refl, sym, ap, ap₂, ◌∙◌}
use mathlib.Core.Bool.{Bool, true, cond, ◌&&◌, ◌||◌}
use mathlib.Core.List.{List, ◌++◌}
use Prim.Native.Nat.{ℕ, zero, suc, ◌+◌, ◌-◌, ◌*◌, ◌/◌, ◌%◌, ◌<◌, ◌≤◌, min}
use native.Mathlib.Numerals.{add-one}
use native.Mathlib.Decide.{dec_lt}
use native.Mathlib.Omega.{arith}
use lib.Dec.{eqb, leb, ltb}
use lib.ListN.{length, take, drop, length-drop, length-take}
use lib.Seq.{take_all, drop_at, take-add, take-append-le, drop-append-le}
use borrow.Author.Tests.{ne_eqb, eq-eqb, le-leb, lt-ltb, le-ltb}
use Rattle.blocks.specs.Block.{block, used_right, fault, payload_of}
use Rattle.blocks.proofs.WriteLaws.{length-block}
use Rattle.blocks.proofs.OneForm.{block-payload, block-good}
use Rattle.contents.specs.File.{done, refused, block_at, gathered, content_of, good, blocks_judged, kind_right, length_right, size_fits, file_judged, block_count, first_blocks, blocks_of}
use Rattle.contents.proofs.FileLaws.{blocks-good, file-good, size-le}
use Rattle.contents.proofs.WriteLaws.{length-blocks, payload-le}

-- ---- the blocks of a content
module _ (kind : ℕ) (content : List ℕ) where
  abbrev cnt : ℕ
  cnt = block_count (length content)

  abbrev pay : ℕ → List ℕ
  pay i = take 496 (drop (496 * i) content)

  abbrev all : List ℕ
  all = blocks_of kind content

  -- block i of the first n
  block_of : (n i : ℕ) → i < n → block_at (first_blocks kind content cnt n) i ≡ block kind i cnt (pay i)
  unfolding first_blocks
  block_of zero i h = absurd (omega arith)
  block_of (suc n) i h = go (dec_lt i n) (block_of n i)
    where
      f : List ℕ
      f = first_blocks kind content cnt n

      b : List ℕ
      b = block kind n cnt (pay n)

      lf : length f ≡ 512 * n
      lf = length-blocks kind content cnt n

      go : Dec (i < n) → (i < n → block_at f i ≡ block kind i cnt (pay i)) → block_at (f ++ b) i ≡ block kind i cnt (pay i)
      go (yes l) ih =
          ap (take 512) (drop-append-le (512 * i) f b (omega (arith, lf)))
          ∙ take-append-le 512 (drop (512 * i) f) b (omega (arith, lf, length-drop (512 * i) f))
          ∙ ih l
      go (no u) ih =
          let e : i ≡ n = omega arith in
          ap (λ (k : ℕ). take 512 (drop (512 * k) (f ++ b))) e
          ∙ ap (take 512) (drop_at f b (512 * n) lf)
          ∙ take_all 512 b (omega (arith, length-block kind n cnt (pay n) (payload-le content n)))
          ∙ sym (ap (λ (k : ℕ). block kind k cnt (pay k)) e)

  pub all-length : length all ≡ 512 * cnt
  unfolding blocks_of
  all-length = length-blocks kind content cnt cnt

  all-count : length all / 512 ≡ cnt
  all-count = omega (arith, all-length)

  all-block : (i : ℕ) → i < cnt → block_at all i ≡ block kind i cnt (pay i)
  unfolding blocks_of
  all-block i h = block_of cnt i h

  pay-len : (i : ℕ) → length (pay i) ≡ min 496 (length content - 496 * i)
  pay-len i = length-take 496 (drop (496 * i) content) ∙ ap (min 496) (length-drop (496 * i) content)

  pay-used : (i : ℕ) → i < cnt → used_right i cnt (length (pay i)) ≡ true
  unfolding used_right
  pay-used i h = go (dec_lt (i + 1) cnt) (dec_lt 1 cnt)
    where
      l : ℕ
      l = length (pay i)

      go : Dec (i + 1 < cnt) → Dec (1 < cnt) → cond (ltb (i + 1) cnt) (eqb l 496) (leb l 496 && (eqb cnt 1 || ltb 0 l)) ≡ true
      go (yes q) d = ap (λ (t : Bool). cond t (eqb l 496) (leb l 496 && (eqb cnt 1 || ltb 0 l))) (lt-ltb (i + 1) cnt q) ∙ eq-eqb l 496 (omega (arith, pay-len i))
      go (no q) (yes d) =
          ap (λ (t : Bool). cond t (eqb l 496) (leb l 496 && (eqb cnt 1 || ltb 0 l))) (le-ltb (i + 1) cnt (omega arith))
          ∙ ap₂ (λ (s t : Bool). s && t) (le-leb l 496 (omega (arith, pay-len i)))
          (ap₂ ◌||◌ (ne_eqb cnt 1 (λ e. omega arith)) (lt-ltb 0 l (omega (arith, pay-len i))))
      go (no q) (no d) =
          ap (λ (t : Bool). cond t (eqb l 496) (leb l 496 && (eqb cnt 1 || ltb 0 l))) (le-ltb (i + 1) cnt (omega arith))
          ∙ ap₂ (λ (s t : Bool). s && t) (le-leb l 496 (omega (arith, pay-len i)))
          (ap (λ (t : Bool). t || ltb 0 l) (eq-eqb cnt 1 (omega arith)))

  all-good : (n : ℕ) → n ≤ cnt → blocks_judged kind all cnt n ≡ good
  unfolding blocks_judged
  all-good zero h = refl
  all-good (suc n) h =
      sym (ap (blocks_judged kind all cnt) (add-one n))
      ∙ blocks-good kind all cnt n (all-good n (omega arith))
      (ap (λ (b : List ℕ). fault b kind n cnt) (all-block n (omega arith)) ∙ block-good kind n cnt (pay n) (payload-le content n) (pay-used n (omega arith)))

  all-gathered : (n : ℕ) → n ≤ cnt → gathered all n ≡ take (496 * n) content
  unfolding gathered
  all-gathered zero h = refl
  all-gathered (suc n) h =
      let e : 496 * n + 496 ≡ 496 * suc n = omega arith in
      ap₂ ◌++◌ (all-gathered n (omega arith)) (ap payload_of (all-block n (omega arith)) ∙ block-payload kind n cnt (pay n) (payload-le content n))
      ∙ sym (take-add (496 * n) 496 content)
      ∙ ap (λ (k : ℕ). take k content) e

  pub all-content : content_of all ≡ content
  all-content = ap (gathered all) all-count ∙ all-gathered cnt (omega arith) ∙ take_all (496 * cnt) content (omega arith)

  module _ (k : kind_right kind ≡ true) (s : size_fits kind (length content) ≡ true) where
    all_right : length_right (length all) ≡ true
    unfolding length_right
    all_right =
        let n = length all in
        let e : n ≡ 512 * cnt = all-length in
        ap₂ (λ (x y : Bool). x && y) (ap₂ ◌&&◌ (lt-ltb 0 n (omega arith)) (eq-eqb (n % 512) 0 (omega arith))) (le-leb n 34304 (omega (arith, size-le kind (length content) s)))

    -- every file that is written stands, with the content that was written
    pub trip : file_judged kind all ≡ done (length content)
    trip =
        file-good kind all k all_right (length content) (ap (λ (n : ℕ). blocks_judged kind all n n) all-count ∙ all-good cnt (omega arith)) (ap length (sym all-content))
        ∙ ap (λ (t : Bool). cond t (done (length content)) (refused 25 0)) s
