-- A good file has one form only: its content is written as the same bytes. Assumes nothing.
use mathlib.Core.Path.{◌≡◌, refl, sym, ap, ap₂, ◌∙◌}
use mathlib.Core.List.{List, ◌++◌}
use Prim.Native.Nat.{ℕ, zero, suc, ◌+◌, ◌-◌, ◌*◌, ◌/◌, ◌%◌, ◌<◌, ◌≤◌}
use native.Mathlib.Decide.{dec_lt}
use native.Mathlib.Numerals.{add-one}
use native.Mathlib.Omega.{arith}
use lib.ListN.{length, take, drop, length-drop, length-append, get_or-eq_default}
use lib.Seq.{take_all, take-add, drop_at, length-take-le, get_or-take, get_or-drop}
use Rattle.blocks.specs.Sums.{at}
use Rattle.blocks.specs.Block.{two_at, block, payload_of}
use Rattle.blocks.proofs.BlockLaws.{Good, fault-good, used_le, used-full, used-some}
use Rattle.blocks.proofs.OneForm.{good-block}
use Rattle.contents.specs.File.{block_at, gathered, content_of, block_count, first_blocks, blocks_of}
use Rattle.contents.specs.Payloads.{payload_at}
use Rattle.contents.proofs.FileLaws.{block-len, block-bytes, payload-len, blocks-each, gathered-more, gathered-front, whole, filled, Stands}

module _ (kind : ℕ) (bytes : List ℕ) (s : Stands kind bytes) where
  abbrev n : ℕ
  n = length bytes / 512

  abbrev used : ℕ → ℕ
  used i = two_at (block_at bytes i) 6

  pub size_is : length bytes ≡ 512 * n
  size_is = omega (arith, whole (length bytes) s.lengths)

  some-blocks : 0 < n
  some-blocks = omega (arith, whole (length bytes) s.lengths, filled (length bytes) s.lengths)

  inside : (i : ℕ) → i < n → 512 * i + 512 ≤ length bytes
  inside i h = omega (arith, size_is)

  good-at : (i : ℕ) → i < n → Good (block_at bytes i) kind i n
  good-at i h = fault-good (block_at bytes i) kind i n (blocks-each kind bytes n n i h s.blocks)

  used-small : (i : ℕ) → i < n → used i ≤ 496
  used-small i h = used_le i n (used i) (good-at i h).used

  -- every block but the last is full
  pub front-size : (i : ℕ) → i < n → length (gathered bytes i) ≡ 496 * i
  unfolding gathered
  front-size zero h = refl
  front-size (suc i) h =
      let l : i < n = omega arith in
      ap (λ (k : ℕ). length (gathered bytes k)) (sym (add-one i))
      ∙ gathered-more bytes i (inside i l) (used-small i l)
      ∙ omega (arith, front-size i l, used-full i n (used i) (omega arith) (good-at i l).used)

  pub content-size : length (content_of bytes) ≡ 496 * (n - 1) + used (n - 1)
  content-size =
      let l : n - 1 < n = omega (arith, some-blocks) in
      let e : n - 1 + 1 ≡ n = omega (arith, some-blocks) in
      sym (ap (λ (k : ℕ). length (gathered bytes k)) e) ∙ gathered-more bytes (n - 1) (inside (n - 1) l) (used-small (n - 1) l) ∙ ap (λ (k : ℕ). k + used (n - 1)) (front-size (n - 1) l)

  pub count-is : block_count (length (content_of bytes)) ≡ n
  count-is = go (dec_lt 1 n)
    where
      last : n - 1 < n
      last = omega (arith, some-blocks)

      go : Dec (1 < n) → block_count (length (content_of bytes)) ≡ n
      go (yes h) = omega (arith, content-size, used-small (n - 1) last, used-some (n - 1) n (used (n - 1)) h (good-at (n - 1) last).used)
      go (no u) = omega (arith, content-size, used-small (n - 1) last, some-blocks)

  -- the payload of block i is its part of the content
  payload-is : (i : ℕ) → i < n → take 496 (drop (496 * i) (content_of bytes)) ≡ payload_of (block_at bytes i)
  unfolding gathered
  payload-is i h = go (dec_lt (i + 1) n)
    where
      c : List ℕ
      c = content_of bytes

      p : List ℕ
      p = payload_of (block_at bytes i)

      lp : length p ≡ used i
      lp = payload-len (block_at bytes i) (block-len bytes i (inside i h)) (used-small i h)

      lg : length (gathered bytes i ++ p) ≡ 496 * i + used i
      lg = length-append (gathered bytes i) p ∙ ap₂ ◌+◌ (front-size i h) lp

      -- the first blocks and this one
      front : take (496 * i) c ++ take (used i) (drop (496 * i) c) ≡ gathered bytes i ++ p
      front = sym (take-add (496 * i) (used i) c) ∙ sym (ap (λ (k : ℕ). take k c) lg) ∙ gathered-front bytes (suc i) n h

      lc : 496 * i ≤ length c
      lc = omega (arith, content-size)

      here : take (used i) (drop (496 * i) c) ≡ p
      here =
          sym (drop_at (take (496 * i) c) (take (used i) (drop (496 * i) c)) (496 * i) (length-take-le (496 * i) c lc))
          ∙ ap (drop (496 * i)) front
          ∙ drop_at (gathered bytes i) p (496 * i) (front-size i h)

      go : Dec (i + 1 < n) → take 496 (drop (496 * i) c) ≡ p
      go (yes l) = ap (λ (k : ℕ). take k (drop (496 * i) c)) (sym (used-full i n (used i) l (good-at i h).used)) ∙ here
      go (no u) =
          let e : i ≡ n - 1 = omega arith in
          let ld : length (drop (496 * i) c) ≡ used i = length-drop (496 * i) c ∙ omega (arith, content-size, ap used e, e) in
          take_all 496 (drop (496 * i) c) (omega (arith, ld, used-small i h)) ∙ sym (take_all (used i) (drop (496 * i) c) (omega (arith, ld))) ∙ here

  -- byte k of the content stands at its place
  pub content-at : (k : ℕ) → k < length (content_of bytes) → at (content_of bytes) k ≡ at bytes (payload_at k)
  content-at k h = go (dec_lt (k / 496 + 1) n)
    where
      i : ℕ
      i = k / 496

      o : ℕ
      o = k % 496

      hi : i < n
      hi = omega (arith, h, some-blocks, content-size, used-small (n - 1) (omega (arith, some-blocks)))

      at-used : o < used i → at (content_of bytes) k ≡ at bytes (512 * i + (12 + o))
      at-used l =
          let e : k ≡ 496 * i + o = omega arith in
          ap (at (content_of bytes)) e
          ∙ sym (get_or-take 496 (drop (496 * i) (content_of bytes)) o 0 (omega arith) ∙ get_or-drop (496 * i) (content_of bytes) o 0)
          ∙ ap (λ (b : List ℕ). at b o) (payload-is i hi)
          ∙ get_or-take (used i) (drop 12 (block_at bytes i)) o 0 l
          ∙ get_or-drop 12 (block_at bytes i) o 0
          ∙ get_or-take 512 (drop (512 * i) bytes) (12 + o) 0 (omega arith)
          ∙ get_or-drop (512 * i) bytes (12 + o) 0

      go : Dec (i + 1 < n) → at (content_of bytes) k ≡ at bytes (512 * i + (12 + o))
      go (yes l) = at-used (omega (arith, used-full i n (used i) l (good-at i hi).used))
      go (no u) =
          let e : i ≡ n - 1 = omega (arith, hi) in
          at-used (omega (arith, h, hi, content-size, ap used e, e))

  module _ (small : (k : ℕ) → at bytes k < 256) where
    block-is : (i : ℕ) → i < n → block kind i n (take 496 (drop (496 * i) (content_of bytes))) ≡ block_at bytes i
    block-is i h =
        ap (block kind i n) (payload-is i h)
        ∙ sym (good-block (block_at bytes i) kind i n (block-len bytes i (inside i h)) (block-bytes bytes small i (inside i h)) (good-at i h))

    first-are : (i : ℕ) → i ≤ n → first_blocks kind (content_of bytes) n i ≡ take (512 * i) bytes
    unfolding first_blocks
    first-are zero h = refl
    first-are (suc i) h =
        let e : 512 * i + 512 ≡ 512 * suc i = omega arith in
        ap₂ ◌++◌ (first-are i (omega arith)) (block-is i h) ∙ sym (take-add (512 * i) 512 bytes) ∙ ap (λ (k : ℕ). take k bytes) e

    -- what is read and written again is the same bytes
    pub one_form : blocks_of kind (content_of bytes) ≡ bytes
    unfolding blocks_of
    one_form =
        ap (λ (k : ℕ). first_blocks kind (content_of bytes) k k) count-is
        ∙ first-are n (omega arith)
        ∙ take_all (512 * n) bytes (omega (arith, size_is))

    -- a content of bytes is one of bytes
    pub content-bytes : (k : ℕ) → at (content_of bytes) k < 256
    content-bytes k = go (dec_lt k (length (content_of bytes)))
      where
        go : Dec (k < length (content_of bytes)) → at (content_of bytes) k < 256
        go (yes l) = omega (arith, content-at k l, small (payload_at k))
        go (no u) = omega (arith, get_or-eq_default (content_of bytes) 0 {n = k} (omega arith))
