-- A good file with one byte altered, or with two unequal neighbours swapped, is refused with 21, at the block of the first such byte. Document 01, Errors that look right. Assumes nothing.
use mathlib.Core.Path.{◌≡◌, refl, sym, ap, ap₂, ◌∙◌}
use mathlib.Core.Bool.{true}
use mathlib.Core.List.{List}
use Prim.Native.Nat.{ℕ, zero, suc, ◌+◌, ◌-◌, ◌*◌, ◌/◌, ◌%◌, ◌<◌, ◌≤◌}
use native.Mathlib.Decide.{dec_lt}
use native.Mathlib.Omega.{arith}
use lib.ListN.{length, take, drop, set, length-set}
use lib.Seq.{drop-set-add, take-set-le, take-set-lt, get_or-take, get_or-drop}
use Rattle.bits.specs.Rows.{Row}
use Rattle.blocks.specs.Sums.{at}
use Rattle.blocks.specs.Block.{sums_right, fault}
use Rattle.blocks.specs.Swap.{swapped}
use Rattle.blocks.proofs.BlockLaws.{fault-good}
use Rattle.blocks.proofs.Detection.{altered-21, neighbours-21}
use Rattle.contents.specs.File.{refused, block_at, Verdict, good, bad, verdict, next, blocks_judged, file_judged, length_right}
use Rattle.contents.specs.Content.{read_answer}
use Rattle.contents.proofs.AnswerLaws.{read-refused}
use Rattle.contents.proofs.FileLaws.{block-len, block-bytes, blocks-each, blocks-stays, file-bad, whole, Stands}

module _ (bytes : List ℕ) (i m v : ℕ) where
  -- the block of the byte, and those before
  block_here : m < 512 → block_at (set bytes (512 * i + m) v) i ≡ set (block_at bytes i) m v
  block_here h = ap (take 512) (drop-set-add (512 * i) bytes m v) ∙ take-set-lt 512 (drop (512 * i) bytes) m v h

  block-before : (j : ℕ) → j < i → block_at (set bytes (512 * i + m) v) j ≡ block_at bytes j
  block-before j h =
      let e : 512 * i + m ≡ 512 * j + (512 * i + m - 512 * j) = omega arith in
      ap (λ (k : ℕ). block_at (set bytes k v) j) e
      ∙ ap (take 512) (drop-set-add (512 * j) bytes (512 * i + m - 512 * j) v)
      ∙ take-set-le 512 (drop (512 * j) bytes) (512 * i + m - 512 * j) v (omega arith)

-- if all are good, so are the first
blocks-first : (kind : ℕ) (bytes : List ℕ) (count n i : ℕ) → i ≤ n → blocks_judged kind bytes count n ≡ good → blocks_judged kind bytes count i ≡ good
blocks-first kind bytes count n i h g = go (blocks_judged kind bytes count i) refl
  where
    go : (v : Verdict) → blocks_judged kind bytes count i ≡ v → blocks_judged kind bytes count i ≡ good
    go good e = e
    go (bad c p) e =
        let s = blocks-stays kind bytes count i c p n h e in
        absurd (let z : ◌≡◌ {A = ℕ} 0 1 = cc in omega arith)

blocks-ext : (kind : ℕ) (a b : List ℕ) (count n : ℕ) → ((j : ℕ) → j < n → block_at a j ≡ block_at b j) → blocks_judged kind a count n ≡ blocks_judged kind b count n
unfolding blocks_judged
blocks-ext kind a b count zero e = refl
blocks-ext kind a b count (suc n) e =
    ap₂ (λ (v : Verdict) (l : List ℕ). next v (verdict (fault l kind n count) n)) (blocks-ext kind a b count n (λ j h. e j (omega arith))) (e n (omega arith))

module _ (kind : ℕ) (bytes : List ℕ) (s : Stands kind bytes) (small : (k : ℕ) → at bytes k < 256) where
  -- another file of the length, the same up to block i, which has wrong sums
  wrong-block : (c : List ℕ) (i : ℕ) → length c ≡ length bytes → 512 * i + 512 ≤ length bytes
      → ((j : ℕ) → j < i → block_at c j ≡ block_at bytes j) → fault (block_at c i) kind i (length bytes / 512) ≡ 21 → file_judged kind c ≡ refused 21 i
  wrong-block c i lc hi same bad21 =
      let n = length bytes / 512 in
      sym (file-bad kind c s.kinds (ap length_right lc ∙ s.lengths) i 21 (omega arith)
      (ap (λ (k : ℕ). blocks_judged kind c (k / 512) i) lc ∙ blocks-ext kind c bytes n i same ∙ blocks-first kind bytes n n i (omega arith) s.blocks)
      (ap (λ (k : ℕ). fault (block_at c i) kind i (k / 512)) lc ∙ bad21)
      (λ q. omega arith))

  sums-ok : (i : ℕ) → 512 * i + 512 ≤ length bytes → sums_right (block_at bytes i) ≡ true
  sums-ok i h =
      let n = length bytes / 512 in
      (fault-good (block_at bytes i) kind i n (blocks-each kind bytes n n i (omega arith) s.blocks)).sums

  at_block : (i m : ℕ) → m < 512 → at (block_at bytes i) m ≡ at bytes (512 * i + m)
  at_block i m h = get_or-take 512 (drop (512 * i) bytes) m 0 h ∙ get_or-drop (512 * i) bytes m 0

  altered-at : (i m v : ℕ) → m < 512 → 512 * i + 512 ≤ length bytes → v < 256 → (v ≡ at bytes (512 * i + m) → ⊥) → file_judged kind (set bytes (512 * i + m) v) ≡ refused 21 i
  altered-at i m v hm hi hv u =
      wrong-block (set bytes (512 * i + m) v) i (length-set bytes (512 * i + m) v) hi (λ j h. block-before bytes i m v j h)
      (ap (λ (l : List ℕ). fault l kind i (length bytes / 512)) (block_here bytes i m v hm)
      ∙ altered-21 (block_at bytes i) kind i (length bytes / 512) (block-len bytes i hi) (block-bytes bytes small i hi) (sums-ok i hi) m v hm hv (λ q. u (q ∙ at_block i m hm)))

  -- neighbours within a block
  swapped_at : (i m : ℕ) → m + 1 < 512 → 512 * i + 512 ≤ length bytes → (at bytes (512 * i + m) ≡ at bytes (512 * i + (m + 1)) → ⊥)
      → file_judged kind (swapped bytes (512 * i + m) (512 * i + (m + 1))) ≡ refused 21 i
  unfolding swapped
  swapped_at i m hm hi u =
      let x = at bytes (512 * i + m) in
      let y = at bytes (512 * i + (m + 1)) in
      let mid = set bytes (512 * i + m) y in
      wrong-block (set mid (512 * i + (m + 1)) x) i (length-set mid (512 * i + (m + 1)) x ∙ length-set bytes (512 * i + m) y) hi
      (λ j h. block-before mid i (m + 1) x j h ∙ block-before bytes i m y j h)
      (ap (λ (l : List ℕ). fault l kind i (length bytes / 512))
      (block_here mid i (m + 1) x hm
      ∙ ap₂ (λ (l : List ℕ) (k : ℕ). set l (m + 1) k) (block_here bytes i m y (omega arith) ∙ ap (set (block_at bytes i) m) (sym (at_block i (m + 1) hm))) (sym (at_block i m (omega arith))))
      ∙ neighbours-21 (block_at bytes i) kind i (length bytes / 512) (block-len bytes i hi) (block-bytes bytes small i hi) (sums-ok i hi) m hm
      (λ q. u (sym (at_block i m (omega arith)) ∙ q ∙ at_block i (m + 1) hm)))

  -- the last byte of a block and the first of the next
  crossed-at : (i : ℕ) → 512 * i + 512 < length bytes → (at bytes (512 * i + 511) ≡ at bytes (512 * i + 512) → ⊥)
      → file_judged kind (swapped bytes (512 * i + 511) (512 * i + 512)) ≡ refused 21 i
  unfolding swapped
  crossed-at i hi u =
      let x = at bytes (512 * i + 511) in
      let y = at bytes (512 * i + 512) in
      let mid = set bytes (512 * i + 511) y in
      let e : 512 * i + 512 ≡ 512 * (i + 1) + 0 = omega arith in
      wrong-block (set mid (512 * i + 512) x) i (length-set mid (512 * i + 512) x ∙ length-set bytes (512 * i + 511) y) (omega arith)
      (λ j h. ap (λ (k : ℕ). block_at (set mid k x) j) e ∙ block-before mid (i + 1) 0 x j (omega arith) ∙ block-before bytes i 511 y j h)
      (ap (λ (l : List ℕ). fault l kind i (length bytes / 512))
      (ap (λ (k : ℕ). block_at (set mid k x) i) e ∙ block-before mid (i + 1) 0 x i (omega arith) ∙ block_here bytes i 511 y (omega arith))
      ∙ altered-21 (block_at bytes i) kind i (length bytes / 512) (block-len bytes i (omega arith)) (block-bytes bytes small i (omega arith)) (sums-ok i (omega arith)) 511 y (omega arith) (small (512 * i + 512))
      (λ q. u (sym (at_block i 511 (omega arith)) ∙ sym q)))

  -- any byte of a good file
  pub altered-file : (k v : ℕ) → k < length bytes → v < 256 → (v ≡ at bytes k → ⊥) → file_judged kind (set bytes k v) ≡ refused 21 (k / 512)
  altered-file k v hk hv u =
      let e : 512 * (k / 512) + k % 512 ≡ k = omega arith in
      let w = whole (length bytes) s.lengths in
      sym (ap (λ (x : ℕ). file_judged kind (set bytes x v)) e)
      ∙ altered-at (k / 512) (k % 512) v (omega arith) (omega arith) hv (λ q. u (q ∙ ap (at bytes) e))

  -- any two unequal neighbours of a good file
  pub swapped-file : (k : ℕ) → k + 1 < length bytes → (at bytes k ≡ at bytes (k + 1) → ⊥) → file_judged kind (swapped bytes k (k + 1)) ≡ refused 21 (k / 512)
  swapped-file k hk u = go (dec_lt (k % 512) 511)
    where
      i : ℕ
      i = k / 512

      w : length bytes % 512 ≡ 0
      w = whole (length bytes) s.lengths

      go : Dec (k % 512 < 511) → file_judged kind (swapped bytes k (k + 1)) ≡ refused 21 i
      go (yes l) =
          let e : k ≡ 512 * i + k % 512 = omega arith in
          let f : k + 1 ≡ 512 * i + (k % 512 + 1) = omega arith in
          ap₂ (λ (x y : ℕ). file_judged kind (swapped bytes x y)) e f
          ∙ swapped_at i (k % 512) (omega arith) (omega (arith, w)) (λ q. u (ap (at bytes) e ∙ q ∙ sym (ap (at bytes) f)))
      go (no n) =
          let e : k ≡ 512 * i + 511 = omega arith in
          let f : k + 1 ≡ 512 * i + 512 = omega arith in
          ap₂ (λ (x y : ℕ). file_judged kind (swapped bytes x y)) e f
          ∙ crossed-at i (omega (arith, w)) (λ q. u (ap (at bytes) e ∙ q ∙ sym (ap (at bytes) f)))

  -- so every reader and every conversion refuses it, whatever else is asked
  pub altered-read : (k v : ℕ) (rows : List Row) (n : ℕ) → k < length bytes → v < 256 → (v ≡ at bytes k → ⊥) → read_answer kind (set bytes k v) rows n ≡ refused 21 (k / 512)
  altered-read k v rows n hk hv u =
      let e = altered-file k v hk hv u in
      sym (read-refused kind (set bytes k v) rows n (refused 21 (k / 512)) (sym e) (λ z. omega arith))

  pub swapped-read : (k : ℕ) (rows : List Row) (n : ℕ) → k + 1 < length bytes → (at bytes k ≡ at bytes (k + 1) → ⊥) → read_answer kind (swapped bytes k (k + 1)) rows n ≡ refused 21 (k / 512)
  swapped-read k rows n hk u =
      let e = swapped-file k hk u in
      sym (read-refused kind (swapped bytes k (k + 1)) rows n (refused 21 (k / 512)) (sym e) (λ z. omega arith))
