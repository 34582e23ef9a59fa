-- Laws of judging a file: what each block and each test settles, what a file that stands has, and how its content is gathered. Assumes nothing.
use mathlib.Core.Path.{◌≡◌, refl, sym, ap, ap₂, ◌∙◌}
use mathlib.Core.Bool.{Bool, true, false, cond, not, ◌&&◌, ◌||◌}
use Rattle.std.proofs.lemmas.Bool.{false≢true}
use mathlib.Core.List.{List, []}
use Prim.Native.Nat.{ℕ, zero, suc, ◌+◌, ◌-◌, ◌*◌, ◌/◌, ◌%◌, ◌<◌, ◌≤◌}
use native.Mathlib.Numerals.{add-one}
use native.Mathlib.Decide.{dec_lt, ℕ_discrete}
use native.Mathlib.Omega.{arith}
use lib.Dec.{eqb, leb, ltb}
use lib.ListN.{length, take, drop, get_or, length-drop, length-append}
use lib.Seq.{length-take-le, take-length, take-append-le, drop-drop}
use Rattle.std.specs.Simd.{first_chunks}
use borrow.Author.Tests.{ne_eqb, eqb-true, eqb-false, leb-true, ltb-true}
use Rattle.blocks.specs.Sums.{at}
use Rattle.blocks.specs.Block.{two_at, fault, payload_of}
use Rattle.bits.proofs.ByteLaws.{part_bytes}
use Rattle.bits.proofs.Rows.{and_left, and_right}
use Rattle.contents.specs.File.{done, refused, block_at, gathered, content_of, Verdict, good, bad, verdict, next, blocks_judged, is_picture, kind_right, length_right, size_fits, settled, file_judged}

-- ---- blocks of a file, and their content

pub block-part : (bytes : List ℕ) (i : ℕ) → take (512 * i + 512 - 512 * i) (drop (512 * i) bytes) ≡ block_at bytes i
block-part bytes i =
    let e : 512 * i + 512 - 512 * i ≡ 512 = omega arith in
    ap (λ (k : ℕ). take k (drop (512 * i) bytes)) e

-- the first k blocks, cut off one after the other
pub chunk_is : (k : ℕ) (bytes : List ℕ) (i : ℕ) (d : List ℕ) → i < k → get_or (first_chunks 512 k bytes) i d ≡ block_at bytes i
chunk_is zero bytes i d h = absurd (omega arith)
chunk_is (suc k) bytes zero d h = refl
chunk_is (suc k) bytes (suc i) d h =
    let e : 512 * i + 512 ≡ 512 * suc i = omega arith in
    chunk_is k (drop 512 bytes) i d (omega arith) ∙ ap (take 512) (drop-drop (512 * i) 512 bytes ∙ ap (λ (j : ℕ). drop j bytes) (omega arith))

pub block-len : (bytes : List ℕ) (i : ℕ) → 512 * i + 512 ≤ length bytes → length (block_at bytes i) ≡ 512
block-len bytes i h = length-take-le 512 (drop (512 * i) bytes) (omega (arith, length-drop (512 * i) bytes))

pub block-bytes : (bytes : List ℕ) → ((k : ℕ) → at bytes k < 256) → (i : ℕ) → 512 * i + 512 ≤ length bytes → (j : ℕ) → at (block_at bytes i) j < 256
block-bytes bytes small i h = (part_bytes bytes (length bytes) (512 * i) 512 h (record { size = refl; low = small })).low

pub payload-len : (b : List ℕ) → length b ≡ 512 → two_at b 6 ≤ 496 → length (payload_of b) ≡ two_at b 6
payload-len b l h = length-take-le (two_at b 6) (drop 12 b) (omega (arith, length-drop 12 b))

pub gathered-more : (bytes : List ℕ) (n : ℕ) → 512 * n + 512 ≤ length bytes → two_at (block_at bytes n) 6 ≤ 496
    → length (gathered bytes (n + 1)) ≡ length (gathered bytes n) + two_at (block_at bytes n) 6
unfolding gathered
gathered-more bytes n h u =
    ap (λ (k : ℕ). length (gathered bytes k)) (add-one n)
    ∙ length-append (gathered bytes n) (payload_of (block_at bytes n))
    ∙ ap (λ (k : ℕ). length (gathered bytes n) + k) (payload-len (block_at bytes n) (block-len bytes n h) u)

module _ (kind : ℕ) (bytes : List ℕ) (count : ℕ) where
  pub blocks-good : (n : ℕ) → blocks_judged kind bytes count n ≡ good → fault (block_at bytes n) kind n count ≡ 0 → blocks_judged kind bytes count (n + 1) ≡ good
  unfolding blocks_judged
  blocks-good n g e = rw (add-one n) (ap₂ (λ (v : Verdict) (x : ℕ). next v (verdict x n)) g e)

  pub blocks-bad : (n c : ℕ) → blocks_judged kind bytes count n ≡ good → fault (block_at bytes n) kind n count ≡ c → (c ≡ 0 → ⊥) → blocks_judged kind bytes count (n + 1) ≡ bad c n
  unfolding blocks_judged
  blocks-bad n c g e u =
      rw (add-one n)
      (ap₂ (λ (v : Verdict) (x : ℕ). next v (verdict x n)) g e
      ∙ ap (λ (t : Bool). cond t good (bad c n)) (ne_eqb c 0 u))

  pub blocks-stays : (n c p m : ℕ) → n ≤ m → blocks_judged kind bytes count n ≡ bad c p → blocks_judged kind bytes count m ≡ bad c p
  unfolding blocks_judged
  blocks-stays n c p zero h e =
      let z : zero ≡ n = omega arith in
      ap (blocks_judged kind bytes count) z ∙ e
  blocks-stays n c p (suc m) h e = go (dec_lt m n) (λ l. blocks-stays n c p m l e)
    where
      go : Dec (m < n) → (n ≤ m → blocks_judged kind bytes count m ≡ bad c p) → blocks_judged kind bytes count (suc m) ≡ bad c p
      go (yes l) ih =
          let z : suc m ≡ n = omega arith in
          ap (blocks_judged kind bytes count) z ∙ e
      go (no u) ih = ap (λ (v : Verdict). next v (verdict (fault (block_at bytes m) kind m count) m)) (ih (omega arith))

  -- if all are good, each is
  pub blocks-each : (n i : ℕ) → i < n → blocks_judged kind bytes count n ≡ good → fault (block_at bytes i) kind i count ≡ 0
  unfolding blocks_judged
  blocks-each zero i h g = absurd (omega arith)
  blocks-each (suc n) i h g = go (blocks_judged kind bytes count n) refl g (dec_lt i n) (λ l q. blocks-each n i l q)
    where
      here : (c : ℕ) → verdict c n ≡ good → c ≡ 0
      here c e = elim (ℕ_discrete c 0) [ yes q ↦ q | no u ↦ absurd (no-bad c (sym (ap (λ (t : Bool). cond t good (bad c n)) (ne_eqb c 0 u)) ∙ e)) ]
        where
          no-bad : (c : ℕ) → bad c n ≡ good → ⊥
          no-bad c q = let z : ◌≡◌ {A = ℕ} 0 1 = cc in omega arith

      go : (v : Verdict) → blocks_judged kind bytes count n ≡ v → next v (verdict (fault (block_at bytes n) kind n count) n) ≡ good → Dec (i < n)
          → (i < n → blocks_judged kind bytes count n ≡ good → fault (block_at bytes i) kind i count ≡ 0) → fault (block_at bytes i) kind i count ≡ 0
      go good q e (yes l) ih = ih l q
      go good q e (no u) ih =
          let z : i ≡ n = omega arith in
          ap (λ (k : ℕ). fault (block_at bytes k) kind k count) z ∙ here (fault (block_at bytes n) kind n count) e
      go (bad c p) q e d ih = absurd (let z : ◌≡◌ {A = ℕ} 0 1 = cc in omega arith)

module _ (kind : ℕ) (bytes : List ℕ) where
  pub file-22 : kind_right kind ≡ false → refused 22 0 ≡ file_judged kind bytes
  unfolding file_judged
  file-22 k = simp k

  pub file-20 : kind_right kind ≡ true → length_right (length bytes) ≡ false → refused 20 0 ≡ file_judged kind bytes
  unfolding file_judged
  file-20 k l = simp (k, l)

  module _ (k : kind_right kind ≡ true) (l : length_right (length bytes) ≡ true) where
    pub file-bad : (i c : ℕ) → i < length bytes / 512 → blocks_judged kind bytes (length bytes / 512) i ≡ good
        → fault (block_at bytes i) kind i (length bytes / 512) ≡ c → (c ≡ 0 → ⊥) → refused c i ≡ file_judged kind bytes
    unfolding file_judged
    file-bad i c h g e u =
        let n = length bytes / 512 in
        sym (ap₂ (λ (s t : Bool). cond (not s) (refused 22 0) (cond (not t) (refused 20 0) (settled kind (length (content_of bytes)) (blocks_judged kind bytes n n)))) k l
        ∙ ap (settled kind (length (content_of bytes))) (blocks-stays kind bytes n (i + 1) c i n (omega arith) (blocks-bad kind bytes n i c g e u)))

    pub file-good : (size : ℕ) → blocks_judged kind bytes (length bytes / 512) (length bytes / 512) ≡ good → size ≡ length (content_of bytes)
        → file_judged kind bytes ≡ cond (size_fits kind size) (done size) (refused 25 0)
    unfolding file_judged
    file-good size g e =
        let n = length bytes / 512 in
        ap₂ (λ (s t : Bool). cond (not s) (refused 22 0) (cond (not t) (refused 20 0) (settled kind (length (content_of bytes)) (blocks_judged kind bytes n n)))) k l
        ∙ ap₂ (settled kind) (sym e) g

-- ---- the content of the first blocks

gathered-mono : (bytes : List ℕ) (i n : ℕ) → i ≤ n → length (gathered bytes i) ≤ length (gathered bytes n)
unfolding gathered
gathered-mono bytes i zero h =
    let z : i ≡ zero = omega arith in
    omega (arith, ap (λ (k : ℕ). length (gathered bytes k)) z)
gathered-mono bytes i (suc n) h = go (dec_lt n i) (λ l. gathered-mono bytes i n l)
  where
    go : Dec (n < i) → (i ≤ n → length (gathered bytes i) ≤ length (gathered bytes n)) → length (gathered bytes i) ≤ length (gathered bytes (suc n))
    go (yes l) ih =
        let z : i ≡ suc n = omega arith in
        omega (arith, ap (λ (k : ℕ). length (gathered bytes k)) z)
    go (no u) ih =
        let m = ih (omega arith) in
        omega (arith, length-append (gathered bytes n) (payload_of (block_at bytes n)))

-- the content of the first blocks is where that of more begins
pub gathered-front : (bytes : List ℕ) (i n : ℕ) → i ≤ n → take (length (gathered bytes i)) (gathered bytes n) ≡ gathered bytes i
unfolding gathered
gathered-front bytes i zero h =
    let z : i ≡ zero = omega arith in
    ap (λ (k : ℕ). take (length (gathered bytes k)) []) z ∙ sym (ap (gathered bytes) z)
gathered-front bytes i (suc n) h = go (dec_lt n i) (λ l. gathered-front bytes i n l)
  where
    go : Dec (n < i) → (i ≤ n → take (length (gathered bytes i)) (gathered bytes n) ≡ gathered bytes i) → take (length (gathered bytes i)) (gathered bytes (suc n)) ≡ gathered bytes i
    go (yes l) ih =
        let z : i ≡ suc n = omega arith in
        ap (λ (k : ℕ). take (length (gathered bytes k)) (gathered bytes (suc n))) z ∙ take-length (gathered bytes (suc n)) ∙ sym (ap (gathered bytes) z)
    go (no u) ih = take-append-le (length (gathered bytes i)) (gathered bytes n) (payload_of (block_at bytes n)) (gathered-mono bytes i n (omega arith)) ∙ ih (omega arith)

-- ---- a file that is not refused
-- a bad block's number is not 0
pub blocks-number : (kind : ℕ) (bytes : List ℕ) (count n c p : ℕ) → blocks_judged kind bytes count n ≡ bad c p → c ≡ 0 → ⊥
unfolding blocks_judged
blocks-number kind bytes count zero c p e z = let q : ◌≡◌ {A = ℕ} 0 1 = cc in omega arith
blocks-number kind bytes count (suc n) c p e z = go (blocks_judged kind bytes count n) (blocks-number kind bytes count n) refl e
  where
    one : (x : ℕ) (t : Bool) → eqb x 0 ≡ t → cond t good (bad x n) ≡ bad c p → ⊥
    one x true q f = let r : ◌≡◌ {A = ℕ} 0 1 = cc in omega arith
    one x false q f = eqb-false x 0 q (cc)

    go : (v : Verdict) → ((c p : ℕ) → blocks_judged kind bytes count n ≡ bad c p → c ≡ 0 → ⊥) → blocks_judged kind bytes count n ≡ v
        → next v (verdict (fault (block_at bytes n) kind n count) n) ≡ bad c p → ⊥
    go good ih q f = one (fault (block_at bytes n) kind n count) (eqb (fault (block_at bytes n) kind n count) 0) refl f
    go (bad x y) ih q f = ih x y q (cc)

pub record Stands (kind : ℕ) (bytes : List ℕ) : Type 0 where
  pub kinds : kind_right kind ≡ true
  pub lengths : length_right (length bytes) ≡ true
  pub blocks : blocks_judged kind bytes (length bytes / 512) (length bytes / 512) ≡ good
  pub sizes : size_fits kind (length (content_of bytes)) ≡ true
  pub answer : file_judged kind bytes ≡ done (length (content_of bytes))

pub file-stands : (kind : ℕ) (bytes : List ℕ) → (file_judged kind bytes).number ≡ 0 → Stands kind bytes
unfolding file_judged
file-stands kind bytes e = one (kind_right kind) (length_right (length bytes)) (blocks_judged kind bytes n n) (size_fits kind size) refl refl refl refl e
  where
    n : ℕ
    n = length bytes / 512

    size : ℕ
    size = length (content_of bytes)

    one : (k l : Bool) (v : Verdict) (s : Bool) → kind_right kind ≡ k → length_right (length bytes) ≡ l → blocks_judged kind bytes n n ≡ v → size_fits kind size ≡ s
        → (cond (not k) (refused 22 0) (cond (not l) (refused 20 0) (settled kind size v))).number ≡ 0 → Stands kind bytes
    one true true good true ek el ev es e =
        record { kinds = ek; lengths = el; blocks = ev; sizes = es; answer = file-good kind bytes ek el size ev refl ∙ ap (λ (t : Bool). cond t (done size) (refused 25 0)) es }
    one true true good false ek el ev es e = absurd (omega (arith, rw es at e))
    one true true (bad c p) s ek el ev es e = absurd (blocks-number kind bytes n n c p ev e)
    one true false v s ek el ev es e = absurd (omega arith)
    one false l v s ek el ev es e = absurd (omega arith)

-- ---- what the tests of a kind and a size say

pub size-le : (kind size : ℕ) → size_fits kind size ≡ true → size ≤ 32768
unfolding size_fits
size-le kind size e = go (eqb kind 1) (eqb kind 4) (eqb kind 2) e
  where
    go : (p q t : Bool) → cond p (eqb size 8288) (cond q (eqb size 8292) (cond t (eqb (size % 8) 0 && leb size 32768) (eqb (size % 32) 0 && leb size 32768))) ≡ true
        → size ≤ 32768
    go true q t e = omega (arith, eqb-true size 8288 e)
    go false true t e = omega (arith, eqb-true size 8292 e)
    go false false true e = leb-true size 32768 (and_right (eqb (size % 8) 0) (leb size 32768) e)
    go false false false e = leb-true size 32768 (and_right (eqb (size % 32) 0) (leb size 32768) e)

pub kind-le : (kind : ℕ) → kind_right kind ≡ true → kind ≤ 4
unfolding kind_right
kind-le kind e = leb-true kind 4 (and_right (ltb 0 kind) (leb kind 4) e)

-- what the size's test by a kind says of the kind's number
pub asked_fits : {n kind : ℕ} {r t : Bool} (size : ℕ) → r ≡ size_fits n size → n ≡ kind → r ≡ t → size_fits kind size ≡ t
asked_fits size f e b = sym (f ∙ ap (λ (k : ℕ). size_fits k size) e) ∙ b

-- no number but 1 to 4 is that of a kind
pub kind_none : (kind : ℕ) → (0 < kind → kind ≤ 4 → ⊥) → kind_right kind ≡ false
unfolding kind_right
kind_none kind u = go (ltb 0 kind) (leb kind 4) refl refl
  where
    go : (s t : Bool) → ltb 0 kind ≡ s → leb kind 4 ≡ t → (s && t) ≡ false
    go true true es et = absurd (u (ltb-true 0 kind es) (leb-true kind 4 et))
    go true false es et = refl
    go false t es et = refl

-- so none of a picture either
pub picture_none : (kind : ℕ) → kind_right kind ≡ false → is_picture kind ≡ false
unfolding kind_right
picture_none kind h = go (eqb kind 1) (eqb kind 4) refl refl
  where
    go : (s t : Bool) → eqb kind 1 ≡ s → eqb kind 4 ≡ t → (s || t) ≡ false
    go true t es et = absurd (false≢true (sym h ∙ ap (λ (k : ℕ). ltb 0 k && leb k 4) (eqb-true kind 1 es)))
    go false true es et = absurd (false≢true (sym h ∙ ap (λ (k : ℕ). ltb 0 k && leb k 4) (eqb-true kind 4 et)))
    go false false es et = refl

pub whole : (n : ℕ) → length_right n ≡ true → n % 512 ≡ 0
unfolding length_right
whole n e = eqb-true (n % 512) 0 (and_right (ltb 0 n) (eqb (n % 512) 0) (and_left (ltb 0 n && eqb (n % 512) 0) (leb n 34304) e))

pub filled : (n : ℕ) → length_right n ≡ true → 0 < n
unfolding length_right
filled n e = ltb-true 0 n (and_left (ltb 0 n) (eqb (n % 512) 0) (and_left (ltb 0 n && eqb (n % 512) 0) (leb n 34304) e))
