-- What the two sums catch, and what they do not: a single altered byte and unequal neighbours swapped always, a far swap not. Document 01, Errors that look right. Assumes nothing.
use mathlib.Core.Path.{◌≡◌, refl, sym, ap, ap₂, ◌∙◌}
use mathlib.Core.Logic.{◌≢◌}
use mathlib.Core.Bool.{Bool, true, false, ◌&&◌, and-false}
use mathlib.Core.List.{List}
use Prim.Native.Nat.{ℕ, zero, suc, ◌+◌, ◌-◌, ◌*◌, ◌/◌, ◌%◌, ◌<◌, ◌≤◌}
use native.Mathlib.Nat.{suc-mul}
use native.Mathlib.Decide.{dec_lt, ℕ_discrete}
use native.Mathlib.Omega.{arith}
use lib.Dec.{eqb}
use lib.ListN.{length, set, take, length-set}
use lib.Seq.{get_or-set_same, get_or-set_other, take-set-le}
use borrow.Author.Tests.{ne_eqb, eqb-true}
use Rattle.blocks.specs.Sums.{total, at, s1, s2}
use Rattle.blocks.specs.Block.{two_at, sums_right, fault}
use Rattle.blocks.specs.Swap.{swapped}
use Rattle.blocks.proofs.SumLaws.{plain, weighted, total_ext, s1-front, s2-front}
use Rattle.bits.proofs.Rows.{and_left, and_right}
use Rattle.blocks.proofs.BlockLaws.{fault-21}

-- ---- a sum in which one number is changed
total-one : (f g : ℕ → ℕ) (k n : ℕ) → k < n → ((i : ℕ) → i ≢ k → f i ≡ g i) → total f n + g k ≡ total g n + f k
unfolding total
total-one f g k zero h e = absurd (omega arith)
total-one f g k (suc n) h e = go (dec_lt k n) (λ l. total-one f g k n l e)
  where
    go : Dec (k < n) → (k < n → total f n + g k ≡ total g n + f k) → total f n + f n + g k ≡ total g n + g n + f k
    go (yes l) ih = omega (arith, ih l, e n (λ q. omega arith))
    go (no u) ih =
        let q : k ≡ n = omega arith in
        omega (arith, total_ext f g n (λ i l. e i (λ r. omega arith)), ap f q, ap g q)

module _ (b : List ℕ) (size : length b ≡ 512) (k v : ℕ) where
  pub plain-set : k < 508 → plain (set b k v) 508 + at b k ≡ plain b 508 + v
  plain-set h =
      total-one (λ i. at (set b k v) i) (λ i. at b i) k 508 h (λ i u. get_or-set_other b k i v 0 u)
      ∙ ap (λ (x : ℕ). plain b 508 + x) (get_or-set_same b k v 0 (omega arith))

  pub weighted-set : k < 508 → weighted (set b k v) 508 + (508 - k) * at b k ≡ weighted b 508 + (508 - k) * v
  weighted-set h =
      total-one (λ i. (508 - i) * at (set b k v) i) (λ i. (508 - i) * at b i) k 508 h (λ i u. ap (λ (x : ℕ). (508 - i) * x) (get_or-set_other b k i v 0 u))
      ∙ ap (λ (x : ℕ). weighted b 508 + (508 - k) * x) (get_or-set_same b k v 0 (omega arith))

  -- past the summed bytes the sums stay
  pub s1-past : 508 ≤ k → s1 (set b k v) ≡ s1 b
  s1-past h = s1-front (set b k v) (take 508 b) (take-set-le 508 b k v h) ∙ sym (s1-front b (take 508 b) refl)

  pub s2-past : 508 ≤ k → s2 (set b k v) ≡ s2 b
  s2-past h = s2-front (set b k v) (take 508 b) (take-set-le 508 b k v h) ∙ sym (s2-front b (take 508 b) refl)

-- ---- the sums as two equations
pub sums-of : (b : List ℕ) → sums_right b ≡ true → (two_at b 508 ≡ s1 b) × (two_at b 510 ≡ s2 b)
unfolding sums_right
sums-of b e = (
  eqb-true (two_at b 508) (s1 b) (and_left (eqb (two_at b 508) (s1 b)) (eqb (two_at b 510) (s2 b)) e),
  eqb-true (two_at b 510) (s2 b) (and_right (eqb (two_at b 508) (s1 b)) (eqb (two_at b 510) (s2 b)) e),
)

pub wrong-1 : (b : List ℕ) → (two_at b 508 ≡ s1 b → ⊥) → sums_right b ≡ false
unfolding sums_right
wrong-1 b u = ap (λ (t : Bool). t && eqb (two_at b 510) (s2 b)) (ne_eqb (two_at b 508) (s1 b) u)

pub wrong-2 : (b : List ℕ) → (two_at b 510 ≡ s2 b → ⊥) → sums_right b ≡ false
unfolding sums_right
wrong-2 b u = ap (λ (t : Bool). eqb (two_at b 508) (s1 b) && t) (ne_eqb (two_at b 510) (s2 b) u) ∙ and-false (eqb (two_at b 508) (s1 b))

-- ---- below the modulus, numbers that differ by multiples of it are the same
same-quot : (q r d e : ℕ) → 65535 * q + d ≡ 65535 * r + e → d < 65535 → e < 65535 → d ≡ e
same-quot q r d e h hd he = go (dec_lt q r) (dec_lt r q)
  where
    go : Dec (q < r) → Dec (r < q) → d ≡ e
    go (yes l) f = absurd (omega arith)
    go (no n) (yes l) = absurd (omega arith)
    go (no n) (no m) = omega arith

-- two sums with the same remainder
pub same_rest : (p r d e : ℕ) → p + d ≡ r + e → p % 65535 ≡ r % 65535 → d < 65535 → e < 65535 → d ≡ e
same_rest p r d e h m hd he = same-quot (p / 65535) (r / 65535) d e (omega arith) hd he

-- a sum that changes one way, and its stored remainder the other way: 65,535 is odd
both_ways : (p r x y h : ℕ) → p + x ≡ r + y → x + h ≡ p % 65535 → y + h ≡ r % 65535 → x < 256 → y < 256 → x ≡ y
both_ways p r x y h e s t hx hy =
    let d : 2 * x ≡ 2 * y = same-quot (p / 65535) (r / 65535) (2 * x) (2 * y) (omega arith) (omega arith) (omega arith) in
    omega arith

-- ---- a single altered byte
module _ (b : List ℕ) (size : length b ≡ 512) (bytes : (i : ℕ) → at b i < 256) (right : sums_right b ≡ true) where
  pub altered : (k v : ℕ) → k < 512 → v < 256 → (v ≡ at b k → ⊥) → sums_right (set b k v) ≡ false
  unfolding s1
  altered k v hk hv u = go (dec_lt k 508) (ℕ_discrete k 508) (ℕ_discrete k 509) (ℕ_discrete k 510)
    where
      c : List ℕ
      c = set b k v

      same : at c k ≡ v
      same = get_or-set_same b k v 0 (omega arith)

      other : (j : ℕ) → j ≢ k → at c j ≡ at b j
      other j n = get_or-set_other b k j v 0 n

      q : (two_at b 508 ≡ s1 b) × (two_at b 510 ≡ s2 b)
      q = sums-of b right

      go : Dec (k < 508) → Dec (k ≡ 508) → Dec (k ≡ 509) → Dec (k ≡ 510) → sums_right c ≡ false
      go (yes l) d e f =
          let o8 = other 508 (λ z. omega arith) in
          let o9 = other 509 (λ z. omega arith) in
          let hb = bytes k in
          wrong-1 c (λ w. u (sym (same_rest (plain c 508) (plain b 508) (at b k) v (plain-set b size k v l) (sym w ∙ ap₂ (λ (x y : ℕ). x + 256 * y) o8 o9 ∙ q.0) (omega arith) (omega arith))))
      go (no n) (yes l) e f =
          wrong-1 c (λ w. u (omega (arith, s1-past b size k v (omega arith), q.0, same, ap (at c) l, ap (at b) l, other 509 (λ z. omega arith))))
      go (no n) (no m) (yes l) f =
          wrong-1 c (λ w. u (omega (arith, s1-past b size k v (omega arith), q.0, same, ap (at c) l, ap (at b) l, other 508 (λ z. omega arith))))
      go (no n) (no m) (no o) (yes l) =
          wrong-2 c (λ w. u (omega (arith, s2-past b size k v (omega arith), q.1, same, ap (at c) l, ap (at b) l, other 511 (λ z. omega arith))))
      go (no n) (no m) (no o) (no p) =
          let l : k ≡ 511 = omega arith in
          wrong-2 c (λ w. u (omega (arith, s2-past b size k v (omega arith), q.1, same, ap (at c) l, ap (at b) l, other 510 (λ z. omega arith))))

-- ---- two neighbours swapped
module _ (b : List ℕ) (size : length b ≡ 512) (i j : ℕ) (ne : i ≢ j) (hi : i < 512) (hj : j < 512) where
  mid : List ℕ
  mid = set b i (at b j)

  mid-size : length mid ≡ 512
  unfolding mid
  mid-size = length-set b i (at b j) ∙ size

  pub swapped-i : at (swapped b i j) i ≡ at b j
  unfolding swapped
  swapped-i = get_or-set_other (set b i (at b j)) j i (at b i) 0 ne ∙ get_or-set_same b i (at b j) 0 (omega arith)

  pub swapped-j : at (swapped b i j) j ≡ at b i
  unfolding swapped mid
  swapped-j = get_or-set_same (set b i (at b j)) j (at b i) 0 (omega (arith, mid-size))

  pub swapped_other : (k : ℕ) → k ≢ i → k ≢ j → at (swapped b i j) k ≡ at b k
  unfolding swapped
  swapped_other k p q = get_or-set_other (set b i (at b j)) j k (at b i) 0 q ∙ get_or-set_other b i k (at b j) 0 p

  pub swapped-size : length (swapped b i j) ≡ 512
  unfolding swapped
  swapped-size = length-set (set b i (at b j)) j (at b i) ∙ length-set b i (at b j) ∙ size

  -- the plain sum stays, the weighted one changes by the weights
  module _ (li : i < 508) (lj : j < 508) where
    pub plain-swapped : plain (swapped b i j) 508 ≡ plain b 508
    unfolding swapped mid
    plain-swapped =
        omega (arith, plain-set mid mid-size j (at b i) lj, plain-set b size i (at b j) li, get_or-set_other b i j (at b j) 0 (λ e. ne (sym e)))

    pub weighted-swapped : weighted (swapped b i j) 508 + ((508 - i) * at b i + (508 - j) * at b j) ≡ weighted b 508 + ((508 - i) * at b j + (508 - j) * at b i)
    unfolding swapped mid
    weighted-swapped =
        let x = weighted-set mid mid-size j (at b i) lj in
        let y = weighted-set b size i (at b j) li in
        let z = ap (λ (n : ℕ). (508 - j) * n) (get_or-set_other b i j (at b j) 0 (λ e. ne (sym e))) in
        omega arith

-- one weight more
step-weight : (i x : ℕ) → i < 508 → (508 - i) * x ≡ (508 - (i + 1)) * x + x
step-weight i x h =
    let e : 508 - i ≡ suc (508 - (i + 1)) = omega arith in
    ap (λ (k : ℕ). k * x) e ∙ suc-mul (508 - (i + 1)) x

-- unequal neighbours swapped, also the last summed byte with the first byte of s1, and the bytes of the sums
module _ (b : List ℕ) (size : length b ≡ 512) (bytes : (i : ℕ) → at b i < 256) (right : sums_right b ≡ true) where
  pub neighbours : (i : ℕ) → i + 1 < 512 → (at b i ≡ at b (i + 1) → ⊥) → sums_right (swapped b i (i + 1)) ≡ false
  unfolding s1 s2 swapped
  neighbours i h u = go (dec_lt (i + 1) 508) (ℕ_discrete i 507) (ℕ_discrete i 508) (ℕ_discrete i 509)
    where
      j : ℕ
      j = i + 1

      c : List ℕ
      c = swapped b i (i + 1)

      x : ℕ
      x = at b i

      y : ℕ
      y = at b (i + 1)

      ne : i ≢ i + 1
      ne e = omega arith

      ci : at c i ≡ y
      ci = swapped-i b size i (i + 1) ne (omega arith) h

      cj : at c (i + 1) ≡ x
      cj = swapped-j b size i (i + 1) ne (omega arith) h

      other : (k : ℕ) → k ≢ i → k ≢ i + 1 → at c k ≡ at b k
      other = swapped_other b size i (i + 1) ne (omega arith) h

      q : (two_at b 508 ≡ s1 b) × (two_at b 510 ≡ s2 b)
      q = sums-of b right

      hx : x < 256
      hx = bytes i

      hy : y < 256
      hy = bytes (i + 1)

      -- within the summed bytes the weighted sum changes by one byte against the other
      inner : i + 1 < 508 → weighted c 508 + x ≡ weighted b 508 + y
      inner l =
          let w = weighted-swapped b size i (i + 1) ne (omega arith) h (omega arith) l in
          let p = step-weight i x (omega arith) in
          let r = step-weight i y (omega arith) in
          omega arith

      -- past the border the sums stay, and the stored ones change
      past-1 : 508 ≤ i → s1 c ≡ s1 b
      past-1 l = s1-past (set b i y) (length-set b i y ∙ size) (i + 1) x (omega arith) ∙ s1-past b size i y l

      past-2 : 508 ≤ i → s2 c ≡ s2 b
      past-2 l = s2-past (set b i y) (length-set b i y ∙ size) (i + 1) x (omega arith) ∙ s2-past b size i y l

      -- the two bytes by a number that is known
      b-i : (n : ℕ) → n ≡ i → at b n ≡ x
      b-i n e = ap (at b) e

      b-j : (n : ℕ) → n ≡ i + 1 → at b n ≡ y
      b-j n e = ap (at b) e

      c-i : (n : ℕ) → n ≡ i → at c n ≡ y
      c-i n e = ap (at c) e ∙ ci

      c-j : (n : ℕ) → n ≡ i + 1 → at c n ≡ x
      c-j n e = ap (at c) e ∙ cj

      -- at the border the plain sum does, and the stored sum the other way
      border : i ≡ 507 → two_at c 508 ≡ s1 c → ⊥
      border e w =
          let m = set b i y in
          let p = plain-set b size i y (omega arith) in
          let s = s1-past m (length-set b i y ∙ size) (i + 1) x (omega arith) in
          let g : x + 256 * at b 509 ≡ s1 m = sym (ap₂ (λ (k n : ℕ). k + 256 * n) (c-j 508 (omega arith)) (other 509 (λ z. omega arith) (λ z. omega arith))) ∙ w ∙ s in
          let f : y + 256 * at b 509 ≡ s1 b = sym (ap (λ (k : ℕ). k + 256 * at b 509) (b-j 508 (omega arith))) ∙ q.0 in
          u (both_ways (plain m 508) (plain b 508) x y (256 * at b 509) p g f hx hy)

      go : Dec (i + 1 < 508) → Dec (i ≡ 507) → Dec (i ≡ 508) → Dec (i ≡ 509) → sums_right c ≡ false
      go (yes l) d e f =
          let o0 = other 510 (λ z. omega arith) (λ z. omega arith) in
          let o1 = other 511 (λ z. omega arith) (λ z. omega arith) in
          wrong-2 c (λ w. u (same_rest (weighted c 508) (weighted b 508) x y (inner l) (sym w ∙ ap₂ (λ (s t : ℕ). s + 256 * t) o0 o1 ∙ q.1) (omega (arith, hx)) (omega (arith, hy))))
      go (no n) (yes l) e f = wrong-1 c (border l)
      go (no n) (no m) (yes l) f = wrong-1 c (λ w. u (omega (arith, past-1 (omega arith), q.0, b-i 508 (omega arith), b-j 509 (omega arith), c-i 508 (omega arith), c-j 509 (omega arith))))
      go (no n) (no m) (no o) (yes l) = wrong-1 c (λ w. u (omega (arith, past-1 (omega arith), q.0, b-i 509 (omega arith), c-i 509 (omega arith), other 508 (λ z. omega arith) (λ z. omega arith))))
      go (no n) (no m) (no o) (no p) =
          let l : i ≡ 510 = omega arith in
          wrong-2 c (λ w. u (omega (arith, past-2 (omega arith), q.1, b-i 510 (omega arith), b-j 511 (omega arith), c-i 510 (omega arith), c-j 511 (omega arith))))

-- ---- what passes: 0 and 255 swapped, 257 places apart, either way round
far-weight : (p r i x y : ℕ) → p + ((508 - i) * x + (508 - (i + 257)) * y) ≡ r + ((508 - i) * y + (508 - (i + 257)) * x) → i + 257 < 508
    → (x ≡ 0) × (y ≡ 255) → p % 65535 ≡ r % 65535
far-weight p r i x y e h z =
    let s : p ≡ r + 65535 = omega (arith, ap (λ (k : ℕ). (508 - i) * k) z.0, ap (λ (k : ℕ). (508 - i) * k) z.1, ap (λ (k : ℕ). (508 - (i + 257)) * k) z.0, ap (λ (k : ℕ). (508 - (i + 257)) * k) z.1) in
    omega arith

pub far-swap : (b : List ℕ) → length b ≡ 512 → (i : ℕ) → i + 257 < 508 → at b i ≡ 0 → at b (i + 257) ≡ 255
    → (s1 (swapped b i (i + 257)) ≡ s1 b) × (s2 (swapped b i (i + 257)) ≡ s2 b)
unfolding s1 s2
far-swap b size i h ex ey =
    let ne : i ≢ i + 257 = λ e. omega arith in (
      ap (λ (k : ℕ). k % 65535) (plain-swapped b size i (i + 257) ne (omega arith) (omega arith) (omega arith) h),
      far-weight (weighted (swapped b i (i + 257)) 508) (weighted b 508) i (at b i) (at b (i + 257)) (weighted-swapped b size i (i + 257) ne (omega arith) (omega arith) (omega arith) h) h (ex, ey),
    )

-- so the fault of such a block passes as it did, though two bytes are in each other's place
pub far-passes : (b : List ℕ) → length b ≡ 512 → (i : ℕ) → i + 257 < 508 → at b i ≡ 0 → at b (i + 257) ≡ 255
    → sums_right (swapped b i (i + 257)) ≡ sums_right b
unfolding sums_right
far-passes b size i h ex ey =
    let f = far-swap b size i h ex ey in
    let ne : i ≢ i + 257 = λ e. omega arith in
    let o : (k : ℕ) → 508 ≤ k → at (swapped b i (i + 257)) k ≡ at b k = λ k l. swapped_other b size i (i + 257) ne (omega arith) (omega arith) k (λ e. omega arith) (λ e. omega arith) in
    ap₂ ◌&&◌
    (ap₂ eqb (ap₂ (λ (x y : ℕ). x + 256 * y) (o 508 (omega arith)) (o 509 (omega arith))) f.0)
    (ap₂ eqb (ap₂ (λ (x y : ℕ). x + 256 * y) (o 510 (omega arith)) (o 511 (omega arith))) f.1)

-- the other way round: 255 first, and 0 after it
pub far-back : (b : List ℕ) → length b ≡ 512 → (i : ℕ) → i + 257 < 508 → at b i ≡ 255 → at b (i + 257) ≡ 0
    → (s1 (swapped b i (i + 257)) ≡ s1 b) × (s2 (swapped b i (i + 257)) ≡ s2 b)
unfolding s1 s2
far-back b size i h ex ey =
    let ne : i ≢ i + 257 = λ e. omega arith in (
      ap (λ (k : ℕ). k % 65535) (plain-swapped b size i (i + 257) ne (omega arith) (omega arith) (omega arith) h),
      sym (far-weight (weighted b 508) (weighted (swapped b i (i + 257)) 508) i (at b (i + 257)) (at b i) (sym (weighted-swapped b size i (i + 257) ne (omega arith) (omega arith) (omega arith) h)) h (ey, ex)),
    )

-- ---- the refusal's number
module _ (b : List ℕ) (kind place count : ℕ) (size : length b ≡ 512) (bytes : (i : ℕ) → at b i < 256) (right : sums_right b ≡ true) where
  pub altered-21 : (k v : ℕ) → k < 512 → v < 256 → (v ≡ at b k → ⊥) → fault (set b k v) kind place count ≡ 21
  altered-21 k v hk hv u = sym (fault-21 (set b k v) kind place count (altered b size bytes right k v hk hv u))

  pub neighbours-21 : (i : ℕ) → i + 1 < 512 → (at b i ≡ at b (i + 1) → ⊥) → fault (swapped b i (i + 1)) kind place count ≡ 21
  neighbours-21 i h u = sym (fault-21 (swapped b i (i + 1)) kind place count (neighbours b size bytes right i h u))
