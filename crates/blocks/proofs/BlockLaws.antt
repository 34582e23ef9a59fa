-- Laws of judging a block: what each test settles, and what a good block has. Assumes nothing.
use mathlib.Core.Path.{◌≡◌, refl, sym, ap, ◌∙◌}
use mathlib.Core.Bool.{Bool, true, false, cond, not, ◌&&◌, ◌||◌}
use mathlib.Core.List.{List, [], ◌∷◌}
use Prim.Native.Nat.{ℕ, zero, suc, ◌+◌, ◌<◌, ◌≤◌}
use native.Mathlib.Numerals.{add-one}
use native.Mathlib.Omega.{arith}
use lib.Dec.{eqb, leb, ltb}
use lib.ListN.{length, drop, replicate, get_or, drop_of_length-le}
use lib.Seq.{drop-cons}
use borrow.Author.Tests.{ne_eqb, eq-eqb, eqb-true, leb-true, ltb-true, lt-ltb}
use Rattle.bits.proofs.Rows.{and_left, and_right}
use Rattle.blocks.specs.Block.{two_at, sums_right, used_right, all_zero, zeros_right, fault}

-- ---- zeros from a place on

pub zero_more : (s : List ℕ) (i : ℕ) → i < length s → get_or s i 0 ≡ 0 → all_zero (drop (i + 1) s) ≡ all_zero (drop i s)
unfolding all_zero
zero_more s i h e = sym (ap all_zero (drop-cons s i 0 h) ∙ ap (λ (x : ℕ). eqb x 0 && all_zero (drop (suc i) s)) e ∙ ap (λ (k : ℕ). all_zero (drop k s)) (sym (add-one i)))

pub zero-stop : (s : List ℕ) (i : ℕ) → i < length s → (get_or s i 0 ≡ 0 → ⊥) → all_zero (drop i s) ≡ false
unfolding all_zero
zero-stop s i h u = ap all_zero (drop-cons s i 0 h) ∙ ap (λ (t : Bool). t && all_zero (drop (suc i) s)) (ne_eqb (get_or s i 0) 0 u)

pub zero-end : (s : List ℕ) (i : ℕ) → length s ≤ i → all_zero (drop i s) ≡ true
unfolding all_zero
zero-end s i h = ap all_zero (drop_of_length-le s h)

-- ---- zeros

pub zeros-zero : (n : ℕ) → all_zero (replicate n 0) ≡ true
unfolding all_zero
zeros-zero zero = refl
zeros-zero (suc n) = zeros-zero n

pub zeros-are : (l : List ℕ) → all_zero l ≡ true → l ≡ replicate (length l) 0
unfolding all_zero
zeros-are [] e = refl
zeros-are (x ∷ l) e = cc (eqb-true x 0 (and_left (eqb x 0) (all_zero l) e), zeros-are l (and_right (eqb x 0) (all_zero l) e))

-- ---- the bytes used

pub used_le : (place count used : ℕ) → used_right place count used ≡ true → used ≤ 496
unfolding used_right
used_le place count used h = go (ltb (place + 1) count) h
  where
    go : (t : Bool) → cond t (eqb used 496) (leb used 496 && (eqb count 1 || ltb 0 used)) ≡ true → used ≤ 496
    go true h = omega (arith, eqb-true used 496 h)
    go false h = leb-true used 496 (and_left (leb used 496) (eqb count 1 || ltb 0 used) h)

pub used-full : (place count used : ℕ) → place + 1 < count → used_right place count used ≡ true → used ≡ 496
unfolding used_right
used-full place count used h e = eqb-true used 496 (sym (ap (λ (t : Bool). cond t (eqb used 496) (leb used 496 && (eqb count 1 || ltb 0 used))) (lt-ltb (place + 1) count h)) ∙ e)

pub used-some : (place count used : ℕ) → 1 < count → used_right place count used ≡ true → 0 < used
unfolding used_right
used-some place count used h e = go (ltb (place + 1) count) e
  where
    some : (eqb count 1 || ltb 0 used) ≡ true → 0 < used
    some q = ltb-true 0 used (sym (ap (λ (t : Bool). t || ltb 0 used) (ne_eqb count 1 (λ z. omega arith))) ∙ q)

    go : (t : Bool) → cond t (eqb used 496) (leb used 496 && (eqb count 1 || ltb 0 used)) ≡ true → 0 < used
    go true q = omega (arith, eqb-true used 496 q)
    go false q = some (and_right (leb used 496) (eqb count 1 || ltb 0 used) q)

-- ---- what each test of a block settles

module _ (b : List ℕ) (kind place count : ℕ) where
  pub fault-21 : sums_right b ≡ false → 21 ≡ fault b kind place count
  unfolding fault
  fault-21 s = simp s

  module _ (s : sums_right b ≡ true) where
    pub fault-22 : (two_at b 0 ≡ kind → ⊥) → 22 ≡ fault b kind place count
    unfolding fault
    fault-22 u = simp (s, ne_eqb (two_at b 0) kind u)

    module _ (k : two_at b 0 ≡ kind) where
      pub fault-place : (two_at b 2 ≡ place → ⊥) → 23 ≡ fault b kind place count
      unfolding fault
      fault-place u = simp (s, eq-eqb (two_at b 0) kind k, ne_eqb (two_at b 2) place u)

      pub fault-count : two_at b 2 ≡ place → (two_at b 4 ≡ count → ⊥) → 23 ≡ fault b kind place count
      unfolding fault
      fault-count p u = simp (s, eq-eqb (two_at b 0) kind k, eq-eqb (two_at b 2) place p, ne_eqb (two_at b 4) count u)

      -- the last two tests, either of them
      pub fault-last : two_at b 2 ≡ place → two_at b 4 ≡ count → (u z : Bool) → used_right place count (two_at b 6) ≡ u → zeros_right b ≡ z
          → fault b kind place count ≡ cond (not u || not z) 24 0
      unfolding fault
      fault-last p n u z eu ez = simp (s, eq-eqb (two_at b 0) kind k, eq-eqb (two_at b 2) place p, eq-eqb (two_at b 4) count n, eu, ez)

-- ---- what a good block has

pub record Good (b : List ℕ) (kind place count : ℕ) : Type 0 where
  pub sums : sums_right b ≡ true
  pub kind-is : two_at b 0 ≡ kind
  pub place_is : two_at b 2 ≡ place
  pub count-is : two_at b 4 ≡ count
  pub used : used_right place count (two_at b 6) ≡ true
  pub zeros : zeros_right b ≡ true

passed : (t : Bool) (n a : ℕ) → (n ≡ 0 → ⊥) → cond (not t) n a ≡ 0 → (t ≡ true) × (a ≡ 0)
passed true n a u e = (refl, e)
passed false n a u e = absurd (u e)

passed-two : (s t : Bool) (n a : ℕ) → (n ≡ 0 → ⊥) → cond (not s || not t) n a ≡ 0 → (s ≡ true) × (t ≡ true) × (a ≡ 0)
passed-two true true n a u e = (refl, refl, e)
passed-two true false n a u e = absurd (u e)
passed-two false t n a u e = absurd (u e)

pub fault-good : (b : List ℕ) (kind place count : ℕ) → fault b kind place count ≡ 0 → Good b kind place count
unfolding fault
fault-good b kind place count e =
    let p1 = passed (sums_right b) 21 _ (λ x. omega arith) e in
    let p2 = passed (eqb (two_at b 0) kind) 22 _ (λ x. omega arith) p1.1 in
    let p3 = passed-two (eqb (two_at b 2) place) (eqb (two_at b 4) count) 23 _ (λ x. omega arith) p2.1 in
    let p4 = passed-two (used_right place count (two_at b 6)) (zeros_right b) 24 _ (λ x. omega arith) p3.2 in
    record {
      sums = p1.0;
      kind-is = eqb-true (two_at b 0) kind p2.0;
      place_is = eqb-true (two_at b 2) place p3.0;
      count-is = eqb-true (two_at b 4) count p3.1;
      used = p4.0;
      zeros = p4.1;
    }
