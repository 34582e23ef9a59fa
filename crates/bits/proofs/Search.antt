-- Laws of a search from the front and of a count. Assumes nothing.
use mathlib.Core.Path.{◌≡◌, refl, sym, ap, ap₂, subst, ◌∙◌}
use mathlib.Core.Bool.{Bool, true, false, cond, true≢false}
use Prim.Native.Nat.{ℕ, zero, suc, ◌+◌, ◌-◌, ◌<◌, ◌≤◌}
use native.Mathlib.Nat.{add-zero, add-suc, add_assoc}
use native.Mathlib.Decide.{dec_lt, ℕ_discrete}
use native.Mathlib.Numerals.{add-one}
use native.Mathlib.Omega.{arith}
use lib.Dec.{ltb}
use borrow.Author.Tests.{lt-ltb, le-ltb}
use Rattle.bits.specs.Search.{first, count, Numbered}
use Rattle.bits.proofs.Binary.{Bit, off, on, bit-lt}

-- ---- what is found

pub first-le : (f : ℕ → Bool) (k n : ℕ) → first f k n ≤ k + n
unfolding first
first-le f k zero = omega arith
first-le f k (suc n) = go (f k) (first-le f (suc k) n)
  where
    go : (b : Bool) → first f (suc k) n ≤ suc k + n → cond b k (first f (suc k) n) ≤ k + suc n
    go true h = omega arith
    go false h = omega arith

-- the test holds at what is found
pub first-at : (f : ℕ → Bool) (k n : ℕ) → first f k n < k + n → f (first f k n) ≡ true
unfolding first
first-at f k zero h = absurd (omega arith)
first-at f k (suc n) h = go (f k) refl h (first-at f (suc k) n)
  where
    go : (b : Bool) → f k ≡ b → cond b k (first f (suc k) n) < k + suc n → (first f (suc k) n < suc k + n → f (first f (suc k) n) ≡ true)
        → f (cond b k (first f (suc k) n)) ≡ true
    go true e h ih = e
    go false e h ih = ih (omega arith)

-- and at nothing before it
pub first-none : (f : ℕ → Bool) (k n j : ℕ) → k ≤ j → j < first f k n → f j ≡ false
unfolding first
first-none f k zero j l h = absurd (omega arith)
first-none f k (suc n) j l h = go (f k) refl (ℕ_discrete k j) h (first-none f (suc k) n j)
  where
    go : (b : Bool) → f k ≡ b → Dec (k ≡ j) → j < cond b k (first f (suc k) n) → (suc k ≤ j → j < first f (suc k) n → f j ≡ false) → f j ≡ false
    go true e d h ih = absurd (omega arith)
    go false e (yes q) h ih = ap f (sym q) ∙ e
    go false e (no q) h ih = ih (omega arith) h

-- a number at which the test holds, and at nothing before it, is what is found
pub first-is : (f : ℕ → Bool) (k n i : ℕ) → k ≤ i → i < k + n → f i ≡ true → ((j : ℕ) → k ≤ j → j < i → f j ≡ false) → first f k n ≡ i
unfolding first
first-is f k zero i l h t none = absurd (omega arith)
first-is f k (suc n) i l h t none = go (f k) refl (ℕ_discrete k i) (first-is f (suc k) n i)
  where
    go : (b : Bool) → f k ≡ b → Dec (k ≡ i)
        → (suc k ≤ i → i < suc k + n → f i ≡ true → ((j : ℕ) → suc k ≤ j → j < i → f j ≡ false) → first f (suc k) n ≡ i)
        → cond b k (first f (suc k) n) ≡ i
    go true e (yes q) ih = q
    go true e (no q) ih = absurd (true≢false (sym e ∙ none k (omega arith) (omega arith)))
    go false e (yes q) ih = absurd (true≢false (sym t ∙ ap f (sym q) ∙ e))
    go false e (no q) ih = ih (omega arith) (omega arith) t (λ j p r. none j (omega arith) r)

-- where the test holds nowhere, the end is what is found
pub first-end : (f : ℕ → Bool) (k n : ℕ) → ((j : ℕ) → k ≤ j → j < k + n → f j ≡ false) → first f k n ≡ k + n
unfolding first
first-end f k zero none = omega arith
first-end f k (suc n) none = go (f k) (none k (omega arith) (omega arith)) (first-end f (suc k) n (λ j l h. none j (omega arith) (omega arith)))
  where
    go : (b : Bool) → b ≡ false → first f (suc k) n ≡ suc k + n → cond b k (first f (suc k) n) ≡ k + suc n
    go true e ih = absurd (true≢false e)
    go false e ih = omega arith

-- ---- a search from 0, as a loop makes it

-- the test holds at no number below i
abbrev pub NoneBelow : (ℕ → Bool) → ℕ → Type 0
NoneBelow f i = (j : ℕ) → j < i → f j ≡ false

module _ (f : ℕ → Bool) where
  pub none-start : NoneBelow f 0
  none-start j h = absurd (omega arith)

  pub none_more : (i : ℕ) → NoneBelow f i → f i ≡ false → NoneBelow f (i + 1)
  none_more i before e j h = go (ℕ_discrete j i)
    where
      go : Dec (j ≡ i) → f j ≡ false
      go (yes q) = ap f q ∙ e
      go (no q) = before j (omega arith)

  pub found : (n i : ℕ) → i < n → NoneBelow f i → f i ≡ true → i ≡ first f 0 n
  found n i h before e = sym (first-is f 0 n i (omega arith) (omega arith) e (λ j l q. before j q))

  pub found_none : (n : ℕ) → NoneBelow f n → n ≡ first f 0 n
  found_none n before =
      let z : n ≡ 0 + n = omega arith in
      z ∙ sym (first-end f 0 n (λ j l h. before j (omega arith)))

  pub found_at : (n : ℕ) → first f 0 n < n → f (first f 0 n) ≡ true
  found_at n h = first-at f 0 n (omega arith)

  pub none_found : (n : ℕ) → NoneBelow f (first f 0 n)
  none_found n j h = first-none f 0 n j (omega arith) h

  pub found-le : (n : ℕ) → first f 0 n ≤ n
  found-le n = omega (arith, first-le f 0 n)

-- ---- a count

pub count-more : (f : ℕ → Bool) (i : ℕ) → count f (i + 1) ≡ count f i + cond (f i) 1 0
unfolding count
count-more f i = ap (count f) (add-one i)

pub count-le : (f : ℕ → Bool) (i : ℕ) → count f i ≤ i
unfolding count
count-le f zero = omega arith
count-le f (suc i) = go (f i) (count-le f i)
  where
    go : (b : Bool) → count f i ≤ i → count f i + cond b 1 0 ≤ suc i
    go true h = omega arith
    go false h = omega arith

pub count-ext : (f g : ℕ → Bool) (n : ℕ) → ((j : ℕ) → j < n → f j ≡ g j) → count f n ≡ count g n
unfolding count
count-ext f g zero same = refl
count-ext f g (suc n) same = ap₂ (λ (x : ℕ) (t : Bool). x + cond t 1 0) (count-ext f g n (λ j h. same j (omega arith))) (same n (omega arith))

-- the numbers below a, and the n from a on
pub count-append : (f : ℕ → Bool) (a n : ℕ) → count f (a + n) ≡ count f a + count (λ k. f (a + k)) n
unfolding count
count-append f a zero = ap (count f) (add-zero a) ∙ sym (add-zero (count f a))
count-append f a (suc n) =
    ap (count f) (add-suc a n)
    ∙ ap (λ (x : ℕ). x + cond (f (a + n)) 1 0) (count-append f a n)
    ∙ add_assoc (count f a) (count (λ k. f (a + k)) n) (cond (f (a + n)) 1 0)

-- where the test holds nowhere, the count is 0
pub count_none : (f : ℕ → Bool) (n : ℕ) → NoneBelow f n → count f n ≡ 0
unfolding count
count_none f zero none = refl
count_none f (suc n) none = ap₂ (λ (x : ℕ) (t : Bool). x + cond t 1 0) (count_none f n (λ j h. none j (omega arith))) (none n (omega arith))

-- where the test holds at one number at most, the count is 1 or 0; and where it holds at one below n, it is 1
module _ (f : ℕ → Bool) (once : (i j : ℕ) → i < j → f i ≡ true → f j ≡ true → ⊥) where
  pub count-bit : (n : ℕ) → Bit (count f n)
  unfolding count
  count-bit zero = off
  count-bit (suc n) = go (f n) refl (count-bit n)
    where
      before : f n ≡ true → NoneBelow f n
      before e j h = not_at (f j) refl
        where
          not_at : (b : Bool) → f j ≡ b → b ≡ false
          not_at true q = absurd (once j n h q e)
          not_at false q = refl

      go : (b : Bool) → f n ≡ b → Bit (count f n) → Bit (count f n + cond b 1 0)
      go true e ih = subst (λ (x : ℕ). Bit (x + 1)) (sym (count_none f n (before e))) on
      go false e ih = subst Bit (sym (add-zero (count f n))) ih

  pub count-one : (n i : ℕ) → i < n → f i ≡ true → count f n ≡ 1
  count-one n i h e =
      let k : i + 1 + (n - (i + 1)) ≡ n = omega arith in
      let s = ap (count f) (sym k) ∙ count-append f (i + 1) (n - (i + 1)) in
      let t = count-more f i ∙ ap (λ (b : Bool). count f i + cond b 1 0) e in
      omega (arith, bit-lt (count-bit n), s, t)

-- ---- what a count says: the numbers below n at which the test holds, numbered

module _ (P : ℕ → Type 0) (n c : ℕ) (m : Numbered P n c) where
  -- n has not the property: the numbers stay
  numbered-same : (P n → ⊥) → Numbered P (suc n) c
  numbered-same u =
      record {
        nth = m.nth;
        below = λ j h. omega (arith, m.below j h);
        has = m.has;
        rising = m.rising;
        each = λ k h p. m.each k (lower k h p (ℕ_discrete k n)) p;
      }
    where
      lower : (k : ℕ) → k < suc n → P k → Dec (k ≡ n) → k < n
      lower k h p (yes q) = absurd (u (subst P q p))
      lower k h p (no q) = omega arith

  -- n has it: it gets the next
  with-last : ℕ → ℕ
  with-last j = cond (ltb j c) (m.nth j) n

  before_last : (j : ℕ) → j < c → m.nth j ≡ with-last j
  unfolding with-last
  before_last j h = sym (ap (λ (t : Bool). cond t (m.nth j) n) (lt-ltb j c h))

  the_last : (j : ℕ) → c ≤ j → n ≡ with-last j
  unfolding with-last
  the_last j h = sym (ap (λ (t : Bool). cond t (m.nth j) n) (le-ltb j c h))

  numbered-last : P n → Numbered P (suc n) (c + 1)
  numbered-last p =
      record {
        nth = with-last;
        below = λ j h. under j (dec_lt j c);
        has = λ j h. has j (dec_lt j c);
        rising = λ i j l h. rising i j l h (dec_lt j c);
        each = λ k h q. each k h q (ℕ_discrete k n);
      }
    where
      under : (j : ℕ) → Dec (j < c) → with-last j < suc n
      under j (yes l) = omega (arith, m.below j l, before_last j l)
      under j (no u) = omega (arith, the_last j (omega arith))

      has : (j : ℕ) → Dec (j < c) → P (with-last j)
      has j (yes l) = subst P (before_last j l) (m.has j l)
      has j (no u) = subst P (the_last j (omega arith)) p

      rising : (i j : ℕ) → i < j → j < c + 1 → Dec (j < c) → with-last i < with-last j
      rising i j l h (yes q) = let r : i < c = omega arith in omega (arith, m.rising i j l q, before_last i r, before_last j q)
      rising i j l h (no u) = let r : i < c = omega arith in omega (arith, m.below i r, before_last i r, the_last j (omega arith))

      each : (k : ℕ) → k < suc n → P k → Dec (k ≡ n) → (j : ℕ) × (j < c + 1) × (with-last j ≡ k)
      each k h q (yes e) = (c, omega arith, sym (e ∙ the_last c (omega arith)))
      each k h q (no u) =
          let t = m.each k (omega arith) q in
          (t.0, omega (arith, t.1), sym (before_last t.0 t.1) ∙ t.2)

module _ (P : ℕ → Type 0) (f : ℕ → Bool) (holds : (k : ℕ) → f k ≡ true → P k) (tested : (k : ℕ) → P k → f k ≡ true) where
  -- a test of the property counts the numbers that have it
  pub count-numbers : (n : ℕ) → Numbered P n (count f n)
  unfolding count
  count-numbers zero =
      record {
        nth = λ j. 0;
        below = λ j h. absurd (omega arith);
        has = λ j h. absurd (omega arith);
        rising = λ i j l h. absurd (omega arith);
        each = λ k h p. absurd (omega arith);
      }
  count-numbers (suc n) = go (f n) refl (count-numbers n)
    where
      go : (b : Bool) → f n ≡ b → Numbered P n (count f n) → Numbered P (suc n) (count f n + cond b 1 0)
      go true e m = numbered-last P n (count f n) m (holds n e)
      go false e m = subst (Numbered P (suc n)) (sym (add-zero (count f n))) (numbered-same P n (count f n) m (λ p. true≢false (sym (tested n p) ∙ e)))

-- ---- and there is one such count

module _ (P : ℕ → Type 0) (n c d : ℕ) (m : Numbered P n c) (l : Numbered P n d) where
  -- in another numbering a number is no smaller
  no-smaller : (j : ℕ) → j < c → (i : ℕ) × (i < d) × (l.nth i ≡ m.nth j) × (j ≤ i)
  no-smaller zero h = let t = l.each (m.nth 0) (m.below 0 h) (m.has 0 h) in (t.0, t.1, t.2, omega arith)
  no-smaller (suc j) h = go (no-smaller j (omega arith)) (l.each (m.nth (suc j)) (m.below (suc j) h) (m.has (suc j) h))
    where
      go : (i : ℕ) × (i < d) × (l.nth i ≡ m.nth j) × (j ≤ i) → (k : ℕ) × (k < d) × (l.nth k ≡ m.nth (suc j))
          → (k : ℕ) × (k < d) × (l.nth k ≡ m.nth (suc j)) × (suc j ≤ k)
      go p t = (t.0, t.1, t.2, later (dec_lt p.0 t.0) (ℕ_discrete t.0 p.0))
        where
          later : Dec (p.0 < t.0) → Dec (t.0 ≡ p.0) → suc j ≤ t.0
          later (yes q) e = omega (arith, p.3)
          later (no u) (yes e) = absurd (omega (arith, m.rising j (suc j) (omega arith) h, p.2, t.2, ap l.nth e))
          later (no u) (no v) = absurd (omega (arith, m.rising j (suc j) (omega arith) h, p.2, t.2, l.rising t.0 p.0 (omega arith) p.1))

  numbered-le : c ≤ d
  numbered-le = go c refl
    where
      go : (k : ℕ) → k ≡ c → c ≤ d
      go zero e = omega arith
      go (suc k) e = let t = no-smaller k (omega arith) in omega (arith, t.1, t.3)

pub numbered-once : (P : ℕ → Type 0) (n c d : ℕ) → Numbered P n c → Numbered P n d → c ≡ d
numbered-once P n c d m l = omega (arith, numbered-le P n c d m l, numbered-le P n d c l m)

-- number k of a numbering is the one that has k before it
module _ (P : ℕ → Type 0) (f : ℕ → Bool) (holds : (k : ℕ) → f k ≡ true → P k) (tested : (k : ℕ) → P k → f k ≡ true) where
  pub numbered-before : (n c : ℕ) (m : Numbered P n c) (j : ℕ) → j < c → count f (m.nth j) ≡ j
  numbered-before n c m j h = numbered-once P (m.nth j) (count f (m.nth j)) j (count-numbers P f holds tested (m.nth j)) before
    where
      earlier : (k : ℕ) → k < m.nth j → (i : ℕ) × (i < c) × (m.nth i ≡ k) → (i : ℕ) × (i < j) × (m.nth i ≡ k)
      earlier k l (i, q, e) = (i, under (dec_lt i j) (ℕ_discrete i j), e)
        where
          under : Dec (i < j) → Dec (i ≡ j) → i < j
          under (yes r) d = r
          under (no u) (yes d) = absurd (omega (arith, ap m.nth d))
          under (no u) (no v) = absurd (omega (arith, m.rising j i (omega arith) q))

      before : Numbered P (m.nth j) j
      before =
          record {
            nth = m.nth;
            below = λ i l. m.rising i j l h;
            has = λ i l. m.has i (omega arith);
            rising = λ i k l q. m.rising i k l (omega arith);
            each = λ k l p. earlier k l (m.each k (omega (arith, m.below j h)) p);
          }
