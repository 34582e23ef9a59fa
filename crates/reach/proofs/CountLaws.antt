-- How many words the lines of an access meet: 2 to the number of the mode's zero bits, over the width n. Assumes nothing.
use mathlib.Core.Path.{◌≡◌, refl, sym, ap, ap₂, ◌∙◌}
use mathlib.Core.Bool.{Bool, false, cond, ◌&&◌}
use Prim.Native.Nat.{ℕ, zero, suc, ◌+◌, ◌-◌, ◌*◌, ◌/◌, ◌%◌, ◌^◌, ◌<◌, ◌≤◌, min}
use native.Mathlib.Nat.{pow-suc, zero-add}
use native.Mathlib.Numerals.{add-one}
use native.Mathlib.Decide.{ℕ_discrete}
use native.Mathlib.Omega.{arith}
use lib.Arith.{lt-one}
use lib.Bits.{bit_and}
use lib.Count.{ones, ones_in, ones_step, ones-le}
use lib.Dec.{eqb}
use lib.Pow.{pow-add, pow_mono, ones_sub-lt}
use borrow.Author.Tests.{eq-eqb, ne_eqb}
use Rattle.bits.specs.Search.{count}
use Rattle.bits.proofs.Binary.{Bit, off, on, low_bit}
use Rattle.bits.proofs.Xor.{and_low, and-half}
use Rattle.bits.proofs.Search.{count-ext, count_none}
use Rattle.memory.specs.Table.{not_of}
use Rattle.reach.specs.Reach.{met, reach_of}

-- ---- a count by the even and the odd numbers

pub count-pairs : (f : ℕ → Bool) (n : ℕ) → count f (n * 2) ≡ count (λ k. f (k * 2)) n + count (λ k. f (k * 2 + 1)) n
unfolding count
count-pairs f zero = refl
count-pairs f (suc n) =
    let e : suc n * 2 ≡ suc (suc (n * 2)) = omega arith in
    let odd : cond {A = ℕ} (f (n * 2 + 1)) 1 0 ≡ cond (f (suc (n * 2))) 1 0 = ap (λ (k : ℕ). cond {A = ℕ} (f k) 1 0) (add-one (n * 2)) in
    let before = count-pairs f n in
    ap (count f) e ∙ omega arith

-- ---- two numbers are equal exactly if their lowest digits and their halves are

halves : (x y : ℕ) → eqb x y ≡ (eqb (x % 2) (y % 2) && eqb (x / 2) (y / 2))
halves x y = go (ℕ_discrete (x % 2) (y % 2)) (ℕ_discrete (x / 2) (y / 2))
  where
    go : Dec (x % 2 ≡ y % 2) → Dec (x / 2 ≡ y / 2) → eqb x y ≡ (eqb (x % 2) (y % 2) && eqb (x / 2) (y / 2))
    go (yes p) (yes q) = eq-eqb x y (omega arith) ∙ sym (ap₂ ◌&&◌ (eq-eqb (x % 2) (y % 2) p) (eq-eqb (x / 2) (y / 2) q))
    go (yes p) (no u) = ne_eqb x y (λ e. u (ap (λ (z : ℕ). z / 2) e)) ∙ sym (ap₂ ◌&&◌ (eq-eqb (x % 2) (y % 2) p) (ne_eqb (x / 2) (y / 2) u))
    go (no u) d = ne_eqb x y (λ e. u (ap (λ (z : ℕ). z % 2) e)) ∙ sym (ap (λ (b : Bool). b && eqb (x / 2) (y / 2)) (ne_eqb (x % 2) (y % 2) u))

-- ---- the words that are met

module _ (m g : ℕ) where
  -- the word 2 w + b, by digit d of the mode and digit e of the address: b agrees with e where d is 1, and w is met under the halves
  abbrev digit-met : ℕ → ℕ → ℕ → ℕ → Bool
  digit-met d e b w = eqb (min d b) (min d e) && met (m / 2) (g / 2) w

  met-half : (w k b : ℕ) → w % 2 ≡ b → w / 2 ≡ k → met m g w ≡ digit-met (m % 2) (g % 2) b k
  met-half w k b eb ek =
      halves (bit_and m w) (bit_and m g)
      ∙ ap₂ ◌&&◌
      (ap₂ eqb (and_low m w ∙ ap (min (m % 2)) eb) (and_low m g))
      (ap₂ eqb (and-half m w ∙ ap (bit_and (m / 2)) ek) (and-half m g))

  -- where d is 0 both halves of the words are met alike, and where it is 1 only the one with b equal to e
  both_halves : (n k : ℕ) → count (met (m / 2) (g / 2)) n ≡ 2 ^ k → {d e : ℕ} → Bit d → Bit e
      → count (digit-met d e 0) n + count (digit-met d e 1) n ≡ 2 ^ (1 - d + k)
  both_halves n k ih off off = omega (arith, pow-add 2 1 k)
  both_halves n k ih off on = omega (arith, pow-add 2 1 k)
  both_halves n k ih on off = omega (arith, count_none (λ w. false) n (λ j h. refl), ap (λ (x : ℕ). 2 ^ x) (zero-add k))
  both_halves n k ih on on = omega (arith, count_none (λ w. false) n (λ j h. refl), ap (λ (x : ℕ). 2 ^ x) (zero-add k))

pub count-met : (n m g : ℕ) → m < 2 ^ n → count (met m g) (2 ^ n) ≡ 2 ^ ones (not_of n m)
unfolding count ones ones_in
count-met zero m g h = rw (lt-one h) refl
count-met (suc n) m g h =
    let e : 2 ^ suc n ≡ 2 ^ n * 2 = pow-suc 2 n in
    let hi : (2 ^ suc n - 1 - m) / 2 ≡ 2 ^ n - 1 - m / 2 = omega arith in
    let lo : (2 ^ suc n - 1 - m) % 2 ≡ 1 - m % 2 = omega arith in
    ap (count (met m g)) e
    ∙ count-pairs (met m g) (2 ^ n)
    ∙ ap₂ (λ (x y : ℕ). x + y)
    (count-ext (λ k. met m g (k * 2)) (digit-met m g (m % 2) (g % 2) 0) (2 ^ n) (λ k l. met-half m g (k * 2) k 0 (omega arith) (omega arith)))
    (count-ext (λ k. met m g (k * 2 + 1)) (digit-met m g (m % 2) (g % 2) 1) (2 ^ n) (λ k l. met-half m g (k * 2 + 1) k 1 (omega arith) (omega arith)))
    ∙ both_halves m g (2 ^ n) (ones (not_of n (m / 2))) (count-met n (m / 2) (g / 2) (omega arith)) (low_bit m) (low_bit g)
    ∙ sym (ap (λ (x : ℕ). 2 ^ x) (ones_step (not_of (suc n) m) ∙ ap₂ (λ (x y : ℕ). x + ones y) lo hi))

-- ---- at width 8

pub met-count : (m g : ℕ) → m < 256 → count (met m g) 256 ≡ reach_of m
met-count = count-met 8

-- no store reaches more than the 256 words that there are
pub reach-le : (m : ℕ) → reach_of m ≤ 256
reach-le m = pow_mono (ones-le 8 (not_of 8 m) (ones_sub-lt 8 m))
