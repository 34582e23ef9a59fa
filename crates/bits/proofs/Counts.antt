-- Laws of trailing_zeros and count_ones, digit by digit, and of the lines that the digits of a byte or of a quarter are: the kit's definitions are in lib.Count, without them. Assumes nothing.
use mathlib.Core.Path.{◌≡◌, refl, sym, ap, ◌∙◌}
use mathlib.Core.Bool.{false, cond}
use Prim.Native.Nat.{ℕ, zero, suc, ◌+◌, ◌-◌, ◌/◌, ◌%◌, ◌^◌, ◌<◌, ◌≤◌, suc-le-suc}
use native.Mathlib.Nat.{not-suc-le-zero, pow-suc, div-one, zero-div}
use native.Mathlib.Decide.{dec_lt}
use native.Mathlib.Numerals.{one-add}
use native.Mathlib.Omega.{arith}
use lib.Count.{count_trailing_zeros, under, ones, ones_cat}
use lib.Dec.{eqb}
use lib.Pow.{shr-shr}
use Rattle.bits.specs.Bits.{digit, digits_of}
use Rattle.bits.specs.Search.{first, count, is_one}
use Rattle.bits.proofs.Binary.{Bit, off, on, low_bit, digit-bit}
use Rattle.bits.proofs.Digits.{digits_of-lt, digits_are}
use Rattle.bits.proofs.Search.{NoneBelow, found, count-append, count-ext}

-- ---- trailing zeros

-- digit t + 1 of n is digit t of its half
digit-suc : (n t : ℕ) → digit n (suc t) ≡ digit (n / 2) t
digit-suc n t = ap (λ (y : ℕ). y % 2) (sym (shr-shr n 1 t ∙ ap (λ (k : ℕ). n / 2 ^ k) (one-add t)))

-- each digit below the count is 0
pub trailing_below : (k n j : ℕ) → j < count_trailing_zeros k n → digit n j ≡ 0
unfolding count_trailing_zeros
trailing_below zero n j h = absurd (not-suc-le-zero h)
trailing_below (suc k) n j h = go (n % 2) refl (low_bit n) j h (trailing_below k (n / 2))
  where
    go : (d : ℕ) → n % 2 ≡ d → Bit d → (j : ℕ) → j < under d (count_trailing_zeros k (n / 2)) → ((i : ℕ) → i < count_trailing_zeros k (n / 2) → digit (n / 2) i ≡ 0) → digit n j ≡ 0
    go d e off zero h rest = ap (λ (y : ℕ). y % 2) (div-one n) ∙ e
    go d e off (suc j) h rest = digit-suc n j ∙ rest j (omega arith)
    go d e on j h rest = absurd (not-suc-le-zero h)

-- the digit at the count is 1, where there is one
pub trailing_at : (k n : ℕ) → count_trailing_zeros k n < k → digit n (count_trailing_zeros k n) ≡ 1
unfolding count_trailing_zeros
trailing_at zero n h = absurd (not-suc-le-zero h)
trailing_at (suc k) n h = go (n % 2) refl (low_bit n) h (trailing_at k (n / 2))
  where
    go : (d : ℕ) → n % 2 ≡ d → Bit d → under d (count_trailing_zeros k (n / 2)) < suc k → (count_trailing_zeros k (n / 2) < k → digit (n / 2) (count_trailing_zeros k (n / 2)) ≡ 1)
        → digit n (under d (count_trailing_zeros k (n / 2))) ≡ 1
    go d e off h rest = digit-suc n (count_trailing_zeros k (n / 2)) ∙ rest (omega arith)
    go d e on h rest = ap (λ (y : ℕ). y % 2) (div-one n) ∙ e

-- and there is one, where a number of k digits is not 0
pub trailing_lt : (k n : ℕ) → 0 < n → n < 2 ^ k → count_trailing_zeros k n < k
unfolding count_trailing_zeros
trailing_lt zero n p h = omega arith
trailing_lt (suc k) n p h = go (n % 2) refl (low_bit n) (λ q. trailing_lt k (n / 2) q (omega (arith, pow-suc 2 k)))
  where
    go : (d : ℕ) → n % 2 ≡ d → Bit d → (0 < n / 2 → count_trailing_zeros k (n / 2) < k) → under d (count_trailing_zeros k (n / 2)) < suc k
    go d e off rest = suc-le-suc (rest (omega arith))
    go d e on rest = omega arith

-- ---- ones

-- those of the number made of the digits f are the digits that are 1
ones-digits : (f : ℕ → ℕ) → ((k : ℕ) → Bit (f k)) → (n : ℕ) → ones (digits_of f n) ≡ count (is_one f) n
unfolding digits_of count ones
ones-digits f bits zero = refl
ones-digits f bits (suc n) = ones_cat n (f n) (digits_of f n) (digits_of-lt f bits n) ∙ go (bits n) (ones-digits f bits n)
  where
    go : {d : ℕ} → Bit d → ones (digits_of f n) ≡ count (is_one f) n → ones d + ones (digits_of f n) ≡ count (is_one f) n + cond (eqb d 1) 1 0
    go off e = omega arith
    go on e = omega arith

-- those of a number of n digits
pub ones-count : (n x : ℕ) → x < 2 ^ n → ones x ≡ count (is_one (digit x)) n
ones-count n x h = ap ones (digits_are (digit x) n x h (λ j l. refl)) ∙ ones-digits (digit x) (digit-bit x) n

-- ---- lines in blocks: the w lines of f from a on are the digits of x, as those of a byte or of a quarter of an item are

module _ (f : ℕ → ℕ) (a w x : ℕ) (bound : x < 2 ^ w) (digits : (j : ℕ) → j < w → f (a + j) ≡ digit x j) where
  -- the lines with a 1 up to the block's end are those before it and the ones of x
  pub count-block : count (is_one f) (a + w) ≡ count (is_one f) a + ones x
  count-block =
      count-append (is_one f) a w
      ∙ ap (λ (c : ℕ). count (is_one f) a + c)
      (count-ext (λ k. is_one f (a + k)) (is_one (digit x)) w (λ j h. ap (λ (d : ℕ). eqb d 1) (digits j h)) ∙ sym (ones-count w x bound))

  -- line k of the block is digit k - a of x
  within : (k : ℕ) → a ≤ k → k < a + w → is_one f k ≡ is_one (digit x) (k - a)
  within k l h =
      let e : k ≡ a + (k - a) = omega arith in
      ap (is_one f) e ∙ ap (λ (d : ℕ). eqb d 1) (digits (k - a) (omega arith))

  -- a block that is 0 is passed
  pub skip_block : NoneBelow (is_one f) a → x ≡ 0 → NoneBelow (is_one f) (a + w)
  skip_block before e k h = go (dec_lt k a)
    where
      go : Dec (k < a) → is_one f k ≡ false
      go (yes q) = before k q
      go (no q) =
          within k (omega arith) h
          ∙ ap (λ (y : ℕ). is_one (digit y) (k - a)) e
          ∙ ap (λ (d : ℕ). eqb (d % 2) 1) (zero-div (2 ^ (k - a)))

  -- a block that is not has the first line with a 1
  pub hit-block : NoneBelow (is_one f) a → 0 < x → (n : ℕ) → a + w ≤ n → a + count_trailing_zeros w x ≡ first (is_one f) 0 n
  hit-block before p n l =
      let t : count_trailing_zeros w x < w = trailing_lt w x p bound in
      found (is_one f) n (a + count_trailing_zeros w x) (omega arith) (λ k q. go k q (dec_lt k a))
      (ap (λ (d : ℕ). eqb d 1) (digits (count_trailing_zeros w x) t ∙ trailing_at w x t))
    where
      go : (k : ℕ) → k < a + count_trailing_zeros w x → Dec (k < a) → is_one f k ≡ false
      go k q (yes u) = before k u
      go k q (no u) =
          let t : count_trailing_zeros w x < w = trailing_lt w x p bound in
          within k (omega arith) (omega arith) ∙ ap (λ (d : ℕ). eqb d 1) (trailing_below w x (k - a) (omega arith))
