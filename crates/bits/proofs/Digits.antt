-- Laws of digits: numbers made of digits, and numbers known by them. Assumes nothing.
use mathlib.Core.Path.{◌≡◌, refl, sym, ap, ap₂, ◌∙◌}
use mathlib.Core.Bool.{Bool, true, false, cond}
use Prim.Native.Nat.{ℕ, zero, suc, ◌+◌, ◌-◌, ◌*◌, ◌/◌, ◌%◌, ◌^◌, ◌<◌, ◌≤◌, min}
use native.Mathlib.Nat.{pow-suc, mod-eq_of_lt, mod-one, mul-mod_left, div-eq_of_lt, one-mul}
use native.Mathlib.Numerals.{add-one, one-add}
use native.Mathlib.Decide.{dec_lt, ℕ_discrete}
use native.Mathlib.Omega.{arith}
use lib.Bits.{bit_or, bit_and, bit_xor, differ, or_shifted_r}
use lib.Dec.{eqb}
use lib.Pow.{pow_pos, pow-add, pow-lt, high, low, field, mod-mod-pow, mod-pow-add, shl_exact, shl-shr, shr-shr}
use borrow.Author.Tests.{eq-eqb, ne_eqb}
use Rattle.bits.specs.Bits.{digit, digits_of}
use Rattle.bits.specs.Steps.{mixed}
use Rattle.bits.proofs.Binary.{Bit, off, on, digit-bit}
use Rattle.bits.proofs.Xor.{digit-xor, digit_and}

-- a digit below the n low ones is a digit of those
pub digit-mod : (x n j : ℕ) → j < n → digit (x % 2 ^ n) j ≡ digit x j
digit-mod x n j h =
    let e : n - j - 1 + 1 + j ≡ n = omega arith in
    ap (λ (y : ℕ). x % 2 ^ y / 2 ^ j % 2) (sym e)
    ∙ ap (λ (y : ℕ). y % 2) (field x (n - j - 1 + 1) j)
    ∙ mod-mod-pow (x / 2 ^ j) (n - j - 1) 1

-- ---- the number made of digits

module _ (f : ℕ → ℕ) (bits : (k : ℕ) → Bit (f k)) where
  pub digits_of-lt : (n : ℕ) → digits_of f n < 2 ^ n
  unfolding digits_of
  digits_of-lt zero = omega arith
  digits_of-lt (suc n) =
      let e : 2 ^ suc n ≡ 2 ^ n * 2 = pow-suc 2 n in
      let h = digits_of-lt n in
      go (f n) (bits n) e h
    where
      go : (b : ℕ) → Bit b → 2 ^ suc n ≡ 2 ^ n * 2 → digits_of f n < 2 ^ n → b * 2 ^ n + digits_of f n < 2 ^ suc n
      go b off e h = omega arith
      go b on e h = omega arith

  -- one digit more, as code puts it in
  pub or-digit : (n w : ℕ) → n < w → bit_or (digits_of f n) (f n * 2 ^ n % 2 ^ w) ≡ digits_of f (n + 1)
  unfolding digits_of
  or-digit n w h =
      ap (bit_or (digits_of f n)) (shl_exact 1 n w (lt2 (bits n)) (omega arith))
      ∙ or_shifted_r (f n) n (digits_of f n) (digits_of-lt n)
      ∙ sym (ap (digits_of f) (add-one n))
    where
      lt2 : {x : ℕ} → Bit x → x < 2
      lt2 off = omega arith
      lt2 on = omega arith

  pub digits_of-at : (n j : ℕ) → j < n → digit (digits_of f n) j ≡ f j
  unfolding digits_of
  digits_of-at zero j h = absurd (omega arith)
  digits_of-at (suc n) j h = go (dec_lt j n) (digits_of-at n j)
    where
      go : Dec (j < n) → (j < n → digit (digits_of f n) j ≡ f j) → digit (f n * 2 ^ n + digits_of f n) j ≡ f j
      go (yes l) ih =
          sym (digit-mod (f n * 2 ^ n + digits_of f n) n j l)
          ∙ ap (λ (x : ℕ). digit x j) (low (f n) n (digits_of-lt n))
          ∙ ih l
      go (no u) ih =
          let e : n ≡ j = omega arith in
          ap (λ (x : ℕ). digit (f n * 2 ^ n + digits_of f n) x) (sym e)
          ∙ ap (λ (x : ℕ). x % 2) (high (f n) n (digits_of-lt n))
          ∙ small (bits n)
          ∙ ap f e
        where
          small : {x : ℕ} → Bit x → x % 2 ≡ x
          small off = refl
          small on = refl

-- ---- a number is known by its digits

pub digits_of-ext : (f g : ℕ → ℕ) (n : ℕ) → ((j : ℕ) → j < n → f j ≡ g j) → digits_of f n ≡ digits_of g n
unfolding digits_of
digits_of-ext f g zero h = refl
digits_of-ext f g (suc n) h =
    ap₂ (λ (x y : ℕ). x * 2 ^ n + y) (h n (omega arith)) (digits_of-ext f g n (λ j l. h j (omega arith)))

pub digits_of-digit : (x n : ℕ) → digits_of (digit x) n ≡ x % 2 ^ n
unfolding digits_of
digits_of-digit x zero = sym (mod-one x)
digits_of-digit x (suc n) =
    ap (λ (y : ℕ). digit x n * 2 ^ n + y) (digits_of-digit x n)
    ∙ sym (mod-pow-add x 1 n)
    ∙ ap (λ (y : ℕ). x % 2 ^ y) (one-add n)

pub digits_are : (f : ℕ → ℕ) (n x : ℕ) → x < 2 ^ n → ((j : ℕ) → j < n → digit x j ≡ f j) → x ≡ digits_of f n
digits_are f n x hx h = sym (mod-eq_of_lt hx) ∙ sym (digits_of-digit x n) ∙ digits_of-ext (digit x) f n h

pub same_digits : (n x y : ℕ) → x < 2 ^ n → y < 2 ^ n → ((j : ℕ) → j < n → digit x j ≡ digit y j) → x ≡ y
same_digits n x y hx hy h = digits_are (digit y) n x hx h ∙ digits_of-digit y n ∙ mod-eq_of_lt hy

-- ---- the digits of a number moved down, and moved up

pub digit-down : (b r j : ℕ) → digit (b / 2 ^ r) j ≡ digit b (j + r)
digit-down b r j = ap (λ (y : ℕ). y % 2) (shr-shr b r j ∙ ap (λ (k : ℕ). b / 2 ^ k) (let e : r + j ≡ j + r = omega arith in e))

pub digit-up : (a s j : ℕ) → s ≤ j → digit (a * 2 ^ s) j ≡ digit a (j - s)
digit-up a s j h =
    let e : s + (j - s) ≡ j = omega arith in
    ap (λ (k : ℕ). a * 2 ^ s / 2 ^ k % 2) (sym e)
    ∙ ap (λ (y : ℕ). y % 2) (sym (shr-shr (a * 2 ^ s) s (j - s)) ∙ ap (λ (y : ℕ). y / 2 ^ (j - s)) (shl-shr a s))

pub digit-below : (a s j : ℕ) → j < s → digit (a * 2 ^ s) j ≡ 0
digit-below a s j h =
    sym (digit-mod (a * 2 ^ s) s j h)
    ∙ ap (λ (x : ℕ). digit x j) (mul-mod_left a (2 ^ s))
    ∙ ap (λ (y : ℕ). y % 2) (div-eq_of_lt (pow_pos j))

-- ---- one digit by itself

digit-pow : (s j : ℕ) → digit (2 ^ s) j ≡ cond (eqb j s) 1 0
digit-pow s j = go (dec_lt j s) (ℕ_discrete j s)
  where
    go : Dec (j < s) → Dec (j ≡ s) → digit (2 ^ s) j ≡ cond (eqb j s) 1 0
    go (yes l) d =
        let n : s - j - 1 + 1 + j ≡ s = omega arith in
        let e : 2 ^ s ≡ 2 ^ (s - j - 1) * 2 * 2 ^ j = ap (λ (k : ℕ). 2 ^ k) (sym n) ∙ pow-add 2 (s - j - 1 + 1) j ∙ ap (λ (y : ℕ). y * 2 ^ j) (pow-add 2 (s - j - 1) 1) in
        let q : 2 ^ s / 2 ^ j ≡ 2 ^ (s - j - 1) * 2 = ap (λ (y : ℕ). y / 2 ^ j) e ∙ shl-shr (2 ^ (s - j - 1) * 2) j in
        let r : digit (2 ^ s) j ≡ 0 = omega arith in
        r ∙ sym (ap (λ (b : Bool). cond b 1 0) (ne_eqb j s (λ e. omega arith)))
    go (no u) (yes e) =
        ap (λ (k : ℕ). digit (2 ^ s) k) e
        ∙ ap (λ (y : ℕ). y / 2 ^ s % 2) (sym (one-mul (2 ^ s)))
        ∙ ap (λ (y : ℕ). y % 2) (shl-shr 1 s)
        ∙ sym (ap (λ (b : Bool). cond b 1 0) (eq-eqb j s e))
    go (no u) (no v) =
        ap (λ (y : ℕ). y % 2) (div-eq_of_lt (pow-lt (omega arith)))
        ∙ sym (ap (λ (b : Bool). cond b 1 0) (ne_eqb j s v))

-- the digit v moved to place s
pub digit-moved : (v s j : ℕ) → Bit v → digit (v * 2 ^ s) j ≡ cond (eqb j s) v 0
digit-moved v s j off = ap (λ (y : ℕ). digit y j) none ∙ ap (λ (y : ℕ). y % 2) (div-eq_of_lt (pow_pos j)) ∙ sym (same (eqb j s))
  where
    none : 0 * 2 ^ s ≡ 0
    none = omega arith

    same : (b : Bool) → ◌≡◌ {A = ℕ} (cond b 0 0) 0
    same true = refl
    same false = refl
digit-moved v s j on = ap (λ (y : ℕ). digit y j) (one-mul (2 ^ s)) ∙ digit-pow s j

-- ---- a number mixed of two

mixed-bit : {a b m : ℕ} → Bit a → Bit b → Bit m → differ a (min (differ a b) m) ≡ cond (eqb m 1) b a
mixed-bit off off off = refl
mixed-bit off off on = refl
mixed-bit off on off = refl
mixed-bit off on on = refl
mixed-bit on off off = refl
mixed-bit on off on = refl
mixed-bit on on off = refl
mixed-bit on on on = refl

pub digit-mixed : (a b m j : ℕ) → digit (mixed a b m) j ≡ cond (eqb (digit m j) 1) (digit b j) (digit a j)
digit-mixed a b m j =
    digit-xor a (bit_and (bit_xor a b) m) j
    ∙ ap (differ (digit a j)) (digit_and (bit_xor a b) m j ∙ ap (λ (x : ℕ). min x (digit m j)) (digit-xor a b j))
    ∙ mixed-bit (digit-bit a j) (digit-bit b j) (digit-bit m j)
