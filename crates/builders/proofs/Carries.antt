-- Numbers made of digits: one carried digit more, the digits turned over, and what a sum with a carry says of quotient and rest. Assumes nothing.
use mathlib.Core.Path.{◌≡◌, refl, sym, ap, ◌∙◌}
use mathlib.Core.Logic.{◌↔◌}
use Prim.Native.Nat.{ℕ, zero, suc, ◌+◌, ◌-◌, ◌*◌, ◌/◌, ◌%◌, ◌^◌, ◌<◌, ◌≤◌}
use native.Mathlib.Nat.{pow-suc, add-mul, mul_assoc, mod-add-mod, add-mod_right, mod-eq_of_lt}
use native.Mathlib.Decide.{dec_le}
use native.Mathlib.Omega.{arith}
use lib.Pow.{high, low}
use Rattle.bits.specs.Bits.{digits_of}
use Rattle.bits.proofs.Binary.{Bit, off, on}

-- one carried digit more: p is the weight of the new digit
pub carry-step : (p s c a b y d e f : ℕ) → s + 2 * c ≡ a + b + y → d + y * p ≡ e + f → (s * p + d) + c * (p * 2) ≡ (a * p + e) + (b * p + f)
carry-step p s c a b y d e f h g =
    let l : (s + 2 * c) * p ≡ s * p + 2 * c * p = add-mul s (2 * c) p in
    let l' : 2 * c * p ≡ 2 * (c * p) = mul_assoc 2 c p in
    let r : (a + b + y) * p ≡ (a + b) * p + y * p = add-mul (a + b) y p in
    let r' : (a + b) * p ≡ a * p + b * p = add-mul a b p in
    let q : c * (p * 2) ≡ c * p * 2 = sym (mul_assoc c p 2) in
    let t : (s + 2 * c) * p ≡ (a + b + y) * p = ap (λ (z : ℕ). z * p) h in
    omega arith

-- the digits turned over
pub turned : (f : ℕ → ℕ) → ((k : ℕ) → Bit (f k)) → (n : ℕ) → digits_of (λ j. 1 - f j) n + digits_of f n + 1 ≡ 2 ^ n
unfolding digits_of
turned f bits zero = refl
turned f bits (suc n) =
    let e : 2 ^ suc n ≡ 2 ^ n * 2 = pow-suc 2 n in
    let h = turned f bits n in
    go (f n) (bits n) e h
  where
    go : (b : ℕ) → Bit b → 2 ^ suc n ≡ 2 ^ n * 2 → digits_of (λ j. 1 - f j) n + digits_of f n + 1 ≡ 2 ^ n
        → ((1 - b) * 2 ^ n + digits_of (λ j. 1 - f j) n) + (b * 2 ^ n + digits_of f n) + 1 ≡ 2 ^ suc n
    go b off e h = omega arith
    go b on e h = omega arith

-- d, below 2 ^ n, and a carry
pub quotient : (n d c t : ℕ) → d < 2 ^ n → d + c * 2 ^ n ≡ t → c ≡ t / 2 ^ n
quotient n d c t h e = sym (ap (λ (z : ℕ). z / 2 ^ n) (let q : t ≡ c * 2 ^ n + d = omega arith in q) ∙ high c n h)

pub rest : (n d c t : ℕ) → d < 2 ^ n → d + c * 2 ^ n ≡ t → d ≡ t % 2 ^ n
rest n d c t h e = sym (ap (λ (z : ℕ). z % 2 ^ n) (let q : t ≡ c * 2 ^ n + d = omega arith in q) ∙ low c n h)

-- ---- x minus y, as x plus what y lacks to 2 ^ n

module _ (n x y : ℕ) (hx : x < 2 ^ n) (hy : y < 2 ^ n) where
  -- the carry out is 1 exactly where no borrow was needed
  pub no_borrow : ((x + (2 ^ n - y)) / 2 ^ n ≡ 1) ↔ (y ≤ x)
  no_borrow = (λ e. go e (dec_le y x), one)
    where
      one : y ≤ x → (x + (2 ^ n - y)) / 2 ^ n ≡ 1
      one h = sym (quotient n (x - y) 1 (x + (2 ^ n - y)) (omega arith) (omega arith))

      go : (x + (2 ^ n - y)) / 2 ^ n ≡ 1 → Dec (y ≤ x) → y ≤ x
      go e (yes h) = h
      go e (no u) =
          let z : 0 ≡ (x + (2 ^ n - y)) / 2 ^ n = quotient n (x + (2 ^ n - y)) 0 (x + (2 ^ n - y)) (omega arith) (omega arith) in
          absurd (omega arith)

  -- what was added is taken off again
  pub put_back : ((x + y) % 2 ^ n + (2 ^ n - y)) % 2 ^ n ≡ x
  put_back =
      mod-add-mod (x + y) (2 ^ n) (2 ^ n - y)
      ∙ ap (λ (z : ℕ). z % 2 ^ n) (let e : x + y + (2 ^ n - y) ≡ x + 2 ^ n = omega arith in e)
      ∙ add-mod_right x (2 ^ n)
      ∙ mod-eq_of_lt hx
