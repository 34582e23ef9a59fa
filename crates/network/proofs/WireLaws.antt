-- What the code of the wired form computes: the signal's number, a level by what the line obeys, a network by its last level. Assumes nothing.
use mathlib.Core.Path.{◌≡◌, refl, sym, ap, ap₂, ◌∙◌}
use mathlib.Core.List.{List}
use Prim.Native.Nat.{ℕ, zero, suc, ◌+◌, ◌-◌, ◌*◌, ◌%◌, ◌^◌, ◌≤◌, ◌<◌}
use native.Mathlib.Nat.{mod-lt, one-mul, mul-le-mul, lt_of_lt_of_le, le_of_lt}
use native.Mathlib.Omega.{arith}
use lib.Bits.{bit_xor}
use lib.Count.{count_leading_zeros}
use lib.Pow.{pow_pos, pow_mono, shl_exact}
use Rattle.bits.specs.Bits.{digit}
use Rattle.network.specs.Shifts.{signal}
use Rattle.network.specs.Wired.{significant, swapped, level, levelled, wired_item}
use Rattle.network.proofs.Significant.{significant-le, significant-leading}

pub one_up : (j : ℕ) → j < 8 → (1 * 2 ^ j) % 256 ≡ 2 ^ j
one_up j h = shl_exact {a = 1} 1 j 8 (omega arith) (omega arith) ∙ one-mul (2 ^ j)

pub group-is : (x j : ℕ) → j < 8
    → (8 - count_leading_zeros 8 (x % ((1 * 2 ^ j) % 256)) ≡ significant (x % 2 ^ j)) × (8 - count_leading_zeros 8 (x % ((1 * 2 ^ j) % 256)) ≤ j)
group-is x j h =
    let l : x % 2 ^ j < 2 ^ j = mod-lt x (pow_pos j) in
    let e : 8 - count_leading_zeros 8 (x % ((1 * 2 ^ j) % 256)) ≡ significant (x % 2 ^ j) =
    ap (λ (w : ℕ). 8 - count_leading_zeros 8 (x % w)) (one_up j h) ∙ sym (significant-leading 8 (x % 2 ^ j) (lt_of_lt_of_le l (pow_mono (le_of_lt h)))) in
    (e, omega (arith, e, significant-le (x % 2 ^ j) j l))

-- level j of a shift starts at most at 28 of its 36 signals
pub start-le : (j : ℕ) → j < 8 → j * (j + 1) ≤ 56
start-le j h = mul-le-mul {n₁ = j} {m₁ = j + 1} {n₂ = 7} {m₂ = 8} (omega arith) (omega arith)

swapped-on : (j s i : ℕ) → (s ≡ 0 → ⊥) → bit_xor i (2 ^ j) ≡ swapped j s i
swapped-on j zero i h = absurd (h refl)
swapped-on j (suc s) i h = refl

module _ (f p m j i k g : ℕ) (group : k ≡ significant (i % 2 ^ j)) (read : g ≡ signal p m j k) where
  obeys : bit_xor g (digit f j) ≡ bit_xor (signal p m j (significant (i % 2 ^ j))) (digit f j)
  obeys = ap (λ (y : ℕ). bit_xor y (digit f j)) (read ∙ ap (signal p m j) group)

  pub level-off : bit_xor g (digit f j) ≡ 0 → i ≡ level f p m j i
  unfolding level
  level-off h = ap (λ (s : ℕ). swapped j s i) (sym h ∙ obeys)

  pub level-on : j < 8 → (bit_xor g (digit f j) ≡ 0 → ⊥) → bit_xor i ((1 * 2 ^ j) % 256) ≡ level f p m j i
  unfolding level
  level-on l h = ap (bit_xor i) (one_up j l) ∙ swapped-on j (bit_xor g (digit f j)) i h ∙ ap (λ (s : ℕ). swapped j s i) obeys

-- no levels, and one level more
pub wired-none : (n f p m : ℕ) (l : List ℕ) → n ≡ 0 → l ≡ wired_item n f p m l
unfolding wired_item
wired-none n f p m l e = ap (λ (k : ℕ). wired_item k f p m l) (sym e)

pub wired-more : (n f p m : ℕ) (l x y : List ℕ) → (n ≡ 0 → ⊥) → x ≡ wired_item (n - 1) f p m l → y ≡ levelled f p m (n - 1) x → y ≡ wired_item n f p m l
unfolding wired_item
wired-more zero f p m l x y h e d = absurd (h refl)
wired-more (suc n) f p m l x y h e d =
    let one : suc n - 1 ≡ n = omega arith in
    d ∙ ap₂ (λ (k : ℕ) (z : List ℕ). levelled f p m k z) one (e ∙ ap (λ (k : ℕ). wired_item k f p m l) one)
