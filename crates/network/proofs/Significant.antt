-- Significant bits of a number, and that they are what leading_zeros leaves of its digits. Assumes nothing.
use mathlib.Core.Path.{◌≡◌}
use Prim.Native.Nat.{ℕ, zero, suc, ◌+◌, ◌-◌, ◌*◌, ◌/◌, ◌^◌, ◌≤◌, ◌<◌, zero-le, suc-le-suc}
use native.Mathlib.Nat.{pow-suc, le_refl}
use native.Mathlib.Decide.{dec_lt}
use native.Mathlib.Omega.{arith}
use lib.Arith.{half_le}
use lib.Pow.{pow_pos}
use lib.Count.{count_leading_zeros, leading_length}
use Rattle.network.specs.Wired.{significant_in, significant}

-- ---- significant bits: x is below 2 ^ k exactly where it has at most k of them

in-le : (d x k : ℕ) → x ≤ d → x < 2 ^ k → significant_in d x ≤ k
unfolding significant_in
in-le zero x k h l = zero-le
in-le (suc d) zero k h l = zero-le
in-le (suc d) (suc x) zero h l = omega arith
in-le (suc d) (suc x) (suc k) h l =
    suc-le-suc (in-le d (suc x / 2) k (half_le h) (let e : 2 ^ suc k ≡ 2 ^ k * 2 = pow-suc 2 k in omega arith))

in-lt : (d x k : ℕ) → x ≤ d → significant_in d x ≤ k → x < 2 ^ k
unfolding significant_in
in-lt zero x k h l = omega (arith, pow_pos k)
in-lt (suc d) zero k h l = pow_pos k
in-lt (suc d) (suc x) zero h l = omega arith
in-lt (suc d) (suc x) (suc k) h l =
    let e : 2 ^ suc k ≡ 2 ^ k * 2 = pow-suc 2 k in
    let i = in-lt d (suc x / 2) k (half_le h) (omega arith) in
    omega arith

pub significant-le : (x k : ℕ) → x < 2 ^ k → significant x ≤ k
unfolding significant
significant-le x k h = in-le x x k (le_refl x) h

pub significant-gt : (x k : ℕ) → 2 ^ k ≤ x → k < significant x
unfolding significant
significant-gt x k h = go (dec_lt k (significant_in x x))
  where
    go : Dec (k < significant_in x x) → k < significant_in x x
    go (yes l) = l
    go (no u) = omega (arith, in-lt x x k (le_refl x) (omega arith))

-- ---- leading zeros

length-le : (m a : ℕ) → 2 ^ m ≤ 2 * a + 1 → m ≤ significant a
length-le zero a h = zero-le
length-le (suc m) a h = significant-gt a m (omega (arith, pow-suc 2 m))

pub significant-leading : (k a : ℕ) → a < 2 ^ k → significant a ≡ k - count_leading_zeros k a
significant-leading k a h =
    let l = leading_length k a h in
    omega (arith, l.1, significant-le a l.0 l.2, length-le l.0 a l.3)
