-- The first number at which a test holds, and at how many it does; where a number stands in a list.
use Rattle.std.specs.Prelude.{◌≡◌, Bool, cond, List, [], ◌∷◌, ℕ, zero, suc, ◌+◌, ◌<◌, eqb}

-- The first of the n numbers from k on at which f holds, or k + n where there is none.
unfoldable pub first : (ℕ → Bool) → ℕ → ℕ → ℕ
first f k zero = k
first f k (suc n) = cond (f k) k (first f (suc k) n)

-- At how many of the numbers below n the test f holds.
unfoldable pub count : (ℕ → Bool) → ℕ → ℕ
count f zero = 0
count f (suc n) = count f n + cond (f n) 1 0

-- Where x first stands in a list, or the list's length.
unfoldable pub index_of : ℕ → List ℕ → ℕ
index_of x [] = zero
index_of x (y ∷ ys) = cond (eqb y x) zero (suc (index_of x ys))

-- The test of lines for a 1: is f at k a 1?
abbrev pub is_one : (ℕ → ℕ) → ℕ → Bool
is_one f k = eqb (f k) 1

-- What a count says: exactly c of the numbers below n have the property P. They can be numbered from 0 to c - 1, rising, each of them once and no other: `nth j` is the one with number j. No other c does it (`numbered-once` of proofs/Search).
pub record Numbered (P : ℕ → Type 0) (n c : ℕ) : Type 0 where
  pub nth : ℕ → ℕ
  pub below : (j : ℕ) → j < c → nth j < n
  pub has : (j : ℕ) → j < c → P (nth j)
  pub rising : (i j : ℕ) → i < j → j < c → nth i < nth j
  pub each : (k : ℕ) → k < n → P k → (j : ℕ) × (j < c) × (nth j ≡ k)
