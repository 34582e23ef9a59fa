-- A test computed at every number below a bound, and what it says at each. Assumes nothing.
use mathlib.Core.Path.{◌≡◌, subst, sym}
use mathlib.Core.Bool.{Bool, true, false, ◌&&◌}
use mathlib.Core.Logic.{⊎_elim}
use Prim.Native.Nat.{ℕ, zero, suc, ◌<◌}
use native.Mathlib.Nat.{eq-or-lt_of_le, le_of_suc-le-suc, not-suc-le-zero}
use lib.Dec.{T}

pub and_left : (a b : Bool) → T (a && b) → T a
and_left true b t = tt
and_left false b t = t

pub and_right : (a b : Bool) → T (a && b) → T b
and_right true b t = t
and_right false b t = absurd t

-- the test f passes at each number below n
abbrev pub all : ℕ → (ℕ → Bool) → Bool
all zero f = true
all (suc n) f = f n && all n f

pub all-at : (n : ℕ) (f : ℕ → Bool) → T (all n f) → (k : ℕ) → k < n → T (f k)
all-at zero f t k h = absurd (not-suc-le-zero h)
all-at (suc n) f t k h =
    ⊎_elim (λ (e : k ≡ n). subst (λ (j : ℕ). T (f j)) (sym e) (and_left (f n) (all n f) t))
    (λ l. all-at n f (and_right (f n) (all n f) t) k l)
    (eq-or-lt_of_le (le_of_suc-le-suc h))
