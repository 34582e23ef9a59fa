-- The rounds of closing and spreading on one slice, as functions of the lines: each marked value is at its place after every round, so at the end of a closing at its rank, and at the end of a spreading at its word. Assumes nothing.
use mathlib.Core.Path.{◌≡◌, refl, sym, ap, ◌∙◌}
use mathlib.Core.Bool.{Bool, true, false, cond}
use Prim.Native.Nat.{ℕ, zero, suc, ◌+◌, ◌-◌, ◌^◌, ◌<◌, ◌≤◌}
use native.Mathlib.Omega.{arith}
use lib.Dec.{eqb}
use Rattle.closing.specs.Closing.{rank, place_at, moves, arrivals}
use Rattle.closing.proofs.Ranks.{place-le, place-first, place-last, goes, stays, arrived, unarrived}

-- One round: where the mask is 1, a line takes what the line `from` of it had.
unfoldable pub carried : (ℕ → ℕ) → (ℕ → ℕ) → (ℕ → ℕ) → ℕ → ℕ
carried mask from v p = cond (eqb (mask p) 1) (v (from p)) (v p)

pub carried_on : (mask from v : ℕ → ℕ) (p : ℕ) → mask p ≡ 1 → carried mask from v p ≡ v (from p)
unfolding carried
carried_on mask from v p e = ap (λ (x : ℕ). cond (eqb x 1) (v (from p)) (v p)) e

pub carried-off : (mask from v : ℕ → ℕ) (p : ℕ) → mask p ≡ 0 → carried mask from v p ≡ v p
unfolding carried
carried-off mask from v p e = ap (λ (x : ℕ). cond (eqb x 1) (v (from p)) (v p)) e

pub carried_same : (mask mask' from v v' : ℕ → ℕ) (p : ℕ) → mask p ≡ mask' p → v (from p) ≡ v' (from p) → v p ≡ v' p → carried mask from v p ≡ carried mask' from v' p
unfolding carried
carried_same mask mask' from v v' p a b c = cc

-- The slice after t rounds of a closing, lowest weight first; `from t` is where the round of weight 2^t takes from.
unfoldable pub closed_by : (ℕ → Bool) → (ℕ → ℕ → ℕ) → ℕ → (ℕ → ℕ) → ℕ → ℕ
closed_by m from zero v = v
closed_by m from (suc t) v = carried (arrivals m t (suc t)) (from t) (closed_by m from t v)

-- And after k rounds of a spreading, highest weight first.
unfoldable pub spread_by : (ℕ → Bool) → (ℕ → ℕ → ℕ) → ℕ → (ℕ → ℕ) → ℕ → ℕ
spread_by m from zero v = v
spread_by m from (suc k) v = carried (arrivals m (7 - k) (7 - k)) (from (7 - k)) (spread_by m from k v)

module _ (m : ℕ → Bool) (from : ℕ → ℕ → ℕ) (v : ℕ → ℕ) where
  -- ---- closing: from the words further on

  module _ (further : (t p : ℕ) → t < 8 → p + 2 ^ t < 256 → from t p ≡ p + 2 ^ t) where
    pub closed_at : (t w : ℕ) → t ≤ 8 → w < 256 → m w ≡ true → closed_by m from t v (place_at m t w) ≡ v w
    unfolding closed_by
    closed_at zero w ht hw e = ap v (place-first m w)
    closed_at (suc t) w ht hw e = go (moves m t w) refl (closed_at t w (omega arith) hw e)
      where
        p : ℕ
        p = place_at m (suc t) w

        go : (b : Bool) → moves m t w ≡ b → closed_by m from t v (place_at m t w) ≡ v w
            → carried (arrivals m t (suc t)) (from t) (closed_by m from t v) p ≡ v w
        go true q ih =
            let g = goes m t w q in
            carried_on (arrivals m t (suc t)) (from t) (closed_by m from t v) p (arrived m t (suc t) w hw q)
            ∙ ap (closed_by m from t v) (further t p (omega arith) (omega (arith, g, place-le m t w)) ∙ sym g)
            ∙ ih
        go false q ih =
            carried-off (arrivals m t (suc t)) (from t) (closed_by m from t v) p (unarrived m t (suc t) w e q)
            ∙ ap (closed_by m from t v) (sym (stays m t w e q))
            ∙ ih

    -- after all eight, at its rank
    pub closed-last : (w : ℕ) → w < 256 → m w ≡ true → closed_by m from 8 v (rank m w) ≡ v w
    closed-last w hw e = ap (closed_by m from 8 v) (sym (place-last m w hw)) ∙ closed_at 8 w (omega arith) hw e

  -- ---- spreading: from the words before

  module _ (before : (t p : ℕ) → t < 8 → 2 ^ t ≤ p → p < 256 → from t p ≡ p - 2 ^ t) where
    pub spread_at : (k w : ℕ) → k ≤ 8 → w < 256 → m w ≡ true → spread_by m from k v (place_at m (8 - k) w) ≡ v (rank m w)
    unfolding spread_by
    spread_at zero w hk hw e = ap v (place-last m w hw)
    spread_at (suc k) w hk hw e = go (moves m t w) refl (spread_at k w (omega arith) hw e)
      where
        t : ℕ
        t = 7 - k

        p : ℕ
        p = place_at m (8 - suc k) w

        here : p ≡ place_at m t w
        here = ap (λ (x : ℕ). place_at m x w) (let q : 8 - suc k ≡ 7 - k = omega arith in q)

        earlier : place_at m (8 - k) w ≡ place_at m (suc t) w
        earlier = ap (λ (x : ℕ). place_at m x w) (let q : 8 - k ≡ suc (7 - k) = omega arith in q)

        mask : ℕ → ℕ
        mask = arrivals m t t

        go : (b : Bool) → moves m t w ≡ b → spread_by m from k v (place_at m (8 - k) w) ≡ v (rank m w)
            → carried mask (from t) (spread_by m from k v) p ≡ v (rank m w)
        go true q ih =
            let g = goes m t w q in
            let l = place-le m t w in
            carried_on mask (from t) (spread_by m from k v) p (ap mask here ∙ arrived m t t w hw q)
            ∙ ap (spread_by m from k v)
            (ap (from t) here ∙ before t (place_at m t w) (omega arith) (omega arith) (omega arith)
            ∙ (let d : place_at m t w - 2 ^ t ≡ place_at m (suc t) w = omega arith in d) ∙ sym earlier)
            ∙ ih
        go false q ih =
            carried-off mask (from t) (spread_by m from k v) p (ap mask here ∙ unarrived m t t w e q)
            ∙ ap (spread_by m from k v) (here ∙ stays m t w e q ∙ sym earlier)
            ∙ ih

    -- after all eight, at its word
    pub spread-last : (w : ℕ) → w < 256 → m w ≡ true → spread_by m from 8 v w ≡ v (rank m w)
    spread-last w hw e = ap (spread_by m from 8 v) (sym (place-first m w)) ∙ spread_at 8 w (omega arith) hw e
