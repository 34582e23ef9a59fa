-- The greatest by one bit more, from the highest bit on: of those that are the greatest by the bits so far, one loses exactly if it lacks the bit and another has it. Assumes nothing.
use mathlib.Core.Path.{◌≡◌, subst}
use mathlib.Core.Logic.{◌⊎◌, inl, inr}
use Prim.Native.Nat.{ℕ, zero, suc, ◌/◌, ◌%◌, ◌<◌, ◌≤◌}
use native.Mathlib.Decide.{dec_lt, dec_le, ℕ_discrete}
use native.Mathlib.Omega.{arith}
use Rattle.registers.specs.Logic.{function_bit}
use Rattle.builders.proofs.Marks.{Mark, mark-iff, mark-map, mark-without}

-- Word p is marked by y, and no marked word has more by v.
abbrev pub Top : (ℕ → ℕ) → (ℕ → ℕ) → ℕ → Type 0
Top y v p = (y p ≡ 1) × ((q : ℕ) → q < 256 → y q ≡ 1 → v q ≤ v p)

-- Some word that z marks has the lowest bit by v.
abbrev pub Some : (ℕ → ℕ) → (ℕ → ℕ) → Type 0
Some z v = (q : ℕ) × (q < 256) × (z q ≡ 1) × (v q % 2 ≡ 1)

-- z marks the greatest by all bits but the lowest
module _ (y z v : ℕ → ℕ) (tops : (p : ℕ) → p < 256 → Mark (Top y (λ q. v q / 2) p) (z p)) (p : ℕ) (hp : p < 256) where
  Loses : Type 0
  Loses = Some z v × (v p % 2 ≡ 1 → ⊥)

  -- one that does not lose is the greatest
  stays : Top y (λ q. v q / 2) p → (Loses → ⊥) → Top y v p
  unfolding Loses
  stays g u = (g.0, λ q hq m. go q hq m (dec_le (v q) (v p)))
    where
      go : (q : ℕ) → q < 256 → y q ≡ 1 → Dec (v q ≤ v p) → v q ≤ v p
      go q hq m (yes h) = h
      go q hq m (no l) =
          let h = g.1 q hq m in
          let top : z q ≡ 1 = (mark-iff (tops q hq)).1 (m, λ r hr k. let i = g.1 r hr k in omega arith) in
          absurd (u ((q, hq, top, omega arith), λ e. omega arith))

  -- and the greatest was so before, and does not lose
  held : Top y v p → Top y (λ q. v q / 2) p × (Loses → ⊥)
  unfolding Loses
  held t = (
    (t.0, λ q hq m. let h = t.1 q hq m in omega arith),
    λ l.
        let q = l.0.0 in
        let i = (mark-iff (tops q l.0.1)).0 l.0.2 in
        let h = i.1 p hp t.0 in
        let k = t.1 q l.0.1 i.0 in
        l.1 (omega (arith, l.0.3)),
  )

  -- the mark without X, where X is the mark of some word that has the bit, without the bit
  pub top-more : {a b : ℕ} → Mark (Some z v) a → Mark (v p % 2 ≡ 1) b → Mark (Top y v p) (function_bit 4 (z p) (function_bit 4 a b))
  unfolding Loses
  top-more some bit = mark-map (λ g. stays g.0 g.1, held) (mark-without (tops p hp) (mark-without some bit))

-- ---- where a word is marked, there is a greatest

one_more : (k : ℕ) (P : ℕ → Type 0) → ((q : ℕ) → q < k → P q) → P k → (q : ℕ) → q < suc k → P q
one_more k P h last q l = go (dec_lt q k)
  where
    go : Dec (q < k) → P q
    go (yes c) = h q c
    go (no c) = let e : k ≡ q = omega arith in subst P e last

module _ (y v : ℕ → ℕ) where
  -- of the words below k none is marked, or one that is has no less than any
  None : ℕ → Type 0
  None k = (q : ℕ) → q < k → y q ≡ 1 → ⊥

  Best : ℕ → Type 0
  Best k = (p : ℕ) × (p < k) × (y p ≡ 1) × ((q : ℕ) → q < k → y q ≡ 1 → v q ≤ v p)

  best-below : (k : ℕ) → None k ⊎ Best k
  unfolding None Best
  best-below zero = inl (λ q h e. omega arith)
  best-below (suc k) = go (best-below k) (ℕ_discrete (y k) 1)
    where
      go : None k ⊎ Best k → Dec (y k ≡ 1) → None (suc k) ⊎ Best (suc k)
      go (inl u) (no n) = inl (one_more k (λ q. y q ≡ 1 → ⊥) u n)
      go (inl u) (yes m) = inr (k, omega arith, m, one_more k (λ q. y q ≡ 1 → v q ≤ v k) (λ q h e. absurd (u q h e)) (λ e. omega arith))
      go (inr (p, h, e, b)) (no n) = inr (p, omega arith, e, one_more k (λ q. y q ≡ 1 → v q ≤ v p) b (λ m. absurd (n m)))
      go (inr (p, h, e, b)) (yes m) = by (dec_le (v k) (v p))
        where
          by : Dec (v k ≤ v p) → None (suc k) ⊎ Best (suc k)
          by (yes l) = inr (p, omega arith, e, one_more k (λ q. y q ≡ 1 → v q ≤ v p) b (λ m. l))
          by (no l) = inr (k, omega arith, m, one_more k (λ q. y q ≡ 1 → v q ≤ v k) (λ q c w. let i = b q c w in omega arith) (λ m. omega arith))

  pub top-there : (w : ℕ) → w < 256 → y w ≡ 1 → (p : ℕ) × (p < 256) × Top y v p
  unfolding None Best
  top-there w h m = go (best-below 256)
    where
      go : None 256 ⊎ Best 256 → (p : ℕ) × (p < 256) × Top y v p
      go (inl u) = absurd (u w h m)
      go (inr (p, l, e, b)) = (p, l, (e, b))
