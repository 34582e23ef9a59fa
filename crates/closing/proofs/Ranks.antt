-- The marked values in the rounds: they keep their order, so that no two ever meet; each round moves a value by its weight or not at all; and the mask of a round is 1 exactly where a value arrives. Document 02, Five. Assumes nothing.
use mathlib.Core.Path.{◌≡◌, refl, sym, ap, subst, ◌∙◌}
use mathlib.Core.Bool.{Bool, true, false, cond, ◌&&◌, true≢false}
use Prim.Native.Nat.{ℕ, suc, ◌+◌, ◌-◌, ◌*◌, ◌/◌, ◌%◌, ◌^◌, ◌<◌, ◌≤◌}
use native.Mathlib.Nat.{mod-le, mod-one, mod-add-mod, mod-eq_of_lt}
use native.Mathlib.Numerals.{one-add}
use native.Mathlib.Decide.{dec_lt}
use native.Mathlib.Omega.{arith}
use lib.Dec.{eqb}
use lib.Pow.{mod-pow-add}
use borrow.Author.Tests.{eqb-true, eq-eqb}
use Rattle.bits.specs.Bits.{digit}
use Rattle.bits.specs.Search.{count}
use Rattle.bits.proofs.Binary.{Bit, digit-bit, bit-lt}
use Rattle.bits.proofs.Search.{count-le, count-more, count-append, count_none, count-bit, count-one}
use Rattle.closing.specs.Closing.{rank, distance, place_at, moves, arrivals}

-- ---- both of two tests

both_true : (a b : Bool) → (a && b) ≡ true → (a ≡ true) × (b ≡ true)
both_true true b e = (refl, e)
both_true false b e = absurd (true≢false (sym e))

and-true : (a b : Bool) → a ≡ true → b ≡ true → (a && b) ≡ true
and-true a b p q = ap (λ (x : Bool). x && b) p ∙ q

not-both : (a b : Bool) → (a ≡ true → b ≡ true → ⊥) → (a && b) ≡ false
not-both true true u = absurd (u refl refl)
not-both true false u = refl
not-both false b u = refl

add-mod-le : (a e p : ℕ) → (a + e) % p ≤ a % p + e
add-mod-le a e p = subst (λ (x : ℕ). x ≤ a % p + e) (mod-add-mod a p e) (mod-le (a % p + e) p)

module _ (m : ℕ → Bool) where
  -- ---- ranks grow, by one for each marked word

  pub rank_lt : (i j : ℕ) → i < j → m i ≡ true → (rank m i < rank m j) × (rank m j + i ≤ j + rank m i)
  rank_lt i j h e =
      let k : i + 1 + (j - (i + 1)) ≡ j = omega arith in
      let s = ap (count m) (sym k) ∙ count-append m (i + 1) (j - (i + 1)) in
      let t = count-more m i ∙ ap (λ (b : Bool). count m i + cond b 1 0) e in
      let l = count-le (λ k. m (i + 1 + k)) (j - (i + 1)) in
      (omega arith, omega arith)

  pub distance-le : (w : ℕ) → distance m w ≤ w
  unfolding distance
  distance-le w = omega arith

  -- ---- the places: "without collisions"

  -- at each time the marked values stand in their old order
  pub in_order : (t i j : ℕ) → i < j → m i ≡ true → place_at m t i < place_at m t j
  unfolding place_at distance
  in_order t i j h e =
      let r = rank_lt i j h e in
      let di = i - rank m i in
      let dj = j - rank m j in
      let ri = count-le m i in
      let rj = count-le m j in
      let s : di + (dj - di) ≡ dj = omega arith in
      let l : dj % 2 ^ t ≤ di % 2 ^ t + (dj - di) = subst (λ (x : ℕ). x % 2 ^ t ≤ di % 2 ^ t + (dj - di)) s (add-mod-le di (dj - di) (2 ^ t)) in
      omega (arith, r.0, r.1, mod-le di (2 ^ t), mod-le dj (2 ^ t))

  -- so no two meet
  pub never-meet : (t i j : ℕ) → m i ≡ true → m j ≡ true → place_at m t i ≡ place_at m t j → i ≡ j
  never-meet t i j mi mj e = go (dec_lt i j) (dec_lt j i)
    where
      go : Dec (i < j) → Dec (j < i) → i ≡ j
      go (yes h) d = absurd (omega (arith, in_order t i j h mi))
      go (no u) (yes h) = absurd (omega (arith, in_order t j i h mj))
      go (no u) (no v) = omega arith

  pub place-le : (t w : ℕ) → place_at m t w ≤ w
  unfolding place_at
  place-le t w = omega arith

  -- before the first round a value is at its word, and after all eight at its rank
  pub place-first : (w : ℕ) → place_at m 0 w ≡ w
  unfolding place_at
  place-first w = omega (arith, mod-one (distance m w))

  pub place-last : (w : ℕ) → w < 256 → place_at m 8 w ≡ rank m w
  unfolding place_at distance
  place-last w h =
      let e : (w - rank m w) % 2 ^ 8 ≡ w - rank m w = mod-eq_of_lt (omega arith) in
      omega (arith, count-le m w)

  -- a round moves a value by its weight, or not at all
  place-step : (t w : ℕ) → place_at m t w ≡ place_at m (suc t) w + digit (distance m w) t * 2 ^ t
  unfolding place_at
  place-step t w =
      let d = distance m w in
      let s : d % 2 ^ suc t ≡ d / 2 ^ t % 2 * 2 ^ t + d % 2 ^ t = ap (λ (x : ℕ). d % 2 ^ x) (sym (one-add t)) ∙ mod-pow-add d 1 t in
      omega (arith, mod-le d (2 ^ suc t), distance-le w)

  -- what it is to move
  pub moves-says : (t w : ℕ) → moves m t w ≡ true → (m w ≡ true) × (digit (distance m w) t ≡ 1)
  unfolding moves
  moves-says t w e = let b = both_true (m w) _ e in (b.0, eqb-true (digit (distance m w) t) 1 b.1)

  pub moves_of : (t w : ℕ) → m w ≡ true → digit (distance m w) t ≡ 1 → moves m t w ≡ true
  unfolding moves
  moves_of t w e d = and-true (m w) _ e (eq-eqb (digit (distance m w) t) 1 d)

  pub moves_not : (t w : ℕ) → (m w ≡ true → digit (distance m w) t ≡ 1 → ⊥) → moves m t w ≡ false
  unfolding moves
  moves_not t w u = not-both (m w) _ (λ e d. u e (eqb-true (digit (distance m w) t) 1 d))

  pub goes : (t w : ℕ) → moves m t w ≡ true → place_at m t w ≡ place_at m (suc t) w + 2 ^ t
  goes t w e = place-step t w ∙ ap (λ (x : ℕ). place_at m (suc t) w + x * 2 ^ t) (moves-says t w e).1 ∙ omega arith

  pub stays : (t w : ℕ) → m w ≡ true → moves m t w ≡ false → place_at m t w ≡ place_at m (suc t) w
  stays t w e n = place-step t w ∙ ap (λ (x : ℕ). place_at m (suc t) w + x * 2 ^ t) (zero (digit-bit (distance m w) t) refl) ∙ omega arith
    where
      zero : {x : ℕ} → Bit x → digit (distance m w) t ≡ x → x ≡ 0
      zero b q = omega (arith, bit-lt b, not-one q)
        where
          not-one : {x : ℕ} → digit (distance m w) t ≡ x → (x ≡ 1 → ⊥)
          not-one q o = true≢false (sym (moves_of t w e (q ∙ o)) ∙ n)

  -- ---- the masks

  module _ (t u : ℕ) where
    -- word w's value arrives at word p
    abbrev pub arrives : ℕ → ℕ → Bool
    arrives p w = moves m t w && eqb (place_at m u w) p

    pub arrives-says : (p w : ℕ) → arrives p w ≡ true → (moves m t w ≡ true) × (place_at m u w ≡ p)
    arrives-says p w e = let b = both_true (moves m t w) _ e in (b.0, eqb-true (place_at m u w) p b.1)

    pub arrives-not : (p w : ℕ) → (moves m t w ≡ true → place_at m u w ≡ p → ⊥) → arrives p w ≡ false
    arrives-not p w n = not-both (moves m t w) _ (λ e q. n e (eqb-true (place_at m u w) p q))

    once : (p i j : ℕ) → i < j → arrives p i ≡ true → arrives p j ≡ true → ⊥
    once p i j h x y =
        let a = arrives-says p i x in
        let b = arrives-says p j y in
        omega (arith, a.1, b.1, in_order u i j h (moves-says t i a.0).0)

    -- at most one value arrives, of those of the words below n
    pub landed-bit : (n p : ℕ) → Bit (count (arrives p) n)
    landed-bit n p = count-bit (arrives p) (once p) n

    pub arrivals-bit : (p : ℕ) → Bit (arrivals m t u p)
    unfolding arrivals
    arrivals-bit p = landed-bit 256 p

    -- a value that moves arrives
    pub arrived : (w : ℕ) → w < 256 → moves m t w ≡ true → arrivals m t u (place_at m u w) ≡ 1
    unfolding arrivals
    arrived w h e =
        count-one (arrives (place_at m u w)) (once (place_at m u w)) 256 w h (and-true (moves m t w) _ e (eq-eqb (place_at m u w) (place_at m u w) refl))

    -- and none at the place of a value that stays
    pub unarrived : (w : ℕ) → m w ≡ true → moves m t w ≡ false → arrivals m t u (place_at m u w) ≡ 0
    unfolding arrivals
    unarrived w e n =
        count_none (arrives (place_at m u w)) 256
        (λ j h. arrives-not (place_at m u w) j
        (λ x q. true≢false (sym x ∙ ap (moves m t) (never-meet u j w (moves-says t j x).0 e q) ∙ n)))
