-- The table of refusals of a sum and a difference, both ways: the number of the first row that holds, and the fields that have none. Assumes nothing.
use mathlib.Core.Path.{◌≡◌, refl, sym, ap, ap₂, ◌∙◌}
use mathlib.Core.Bool.{Bool, true, false, not, ◌&&◌, ◌||◌, true≢false}
use mathlib.Core.Logic.{inl, inr, ◌↔◌}
use Prim.Native.Nat.{ℕ, ◌+◌, ◌<◌, ◌≤◌}
use native.Mathlib.Decide.{dec_le, ℕ_discrete}
use native.Mathlib.Omega.{arith}
use lib.Dec.{eqb, ltb}
use borrow.Author.Tests.{eq-eqb, ne_eqb, ltb-false, lt-ltb, le-ltb}
use Rattle.bits.specs.declared.refusals.Refusal.{Refusal}
use Rattle.bits.specs.Refusals.{number_of_refusal}
use Rattle.bits.proofs.RefusalLaws.{number-never-zero}
use Rattle.bits.specs.Rows.{FirstRow}
use Rattle.bits.proofs.Rows.{or-none, none_number, number-none, first-number, number-first, row-off}
use Rattle.builders.specs.Field.{beyond}
use Rattle.builders.specs.Sums.{crosses, Clear, Fields, list_length, field_rows, fields_fault}

-- ---- every reason has a number

pub numbered : (r : Refusal) → number_of_refusal r ≡ 0 → ⊥
numbered r h = true≢false (sym (eq-eqb (number_of_refusal r) 0 h) ∙ number-never-zero r)

-- ---- the table: number n is given exactly if row n is the first that holds

pub fault-row : (lead a b s n have m : ℕ) → (m ≡ 0 → ⊥) → (fields_fault lead a b s n have ≡ m) ↔ FirstRow (field_rows lead a b s n have) m
unfolding fields_fault
fault-row lead a b s n have m u = (number-first (field_rows lead a b s n have) m u, first-number (field_rows lead a b s n have) m)

-- ---- no number: the fields are sound and there is room

pub or-false : (a b : Bool) → a ≡ false → b ≡ false → (a || b) ≡ false
or-false a b p q = ap₂ ◌||◌ p q

clear_of : (s a n : ℕ) → crosses s a n ≡ false → Clear s a n
clear_of s a n e = go (ℕ_discrete s a) (dec_le (a + n) s) (dec_le (s + n) a)
  where
    go : Dec (s ≡ a) → Dec (a + n ≤ s) → Dec (s + n ≤ a) → Clear s a n
    go (yes p) q r = inl p
    go (no p) (yes q) r = inr (inl q)
    go (no p) (no q) (yes r) = inr (inr r)
    go (no p) (no q) (no r) =
        let l : s < a + n = omega arith in
        let m : a < s + n = omega arith in
        let t : crosses s a n ≡ true = simp (ne_eqb s a p, lt-ltb s (a + n) l, lt-ltb a (s + n) m) in
        absurd (true≢false (sym t ∙ e))

pub and_left : (a b : Bool) → a ≡ false → (a && b) ≡ false
and_left a b e = ap (λ (x : Bool). x && b) e

of-clear : (s a n : ℕ) → Clear s a n → crosses s a n ≡ false
of-clear s a n (inl e) = simp (eq-eqb s a e)
of-clear s a n (inr (inl h)) = go (not (eqb s a)) (ltb a (s + n)) (le-ltb s (a + n) h)
  where
    go : (x z : Bool) {y : Bool} → y ≡ false → (x && y && z) ≡ false
    go true z e = and_left _ z e
    go false z e = refl
of-clear s a n (inr (inr h)) = go (not (eqb s a)) (ltb s (a + n)) (le-ltb a (s + n) h)
  where
    go : (x y : Bool) {z : Bool} → z ≡ false → (x && y && z) ≡ false
    go true true e = e
    go true false e = refl
    go false y e = refl

module _ (lead a b s n have : ℕ) where
  pub sound : (number : ℕ) → number ≡ fields_fault lead a b s n have → number ≡ 0 → Fields a b s n × (list_length lead n ≤ have)
  unfolding fields_fault
  sound number e z =
      let off = row-off (field_rows lead a b s n have) (number-none (field_rows lead a b s n have) refl (sym e ∙ z)) in
      let w = or-none (ltb n 1) (ltb 64 n) (off 30) in
      let f = or-none (beyond a n || beyond b n) (beyond s n) (off 31) in
      let g = or-none (beyond a n) (beyond b n) f.0 in
      let c = or-none (crosses s a n) (crosses s b n) (off 32) in (
        record {
          some = ltb-false n 1 w.0;
          width = ltb-false 64 n w.1;
          fits_a = ltb-false 256 (a + n) g.0;
          fits_b = ltb-false 256 (b + n) g.1;
          fits_s = ltb-false 256 (s + n) f.1;
          clear_a = clear_of s a n c.0;
          clear_b = clear_of s b n c.1;
        },
        ltb-false have (list_length lead n) (off 33),
      )

  pub no-fault : Fields a b s n → list_length lead n ≤ have → fields_fault lead a b s n have ≡ 0
  unfolding fields_fault
  no-fault f h =
      none_number (field_rows lead a b s n have) (
        or-false _ _ (le-ltb n 1 f.some) (le-ltb 64 n f.width),
        (
          or-false _ _ (or-false _ _ (le-ltb 256 (a + n) f.fits_a) (le-ltb 256 (b + n) f.fits_b)) (le-ltb 256 (s + n) f.fits_s),
          (
            or-false _ _ (of-clear s a n f.clear_a) (of-clear s b n f.clear_b),
            (le-ltb have (list_length lead n) h, tt),
          ),
        ),
      )
