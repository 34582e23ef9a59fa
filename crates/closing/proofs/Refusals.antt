-- The table of refusals of closing and spreading, both ways: the number of the first row that holds, and the fields that have none. Assumes nothing.
use mathlib.Core.Path.{◌≡◌, refl, sym, ap, ap₂, ◌∙◌}
use mathlib.Core.Bool.{Bool, true, false, not, ◌&&◌, true≢false}
use mathlib.Core.Logic.{inl, inr, ◌↔◌}
use Prim.Native.Nat.{ℕ, ◌+◌, ◌<◌, ◌≤◌}
use native.Mathlib.Decide.{dec_le}
use native.Mathlib.Omega.{arith}
use lib.Dec.{eqb, ltb}
use borrow.Author.Tests.{eqb-true, eq-eqb, ltb-false, lt-ltb, le-ltb, not-false}
use Rattle.bits.specs.Rows.{FirstRow}
use Rattle.bits.proofs.Rows.{or-none, none_number, number-none, first-number, number-first, row-off}
use Rattle.builders.specs.Field.{beyond}
use Rattle.builders.specs.Sums.{Apart}
use Rattle.closing.specs.Closing.{meets, moving_rows, moving_fault, FieldsApart}
use Rattle.builders.proofs.Refusals.{or-false, and_left}

-- ---- two fields that do not meet are apart

apart_of : (s a n : ℕ) → meets a s n ≡ false → Apart s a n
apart_of s a n e = go (dec_le (a + n) s) (dec_le (s + n) a)
  where
    go : Dec (a + n ≤ s) → Dec (s + n ≤ a) → Apart s a n
    go (yes p) q = inl p
    go (no p) (yes q) = inr q
    go (no p) (no q) =
        let l : s < a + n = omega arith in
        let m : a < s + n = omega arith in
        let t : meets a s n ≡ true = simp (lt-ltb s (a + n) l, lt-ltb a (s + n) m) in
        absurd (true≢false (sym t ∙ e))

of-apart : (s a n : ℕ) → Apart s a n → meets a s n ≡ false
of-apart s a n (inl h) = and_left _ (ltb a (s + n)) (le-ltb s (a + n) h)
of-apart s a n (inr h) = go (ltb s (a + n)) (le-ltb a (s + n) h)
  where
    go : (x : Bool) {y : Bool} → y ≡ false → (x && y) ≡ false
    go true e = e
    go false e = refl

-- ---- `marks`, `list` and `items` are the lengths of what is lent, `need` and `supply` those of the list and its items

-- the number that code gives for lengths x and y that it computes is that for the lengths themselves
pub fault-for : (a s n marks list items : ℕ) {fault x y need supply : ℕ}
    → fault ≡ moving_fault a s n marks list items x y → x ≡ need → y ≡ supply → fault ≡ moving_fault a s n marks list items need supply
fault-for a s n marks list items e p q = e ∙ ap₂ (moving_fault a s n marks list items) p q

module _ (a s n marks list items need supply : ℕ) where
  pub moving-row : (m : ℕ) → (m ≡ 0 → ⊥)
      → (moving_fault a s n marks list items need supply ≡ m) ↔ FirstRow (moving_rows a s n marks list items need supply) m
  unfolding moving_fault
  moving-row m u =
      let rows = moving_rows a s n marks list items need supply in
      (number-first rows m u, first-number rows m)

  pub moving-sound : (fault : ℕ) → fault ≡ moving_fault a s n marks list items need supply → fault ≡ 0
      → (marks ≡ 32) × FieldsApart a s n × (need ≤ list) × (supply ≤ items)
  unfolding moving_fault
  moving-sound fault e z =
      let rows = moving_rows a s n marks list items need supply in
      let off = row-off rows (number-none rows refl (sym e ∙ z)) in
      let w = or-none (ltb n 1) (ltb 32 n) (off 30) in
      let f = or-none (beyond a n) (beyond s n) (off 31) in
      let room = or-none (ltb list need) (ltb items supply) (off 33) in (
        eqb-true marks 32 (not-false (eqb marks 32) (off 35)),
        record {
          some = ltb-false n 1 w.0;
          width = ltb-false 32 n w.1;
          fits_a = ltb-false 256 (a + n) f.0;
          fits_s = ltb-false 256 (s + n) f.1;
          clear = apart_of s a n (off 32);
        },
        ltb-false list need room.0,
        ltb-false items supply room.1,
      )

  pub moving-no-fault : marks ≡ 32 → FieldsApart a s n → need ≤ list → supply ≤ items → moving_fault a s n marks list items need supply ≡ 0
  unfolding moving_fault
  moving-no-fault m f l i =
      none_number (moving_rows a s n marks list items need supply) (
        ap not (eq-eqb marks 32 m),
        (
          or-false _ _ (le-ltb n 1 f.some) (le-ltb 32 n f.width),
          (
            or-false _ _ (le-ltb 256 (a + n) f.fits_a) (le-ltb 256 (s + n) f.fits_s),
            (
              of-apart s a n f.clear,
              (or-false _ _ (le-ltb list need l) (le-ltb items supply i), tt),
            ),
          ),
        ),
      )
