-- The table of refusals of the searches, both ways, and of greatest: the number of the first row that holds, and what is not refused. Assumes nothing.
use mathlib.Core.Path.{◌≡◌, refl, sym, ap, subst, ◌∙◌}
use mathlib.Core.Bool.{Bool, true, false, not}
use mathlib.Core.Logic.{◌↔◌}
use Prim.Native.Nat.{ℕ, ◌+◌, ◌/◌, ◌^◌, ◌<◌, ◌≤◌}
use native.Mathlib.Nat.{lt_of_lt_of_le, div-eq_of_lt, le-div_iff_mul-le, one-mul}
use lib.Dec.{ltb}
use lib.Pow.{pow_pos, pow_mono}
use borrow.Author.Tests.{ltb-true, ltb-false, lt-ltb, le-ltb, not-false}
use Rattle.bits.specs.Rows.{FirstRow}
use Rattle.bits.proofs.Rows.{or-none, none_number, number-none, first-number, number-first, row-off}
use Rattle.builders.specs.Field.{Field, wrong_width, beyond}
use Rattle.builders.specs.Searches.{too_large, search_length, items_length, greatest_length, search_rows, greatest_rows, search_fault, greatest_fault}
use Rattle.builders.proofs.Refusals.{or-false}

-- ---- a field, and neither of its two rows

field_of : (a n : ℕ) → wrong_width n ≡ false → beyond a n ≡ false → Field a n
field_of a n w f =
    let h = or-none (ltb n 1) (ltb 64 n) w in
    record { some = ltb-false n 1 h.0; width = ltb-false 64 n h.1; fits = ltb-false 256 (a + n) f }

width-right : (a n : ℕ) → Field a n → wrong_width n ≡ false
width-right a n f = or-false _ _ (le-ltb n 1 f.some) (le-ltb 64 n f.width)

not_beyond : (a n : ℕ) → Field a n → beyond a n ≡ false
not_beyond a n f = le-ltb 256 (a + n) f.fits

-- ---- too large: for a width of 64 and more no 64-bit number is; below, one that is not shifted out whole

pub wide_enough : (number n : ℕ) → number < 2 ^ 64 → 64 ≤ n → false ≡ too_large number n
wide_enough number n h w = sym (ap not (lt-ltb number (2 ^ n) (lt_of_lt_of_le h (pow_mono w))))

pub shifted-out : (number n : ℕ) → ltb 0 (number / 2 ^ n) ≡ too_large number n
shifted-out number n = go (ltb number (2 ^ n)) refl
  where
    go : (b : Bool) → ltb number (2 ^ n) ≡ b → ltb 0 (number / 2 ^ n) ≡ not b
    go true e = ap (ltb 0) (div-eq_of_lt (ltb-true number (2 ^ n) e))
    go false e =
        let h = ltb-false number (2 ^ n) e in
        lt-ltb 0 (number / 2 ^ n) ((le-div_iff_mul-le (pow_pos n)).1 (subst (λ (x : ℕ). x ≤ number) (sym (one-mul (2 ^ n))) h))

-- ---- equal and less: `list` and `items` are the lengths of the buffers

module _ (a n number list items : ℕ) where
  pub search-row : (m : ℕ) → (m ≡ 0 → ⊥) → (search_fault a n number list items ≡ m) ↔ FirstRow (search_rows a n number list items) m
  unfolding search_fault
  search-row m u = (number-first (search_rows a n number list items) m u, first-number (search_rows a n number list items) m)

  pub search-sound : (fault : ℕ) → fault ≡ search_fault a n number list items → fault ≡ 0
      → Field a n × (number < 2 ^ n) × (search_length n ≤ list) × (items_length n ≤ items)
  unfolding search_fault
  search-sound fault e z =
      let off = row-off (search_rows a n number list items) (number-none (search_rows a n number list items) refl (sym e ∙ z)) in
      let room = or-none (ltb list (search_length n)) (ltb items (items_length n)) (off 33) in (
        field_of a n (off 30) (off 31),
        ltb-true number (2 ^ n) (not-false (ltb number (2 ^ n)) (off 34)),
        ltb-false list (search_length n) room.0,
        ltb-false items (items_length n) room.1,
      )

  pub search-no-fault : Field a n → number < 2 ^ n → search_length n ≤ list → items_length n ≤ items → search_fault a n number list items ≡ 0
  unfolding search_fault
  search-no-fault f s l i =
      none_number (search_rows a n number list items) (
        width-right a n f,
        (
          not_beyond a n f,
          (
            ap not (lt-ltb number (2 ^ n) s),
            (or-false _ _ (le-ltb list (search_length n) l) (le-ltb items (items_length n) i), tt),
          ),
        ),
      )

-- ---- greatest

module _ (a n list : ℕ) where
  pub greatest-row : (m : ℕ) → (m ≡ 0 → ⊥) → (greatest_fault a n list ≡ m) ↔ FirstRow (greatest_rows a n list) m
  unfolding greatest_fault
  greatest-row m u = (number-first (greatest_rows a n list) m u, first-number (greatest_rows a n list) m)

  pub greatest-sound : (fault : ℕ) → fault ≡ greatest_fault a n list → fault ≡ 0 → Field a n × (greatest_length n ≤ list)
  unfolding greatest_fault
  greatest-sound fault e z =
      let off = row-off (greatest_rows a n list) (number-none (greatest_rows a n list) refl (sym e ∙ z)) in
      (field_of a n (off 30) (off 31), ltb-false list (greatest_length n) (off 33))

  pub greatest-no-fault : Field a n → greatest_length n ≤ list → greatest_fault a n list ≡ 0
  unfolding greatest_fault
  greatest-no-fault f l =
      none_number (greatest_rows a n list) (width-right a n f, (not_beyond a n f, (le-ltb list (greatest_length n) l, tt)))
