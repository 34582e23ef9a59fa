-- How large the numbers in a builder's answer can be, for whoever hands them on in fewer bits. Assumes nothing.
use mathlib.Core.Path.{◌≡◌, refl, sym, ap, ◌∙◌}
use mathlib.Core.Bool.{Bool}
use mathlib.Core.List.{List}
use Prim.Native.Nat.{ℕ, ◌≤◌}
use native.Mathlib.Decide.{ℕ_discrete}
use native.Mathlib.Omega.{arith}
use lib.ListN.{length}
use Rattle.bits.proofs.Rows.{number-high}
use Rattle.builders.specs.Building.{Built}
use Rattle.builders.specs.Building.{BuiltTwo}
use Rattle.builders.specs.Lists.{encoded}
use Rattle.builders.specs.Sums.{sum_list, difference_list, field_rows, fields_fault, sum_built, difference_built}
use Rattle.builders.specs.Searches.{search_list, number_items, greatest_list, search_rows, greatest_rows, search_fault, greatest_fault, search_built, greatest_built}
use Rattle.builders.specs.Building.{BuiltLeft, built_with, BuiltTwoLeft, built_two}
use Rattle.builders.proofs.ListLaws.{sum-length, difference-length, search-length, greatest-length, number-length}
use Rattle.builders.proofs.OneLaws.{one_number, one-count, one-unwritten}
use Rattle.builders.proofs.TwoLaws.{two-number, two-counts, two-unwritten}
use Rattle.builders.proofs.Refusals.{sound}
use Rattle.builders.proofs.SearchRefusals.{search-sound, greatest-sound}

-- the last number, and the most bytes of a list
pub record Bounded (last most : ℕ) (a : Built) : Type 0 where
  pub number : a.number ≤ last
  pub count : a.count ≤ most

-- and the most of its items
pub record BoundedTwo (last most most_items : ℕ) (a : BuiltTwo) : Type 0 where
  pub number : a.number ≤ last
  pub list : a.list ≤ most
  pub items : a.items ≤ most_items

-- ---- from the number given, and from the lengths where it is 0

one-bounds : (last most fault : ℕ) (bytes list : List ℕ) → fault ≤ last → (fault ≡ 0 → length bytes ≤ most)
    → Bounded last most (built_with fault bytes list).answer
one-bounds last most fault bytes list h size = go (ℕ_discrete fault 0)
  where
    a : Built
    a = (built_with fault bytes list).answer

    n : a.number ≡ fault
    n = one_number fault bytes list

    go : Dec (fault ≡ 0) → Bounded last most a
    go (yes z) = record { number = omega (arith, n); count = omega (arith, one-count fault bytes list (n ∙ z), size z) }
    go (no u) =
        let e = ap (λ (b : BuiltLeft). b.answer.count) (one-unwritten fault bytes list (λ z. u (sym n ∙ z))) in
        record { number = omega (arith, n); count = omega (arith, e) }

pub two-bounds : (last most most_items fault : ℕ) (bytes item_bytes list items : List ℕ) → fault ≤ last
    → (fault ≡ 0 → (length bytes ≤ most) × (length item_bytes ≤ most_items))
    → BoundedTwo last most most_items (built_two fault bytes item_bytes list items).answer
two-bounds last most most_items fault bytes item_bytes list items h size = go (ℕ_discrete fault 0)
  where
    a : BuiltTwo
    a = (built_two fault bytes item_bytes list items).answer

    n : a.number ≡ fault
    n = two-number fault bytes item_bytes list items

    go : Dec (fault ≡ 0) → BoundedTwo last most most_items a
    go (yes z) =
        let c = two-counts fault bytes item_bytes list items (n ∙ z) in
        record { number = omega (arith, n); list = omega (arith, c.0, (size z).0); items = omega (arith, c.1, (size z).1) }
    go (no u) =
        let e = two-unwritten fault bytes item_bytes list items (λ z. u (sym n ∙ z)) in
        let l = ap (λ (b : BuiltTwoLeft). b.answer.list) e in
        let i = ap (λ (b : BuiltTwoLeft). b.answer.items) e in
        record { number = omega (arith, n); list = omega (arith, l); items = omega (arith, i) }

-- ---- each builder: a width is at most 64

-- 8(1+5n) bytes, and 8(2+5n)
fields_le : (lead a b s n have : ℕ) → fields_fault lead a b s n have ≤ 33
unfolding fields_fault
fields_le lead a b s n have = number-high 33 (field_rows lead a b s n have) refl

module _ (a b s n : ℕ) (list : List ℕ) where
  pub sum-bounds : Bounded 33 2576 (sum_built a b s n list).answer
  unfolding sum_built
  sum-bounds =
      one-bounds 33 2576 (fields_fault 1 a b s n (length list)) (encoded (sum_list a b s n)) list (fields_le 1 a b s n (length list))
      (λ z. let w = (sound 1 a b s n (length list) _ refl z).0.width in omega (arith, sum-length a b s n))

  pub difference-bounds : Bounded 33 2576 (difference_built a b s n list).answer
  unfolding difference_built
  difference-bounds =
      one-bounds 33 2576 (fields_fault 2 a b s n (length list)) (encoded (difference_list a b s n)) list (fields_le 2 a b s n (length list))
      (λ z. let w = (sound 2 a b s n (length list) _ refl z).0.width in omega (arith, difference-length a b s n))

-- 8(2+3n) bytes, and 32n of items
search-le : (a n number list items : ℕ) → search_fault a n number list items ≤ 34
unfolding search_fault
search-le a n number list items = number-high 34 (search_rows a n number list items) refl

pub search-bounds : (less : Bool) (a n number : ℕ) (list items : List ℕ) → BoundedTwo 34 1552 2048 (search_built less a n number list items).answer
unfolding search_built
search-bounds less a n number list items =
    two-bounds 34 1552 2048 (search_fault a n number (length list) (length items)) (encoded (search_list less a n)) (number_items number n) list items
    (search-le a n number (length list) (length items))
    (λ z.
    let w = (search-sound a n number (length list) (length items) _ refl z).0.width in
    (omega (arith, search-length less a n), omega (arith, number-length number n)))

-- 8(1+11n) bytes
greatest-le : (a n list : ℕ) → greatest_fault a n list ≤ 33
unfolding greatest_fault
greatest-le a n list = number-high 33 (greatest_rows a n list) refl

pub greatest-bounds : (a n : ℕ) (list : List ℕ) → Bounded 33 5640 (greatest_built a n list).answer
unfolding greatest_built
greatest-bounds a n list =
    one-bounds 33 5640 (greatest_fault a n (length list)) (encoded (greatest_list a n)) list (greatest-le a n (length list))
    (λ z. let w = (greatest-sound a n (length list) _ refl z).0.width in omega (arith, greatest-length a n))
