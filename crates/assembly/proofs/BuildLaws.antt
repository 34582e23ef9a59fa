-- What the builders leave in a buffer of just the length of their list. Assumes nothing.
use mathlib.Core.Path.{◌≡◌, refl, sym, ap, ◌∙◌}
use mathlib.Core.Bool.{Bool, true, false, true≢false}
use mathlib.Core.List.{List, [], ◌∷◌}
use Prim.Native.Nat.{ℕ, ◌+◌, ◌^◌, ◌<◌, ◌≤◌}
use native.Mathlib.Omega.{arith}
use lib.ListN.{length}
use borrow.Author.Tests.{le-ltb}
use Rattle.bits.specs.Steps.{put_at}
use Rattle.bits.proofs.Puts.{put_all}
use Rattle.bits.proofs.Rows.{none_number}
use Rattle.builders.specs.Building.{Built}
use Rattle.builders.specs.Building.{BuiltTwo}
use Rattle.builders.specs.Field.{Field}
use Rattle.builders.specs.Lists.{encoded}
use Rattle.builders.specs.Sums.{sum_list, difference_list, list_length, field_rows, fields_fault, sum_built, difference_built}
use Rattle.builders.specs.Searches.{search_list, number_items, greatest_list, search_fault, greatest_fault, search_built, greatest_built}
use Rattle.builders.specs.Building.{BuiltLeft, built_with, BuiltTwoLeft, built_two}
use Rattle.builders.proofs.ListLaws.{sum-length, difference-length, search-length, greatest-length, number-length}
use Rattle.builders.proofs.OneLaws.{one-done}
use Rattle.builders.proofs.TwoLaws.{two-done}
use Rattle.builders.proofs.Refusals.{or-false}
use Rattle.builders.proofs.SearchRefusals.{search-no-fault, greatest-no-fault}
use Rattle.assembly.specs.Acts.{fields_list}
use Rattle.assembly.specs.Steps.{Joined}

-- no bytes, into none
pub none-as : (l m : List ℕ) → m ≡ [] → length l ≡ length m → l ≡ m
none-as [] m e h = sym e
none-as (x ∷ l) m e h = absurd (omega (arith, h, ap length e))

-- a builder's list, where it refuses nothing
one_left : (fault : ℕ) (bytes buffer : List ℕ) → fault ≡ 0 → length buffer ≡ length bytes
    → {r : Built} {l : List ℕ} → ◌≡◌ {A = BuiltLeft} (record { answer = r; list = l }) (built_with fault bytes buffer) → l ≡ bytes
one_left fault bytes buffer z h e =
    ap (λ (x : BuiltLeft). x.list) (e ∙ sym (one-done fault bytes buffer fault refl z (length bytes) (put_at 0 bytes buffer) refl refl))
    ∙ put_all bytes buffer (sym h)

-- ---- a sum and a difference

module _ {a b s n : ℕ} (j : Joined a b s n) where
  sound : (lead have : ℕ) → list_length lead n ≤ have → fields_fault lead a b s n have ≡ 0
  unfolding fields_fault
  sound lead have h =
      none_number (field_rows lead a b s n have) (
        or-false _ _ (le-ltb n 1 j.first.some) (le-ltb 64 n j.first.width),
        (
          or-false _ _ (or-false _ _ (le-ltb 256 (a + n) j.first.fits) (le-ltb 256 (b + n) j.second.fits)) (le-ltb 256 (s + n) j.target.fits),
          (or-false _ _ j.clear_a j.clear_b, (le-ltb have (list_length lead n) h, tt)),
        ),
      )

  pub sum_left : (d : Bool) (buffer : List ℕ) → d ≡ false → length buffer ≡ length (fields_list d a b s n)
      → {r : Built} {l : List ℕ} → ◌≡◌ {A = BuiltLeft} (record { answer = r; list = l }) (sum_built a b s n buffer) → l ≡ fields_list d a b s n
  unfolding sum_built
  sum_left true buffer q h e = absurd (true≢false q)
  sum_left false buffer q h e =
      one_left (fields_fault 1 a b s n (length buffer)) (encoded (sum_list a b s n)) buffer (sound 1 (length buffer) (omega (arith, h, sum-length a b s n))) h e

  pub difference-left : (d : Bool) (buffer : List ℕ) → d ≡ true → length buffer ≡ length (fields_list d a b s n)
      → {r : Built} {l : List ℕ} → ◌≡◌ {A = BuiltLeft} (record { answer = r; list = l }) (difference_built a b s n buffer) → l ≡ fields_list d a b s n
  unfolding difference_built
  difference-left true buffer q h e =
      one_left (fields_fault 2 a b s n (length buffer)) (encoded (difference_list a b s n)) buffer (sound 2 (length buffer) (omega (arith, h, difference-length a b s n))) h e
  difference-left false buffer q h e = absurd (true≢false (sym q))

-- ---- the searches

pub search-left : (less is : Bool) (a n v : ℕ) (list items : List ℕ) → is ≡ less → Field a n → v < 2 ^ n
    → length list ≡ length (encoded (search_list is a n)) → length items ≡ length (number_items v n)
    → {r : BuiltTwo} {l i : List ℕ} → ◌≡◌ {A = BuiltTwoLeft} (record { answer = r; list = l; items = i }) (search_built less a n v list items)
    → (l ≡ encoded (search_list is a n)) × (i ≡ number_items v n)
unfolding search_built
search-left less is a n v list items q f w h k e =
    let bytes = encoded (search_list is a n) in
    let other = number_items v n in
    let fault = search_fault a n v (length list) (length items) in
    let z : fault ≡ 0 = search-no-fault a n v (length list) (length items) f w (omega (arith, h, search-length is a n)) (omega (arith, k, number-length v n)) in
    let left =
    e
    ∙ ap (λ (x : Bool). built_two fault (encoded (search_list x a n)) other list items) (sym q)
    ∙ sym (two-done fault bytes other list items fault refl z (length bytes) (length other) (put_at 0 bytes list) (put_at 0 other items) refl refl refl refl) in (
      ap (λ (x : BuiltTwoLeft). x.list) left ∙ put_all bytes list (sym h),
      ap (λ (x : BuiltTwoLeft). x.items) left ∙ put_all other items (sym k),
    )

pub greatest-left : (a n : ℕ) (buffer : List ℕ) → Field a n → length buffer ≡ length (encoded (greatest_list a n))
    → {r : Built} {l : List ℕ} → ◌≡◌ {A = BuiltLeft} (record { answer = r; list = l }) (greatest_built a n buffer) → l ≡ encoded (greatest_list a n)
unfolding greatest_built
greatest-left a n buffer f h e =
    one_left (greatest_fault a n (length buffer)) (encoded (greatest_list a n)) buffer (greatest-no-fault a n (length buffer) f (omega (arith, h, greatest-length a n))) h e
