-- The lengths of the lists of closing and spreading and of their items: whole, and of the rounds that are written so far. Assumes nothing.
use mathlib.Core.Path.{◌≡◌, refl, ◌∙◌}
use mathlib.Core.List.{List, [], ◌∷◌, ◌++◌}
use Prim.Native.Nat.{ℕ, ◌+◌, ◌*◌}
use native.Mathlib.Nat.{one-mul}
use native.Mathlib.Omega.{arith}
use lib.ListN.{length, length-append}
use Rattle.builders.specs.Lists.{encoded, rounds}
use Rattle.builders.specs.Searches.{clear_x}
use Rattle.closing.specs.Closing.{marked, take_mask, store_masked, copy_slice, close_slice, close_round, clear_slice, closing_list, closing_item, closing_items}
use Rattle.closing.specs.Closing.{spread_round, spread_bit, spread_slice, spreading_list, spreading_item, spreading_items}
use Rattle.closing.specs.Closing.{closing_length, closing_items_length, spreading_length, spreading_items_length}
use Rattle.builders.proofs.ListLaws.{length-encoded, length-rounds, length-items}

-- ---- closing: the copies, the rounds, and what clears the other words

pub length-copies : (a s n : ℕ) → length (rounds (copy_slice a s) n) ≡ 2 * n
length-copies a s n = length-rounds (copy_slice a s) 2 n (λ k. refl)

pub length-close-slices : (t s n : ℕ) → length (rounds (close_slice t s) n) ≡ 2 * n
length-close-slices t s n = length-rounds (close_slice t s) 2 n (λ k. refl)

-- the first t of them
pub length-close-rounds : (s n t : ℕ) → length (rounds (close_round s n) t) ≡ (1 + 2 * n) * t
length-close-rounds s n t = length-rounds (close_round s n) (1 + 2 * n) t (λ k. omega (arith, length-close-slices k s n))

pub length-clears : (s n : ℕ) → length (rounds (clear_slice s) n) ≡ n
length-clears s n = length-rounds (clear_slice s) 1 n (λ k. refl) ∙ one-mul n

-- 8(10+19n) bytes
pub closing-length : (a s n : ℕ) → length (encoded (closing_list a s n)) ≡ closing_length n
closing-length a s n =
    let clears = take_mask ∷ clear_x ∷ rounds (clear_slice s) n in
    let closes = rounds (close_round s n) 8 in
    let copies = rounds (copy_slice a s) n in
    length-encoded (closing_list a s n)
    ∙ omega (
      arith,
      length-append copies (closes ++ clears),
      length-append closes clears,
      length-copies a s n,
      length-close-rounds s n 8,
      length-clears s n,
    )

-- nine items
pub closing-items-length : (marks : List ℕ) → length (closing_items marks) ≡ closing_items_length
closing-items-length marks = length-items (closing_item (marked marks)) 9

-- ---- spreading

pub length-spread-rounds : (k : ℕ) → length (rounds spread_round k) ≡ 2 * k
length-spread-rounds k = length-rounds spread_round 2 k (λ j. refl)

length-spread-bit : (g h : ℕ) → length (spread_bit g h) ≡ 18
length-spread-bit g h = omega (arith, length-append (rounds spread_round 8) (store_masked 0 g ∷ []), length-spread-rounds 8)

pub length-spread-slices : (a s n : ℕ) → length (rounds (spread_slice a s) n) ≡ 18 * n
length-spread-slices a s n = length-rounds (spread_slice a s) 18 n (λ k. length-spread-bit (a + k) (s + k))

-- 8(1+18n) bytes
pub spreading-length : (a s n : ℕ) → length (encoded (spreading_list a s n)) ≡ spreading_length n
spreading-length a s n = length-encoded (spreading_list a s n) ∙ omega (arith, length-spread-slices a s n)

-- an item of the marks, and eight for each slice
pub spreading-items-length : (marks : List ℕ) (n : ℕ) → length (spreading_items marks n) ≡ spreading_items_length n
spreading-items-length marks n = length-items (spreading_item marks) (1 + 8 * n)
