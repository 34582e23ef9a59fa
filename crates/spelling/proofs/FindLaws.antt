-- Where a word first stands in a table: as the library counts it, and as the definition does. Assumes nothing.
use Rattle.std.proofs.Common.{◌≡◌, ◌==◌, ℕ, List, length, not, refl, position, arith}
use Rattle.std.specs.List.{position_or_len}
use Rattle.std.specs.Option.{unwrap_or}
use Rattle.std.proofs.lemmas.List.Recursion.{is_position_or_len}
use Rattle.std.proofs.lemmas.List.Sums.{prefix_len-le-length}
use Rattle.std.proofs.lemmas.Grind.{common_steps}
use Rattle.bits.specs.Search.{index_of}

pub index_of-place : (w : ℕ) (xs : List ℕ) → index_of w xs ≡ position_or_len (λ x. x == w) xs
unfolding index_of
index_of-place w = is_position_or_len (index_of w) (λ x. x == w) refl (λ x xs. grind (arith, common_steps))

-- What `find` gives, and what the definitions count.
pub index_of_found : (w : ℕ) (xs : List ℕ) → index_of w xs ≡ unwrap_or (position (λ x. x == w) xs) (length xs)
index_of_found w xs = rw index_of-place (grind (arith, common_steps, prefix_len-le-length (λ x. not (x == w)) xs))
