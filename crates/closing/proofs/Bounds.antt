-- How large the numbers and the counts of both builders are, whatever they are called on. Assumes nothing.
use mathlib.Core.Path.{refl}
use mathlib.Core.List.{List}
use Prim.Native.Nat.{ℕ, ◌≤◌}
use native.Mathlib.Omega.{arith}
use Rattle.bits.proofs.Rows.{number-high}
use Rattle.builders.specs.Lists.{encoded}
use Rattle.builders.proofs.Bounds.{BoundedTwo, two-bounds}
use Rattle.closing.specs.Closing.{closing_list, closing_items, moving_rows, moving_fault, closing_built}
use Rattle.closing.specs.Closing.{spreading_list, spreading_items, spreading_built}
use Rattle.closing.proofs.Lengths.{closing-length, closing-items-length, spreading-length, spreading-items-length}
use Rattle.closing.proofs.Refusals.{moving-sound}

-- 8(10+19n) bytes, and 32 * 9 of items; 8(1+18n), and 32(1+8n)
moving-le : (a s n marks list items need supply : ℕ) → moving_fault a s n marks list items need supply ≤ 35
unfolding moving_fault
moving-le a s n marks list items need supply = number-high 35 (moving_rows a s n marks list items need supply) refl

module _ (a s n : ℕ) (marks list items : List ℕ) where
  pub closing-bounds : BoundedTwo 35 4944 288 (closing_built a s n marks list items).answer
  unfolding closing_built
  closing-bounds =
      two-bounds 35 4944 288 _ (encoded (closing_list a s n)) (closing_items marks) list items (moving-le a s n _ _ _ _ _)
      (λ z.
      let w = (moving-sound a s n _ _ _ _ _ _ refl z).1.width in
      (omega (arith, closing-length a s n), omega (arith, closing-items-length marks)))

  pub spreading-bounds : BoundedTwo 35 4616 8224 (spreading_built a s n marks list items).answer
  unfolding spreading_built
  spreading-bounds =
      two-bounds 35 4616 8224 _ (encoded (spreading_list a s n)) (spreading_items marks n) list items (moving-le a s n _ _ _ _ _)
      (λ z.
      let w = (moving-sound a s n _ _ _ _ _ _ refl z).1.width in
      (omega (arith, spreading-length a s n), omega (arith, spreading-items-length marks n)))
