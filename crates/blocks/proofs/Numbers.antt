-- Document 01, Blocks on disk: the number of a block is that of its first row that holds, both ways. Assumes nothing.
use mathlib.Core.Path.{◌≡◌, refl}
use mathlib.Core.List.{List}
use Prim.Native.Nat.{ℕ, ◌≤◌}
use Rattle.bits.specs.Rows.{FirstRow}
use Rattle.bits.proofs.Rows.{first-number, number-first, number-high}
use Rattle.blocks.specs.Block.{block_rows, fault}

module _ (b : List ℕ) (kind place count : ℕ) where
  pub fault-first : (fault b kind place count ≡ 0 → ⊥) → FirstRow (block_rows b kind place count) (fault b kind place count)
  unfolding fault
  fault-first u = number-first (block_rows b kind place count) (fault b kind place count) u refl

  pub first-fault : (n : ℕ) → FirstRow (block_rows b kind place count) n → fault b kind place count ≡ n
  unfolding fault
  first-fault n f = first-number (block_rows b kind place count) n f

  -- and 24 is the last
  pub fault-le : fault b kind place count ≤ 24
  unfolding fault
  fault-le = number-high 24 (block_rows b kind place count) refl
