-- What the table of this answer says, in facts, where the page of demand 1 says when each number is given: no contract cites this file. Document 02, Fourteen.
use Rattle.std.specs.Prelude.{◌≡◌, true, List, ℕ, ◌/◌, ◌<◌, length}
use Rattle.bits.specs.Rows.{Row, NoRow, FirstRow}
use Rattle.registers.specs.declared.Modes.{Modes}
use Rattle.fields.specs.Isolation.{breaks_at, Keeps}

-- When number n is answered with place k, where `rows` judge what is lent.
pub data Answered (rows : List Row) (m : Modes) (list : List ℕ) : ℕ → ℕ → Type 0 where
  -- row n of what is lent is the first that holds
  by-lent : (n : ℕ) → FirstRow rows n → Answered rows m list n 0
  -- nothing is wrong with what is lent, and instruction k is the first that breaks the condition
  by-instruction : (k : ℕ) → NoRow rows → k < length list / 8 → Keeps m list k → breaks_at m list k ≡ true → Answered rows m list 40 k
