-- What a line makes. docs/TEXT.md, "Fields by name, and the builders as statements".
use Rattle.std.specs.Prelude.{Bool, ℕ}
use Rattle.judge.specs.declared.Instruction.{Instruction}

pub data Act : Type 0 where
  -- an empty line
  Nothing : Act
  -- a number and a column
  Refused : ℕ → ℕ → Act
  -- a field: its name, its start and its width
  Field : ℕ → ℕ → ℕ → Act
  -- how many words a store may reach
  Limit : ℕ → Act
  -- an instruction
  One : Instruction → Act
  -- the list of a sum, or of a difference: the starts of A, B and S, and their width
  Sum : Bool → ℕ → ℕ → ℕ → ℕ → Act
  -- the list and the items of equal, or of less: start, width and number
  Search : Bool → ℕ → ℕ → ℕ → Act
  -- the list of greatest: start and width
  Greatest : ℕ → ℕ → Act
