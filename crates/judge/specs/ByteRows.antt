-- A table whose rows say which byte is wrong. Document 02, Six: "the offending byte, 0 to 7, the first one wrong by the number given".
use Rattle.std.specs.Prelude.{◌≡◌, Bool, cond, List, [], ◌∷◌, ◌⊎◌, ℕ, ◌<◌}
use Rattle.bits.specs.Rows.{Row, row, NoRow, FirstRow}
use Rattle.judge.specs.Answers.{Fault}

-- A row: the number that it gives, and its conditions, each about one byte, in the order of the bytes (`InOrder`). It holds where one of them does. A condition is a row in its turn, and its number is the byte.
pub record ByteRow : Type 0 where
  pub number : ℕ
  pub conditions : List Row

abbrev pub byte_row : ℕ → List Row → ByteRow
byte_row n conditions = record { number = n; conditions = conditions }

-- A condition about byte b.
abbrev pub byte : ℕ → Bool → Row
byte b test = row b test

-- A row that holds gives its number and the byte of the first of its conditions that does; one that does not leaves it to those behind it.
abbrev pub fault_by : ℕ → List Row → Fault → Fault
fault_by n [] behind = behind
fault_by n (c ∷ conditions) behind = cond c.holds (record { number = n; byte = c.number }) (fault_by n conditions behind)

-- What the first row that holds gives, with `behind` where none does.
abbrev pub fault_before : List ByteRow → Fault → Fault
fault_before [] behind = behind
fault_before (r ∷ rows) behind = fault_by r.number r.conditions (fault_before rows behind)

-- The same of a whole table: number 0 and byte 0 where none does.
abbrev pub fault_in : List ByteRow → Fault
fault_in rows = fault_before rows (record { number = 0; byte = 0 })

-- A table that speaks of one byte alone, as rows about byte b.
abbrev pub about_byte : ℕ → List Row → List ByteRow
about_byte b [] = []
about_byte b (r ∷ rows) = byte_row r.number (byte b r.holds ∷ []) ∷ about_byte b rows

-- ---- the same, as what is said of a table

-- The conditions of each row stand in the order of the bytes, so that the first that holds is about the lowest byte that is wrong.
abbrev pub Rising : List Row → Type 0
Rising [] = Unit {0}
Rising (c ∷ []) = Unit {0}
Rising (c ∷ d ∷ conditions) = (c.number < d.number) × Rising (d ∷ conditions)

abbrev pub InOrder : List ByteRow → Type 0
InOrder [] = Unit {0}
InOrder (r ∷ rows) = Rising r.conditions × InOrder rows

-- None of the rows holds: none of the conditions of any does.
abbrev pub NoByteRow : List ByteRow → Type 0
NoByteRow [] = Unit {0}
NoByteRow (r ∷ rows) = NoRow r.conditions × NoByteRow rows

-- Row n is the first that holds, and its condition about byte b the first of its conditions that does.
abbrev pub FirstByteRow : List ByteRow → ℕ → ℕ → Type 0
FirstByteRow [] n b = ⊥
FirstByteRow (r ∷ rows) n b = ((r.number ≡ n) × FirstRow r.conditions b) ⊎ (NoRow r.conditions × FirstByteRow rows n b)
