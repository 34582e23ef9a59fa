-- A table of numbers given back: rows in the order in which they are judged, each with the number that it gives.
use Rattle.std.specs.Prelude.{◌≡◌, Bool, true, false, cond, List, [], ◌∷◌, ◌⊎◌, ℕ}

pub record Row : Type 0 where
  pub number : ℕ
  pub holds : Bool

-- A row of a number and of the test that asks for it.
abbrev pub row : ℕ → Bool → Row
row n test = record { number = n; holds = test }

-- The number of the first row that holds: 0 where none does.
abbrev pub number_of : List Row → ℕ
number_of [] = 0
number_of (r ∷ rows) = cond r.holds r.number (number_of rows)

-- ---- the same, as what is said of a table

-- None of the rows holds.
abbrev pub NoRow : List Row → Type 0
NoRow [] = Unit {0}
NoRow (r ∷ rows) = (r.holds ≡ false) × NoRow rows

-- Row n is the first that holds.
abbrev pub FirstRow : List Row → ℕ → Type 0
FirstRow [] n = ⊥
FirstRow (r ∷ rows) n = ((r.holds ≡ true) × (r.number ≡ n)) ⊎ ((r.holds ≡ false) × FirstRow rows n)
