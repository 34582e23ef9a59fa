-- What every builder asks of one field: its width, and that it ends inside the word. Document 01, Sum and difference lists; document 02, One, which takes both over.
use Rattle.std.specs.Prelude.{Bool, ◌||◌, ℕ, ◌+◌, ◌≤◌, ltb}

-- "30 width not 1..64."
abbrev pub wrong_width : ℕ → Bool
wrong_width n = ltb n 1 || ltb 64 n

-- "31 a start plus n over 256": as whole numbers, with no wrap-round.
abbrev pub beyond : ℕ → ℕ → Bool
beyond a n = ltb 256 (a + n)

-- A field that neither number refuses: it starts at a and has n bits.
pub record Field (a n : ℕ) : Type 0 where
  pub some : 1 ≤ n
  pub width : n ≤ 64
  pub fits : a + n ≤ 256
