-- What is promised of a text under a limit, on a page. The names are those of specs/. It is proved in proofs/Limits.antt, and assumes nothing. No contract cites this file.
use Rattle.std.specs.Prelude.{◌≡◌, Bool, true, ◌&&◌, List, [], ◌∷◌, ℕ, ◌/◌, ◌<◌, ◌≤◌, leb, length}
use Rattle.registers.specs.Modes.{none_set}
use Rattle.reach.specs.Reach.{reach_at}
use Rattle.assembly.specs.Words.{word_from}
use Rattle.assembly.specs.Fields.{named}
use Rattle.assembly.specs.Acts.{limit_by}
use Rattle.assembly.specs.Statements.{line_by}
use Rattle.assembly.specs.Assembly.{lines_of, made_list, assembled_answer}

-- The COUNT of a line that is `reach at most` COUNT `words`: 0 where it is none, or is refused.
unfoldable pub limit_of : List ℕ → ℕ
limit_of line = limit_by (line_by (named [] [] []) line (word_from line 0)) 0

-- No line has a higher one than n.
abbrev pub limits_to : ℕ → List (List ℕ) → Bool
limits_to n [] = true
limits_to n (l ∷ ls) = leb (limit_of l) n && limits_to n ls

-- A text whose first line is a limit of n words, and that raises it nowhere, makes a list, of which no instruction reaches more than n words in a run that starts with neither mode register set.
pub record Kept (text : List ℕ) (n : ℕ) : Type 0 where
  pub each : (first : List ℕ) (ls : List (List ℕ)) (room room_items : ℕ)
      → lines_of text ≡ first ∷ ls → limit_of first ≡ n → 0 < n → limits_to n ls ≡ true → (assembled_answer text room room_items).number ≡ 0
      → (j : ℕ) → j < length (made_list text) / 8 → reach_at none_set (made_list text) j ≤ n
