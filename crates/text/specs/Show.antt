-- A list of instructions as text: one instruction a line. Characters are their ASCII codes. docs/TEXT.md, The one form.
use Rattle.std.specs.Prelude.{cond, List, [], ◌∷◌, ◌++◌, ℕ, zero, suc, ◌/◌, eqb, ltb, length, drop}
use Rattle.spelling.specs.Words.{spelled}
use Rattle.registers.specs.Modes.{none_set}
use Rattle.judge.specs.Instructions.{instruction_at}
use Rattle.judge.specs.Modes.{modes_after}
use Rattle.judge.specs.Judge.{unfit}
use Rattle.lines.specs.Said.{words_of}

-- A blank and the word, where there is one.
unfoldable pub spaced : ℕ → List ℕ
spaced w = cond (eqb w 0) [] (32 ∷ spelled w)

-- The words behind a line's first, and the line feed.
unfoldable pub rest : List ℕ → List ℕ
rest [] = 10 ∷ []
rest (w ∷ ws) = spaced w ++ rest ws

-- A line: words, one blank between them, and a line feed.
unfoldable pub line_text : List ℕ → List ℕ
line_text [] = 10 ∷ []
line_text (w ∷ ws) = spelled w ++ rest ws

-- Instruction k of a list on a line. The mode registers are followed from the list's start, where neither is set.
abbrev pub shown_at : List ℕ → ℕ → List ℕ
shown_at list k = line_text (words_of (modes_after list none_set k) (instruction_at list k))

-- The n instructions from number k on, each on a line.
unfoldable pub shown_from : List ℕ → ℕ → ℕ → List ℕ
shown_from list k zero = []
shown_from list k (suc n) = shown_at list k ++ shown_from list (suc k) n

-- The text of a list of whole instructions.
unfoldable pub shown_text : List ℕ → List ℕ
shown_text list = shown_from list 0 (length list / 8)

-- What showing gives back: 0 and the count of characters, or a number.
pub record Shown : Type 0 where
  pub number : ℕ
  pub count : ℕ

abbrev pub shown_as : ℕ → ℕ → Shown
shown_as number count = record { number = number; count = count }

-- What showing gives back, with room for so many characters: 3 as a run gives it; 27 where the room is too small; else the count of characters.
unfoldable pub shown_answer : List ℕ → ℕ → Shown
shown_answer list room =
    cond (unfit 8 (length list)) (shown_as 3 0)
    (cond (ltb room (length (shown_text list))) (shown_as 27 0)
    (shown_as 0 (length (shown_text list))))

-- The buffer after showing: the text in front where the answer is 0, else as it was.
unfoldable pub shown_out : List ℕ → List ℕ → List ℕ
shown_out list out = cond (eqb (shown_answer list (length out)).number 0) (shown_text list ++ drop (length (shown_text list)) out) out
