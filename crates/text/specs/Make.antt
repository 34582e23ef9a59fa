-- Text as a list of instructions: what each character makes of what was read so far. docs/TEXT.md, Words, lines and comments, and Refusals.
use Rattle.std.specs.Prelude.{Bool, true, false, cond, ◌||◌, List, [], ◌∷◌, ◌++◌, ℕ, zero, suc, ◌+◌, eqb, ltb, length, get_or, drop}
use Rattle.spelling.specs.Words.{extended}
use Rattle.judge.specs.Kinds.{most_bytes}
use Rattle.lines.specs.declared.Line.{Line}
use Rattle.lines.specs.declared.Phase.{Phase}
use Rattle.lines.specs.declared.Phase.TheVariants.{Head, Choice, Function, Source, Place, Mode, AddressWord, Address, From, Register, Moves, Flip, AfterFlip, Amount, Modulo, Group, SetWhich, SetTo, End, Byte, Whole, Comment, Refused}
use Rattle.lines.specs.Alone.{bytes_of, of_kind}
use Rattle.lines.specs.Worded.{line, worded, sort_of}
use Rattle.text.specs.declared.Reading.{Reading}

abbrev pub reading : Line → ℕ → ℕ → Bool → Reading
reading l w p r = record { line = l; word = w; start = p; ready = r }

-- Before the first character.
abbrev pub begin : Reading
begin = reading (line Head (of_kind 0)) 0 0 false

-- The instruction so far, with another phase.
abbrev pub rephrased : Phase → Line → Line
rephrased p l = line p l.got

-- Where a word begins that goes on at place `at`.
abbrev pub start_of : ℕ → ℕ → ℕ → ℕ
start_of w at start = cond (eqb w 0) at start

-- Space, tab and carriage return.
abbrev pub blank : ℕ → Bool
blank c = eqb c 32 || (eqb c 9 || eqb c 13)

-- The line once the word at its end, if there is one, is read.
unfoldable pub ended : Line → ℕ → Line
ended l w = cond (eqb w 0) l (worded l w)

-- The line l ends at place `at`, and what follows is a new line or a comment. A whole instruction is ready; one that is not whole is refused there, with 69; a refusal stays where its word began.
unfoldable pub closed : Phase → Line → ℕ → ℕ → Reading
closed next l at start =
    cond (eqb (sort_of l.phase) 1) (reading (line next l.got) 0 at false)
    (cond (eqb (sort_of l.phase) 2) (reading (line next l.got) 0 at true)
    (cond (eqb (sort_of l.phase) 4) (reading l 0 start false)
    (reading (line (Refused 69) l.got) 0 at false)))

-- The character c at place `at`, in a line that is neither refused nor in its comment.
unfoldable pub character : Reading → ℕ → ℕ → Reading
character s at c =
    cond (eqb c 10) (closed Head (ended s.line s.word) at s.start)
    (cond (eqb c 59) (closed Comment (ended s.line s.word) at s.start)
    (cond (blank c) (reading (ended s.line s.word) 0 s.start false)
    (reading s.line (extended s.word c) (start_of s.word at s.start) false)))

-- In a comment only the line feed counts.
unfoldable pub commented : Reading → ℕ → ℕ → Reading
commented s at c = cond (eqb c 10) (reading (line Head s.line.got) 0 at false) (reading s.line s.word s.start false)

unfoldable pub stepped : Reading → ℕ → ℕ → Reading
stepped s at c =
    cond (ltb (sort_of s.line.phase) 3) (character s at c)
    (cond (eqb (sort_of s.line.phase) 3) (commented s at c)
    (reading s.line s.word s.start false))

-- What a character brings: the instruction that is whole with it.
unfoldable pub brought : Reading → List ℕ
brought s = cond s.ready (bytes_of s.line.got) []

-- The bytes that the characters cs, from place `at` on, bring; and what was read in the end.
unfoldable pub emitted : Reading → ℕ → List ℕ → List ℕ
emitted s at [] = []
emitted s at (c ∷ cs) = brought (stepped s at c) ++ emitted (stepped s at c) (at + 1) cs

unfoldable pub ends : Reading → ℕ → List ℕ → Reading
ends s at [] = s
ends s at (c ∷ cs) = ends (stepped s at c) (at + 1) cs

-- The line so far after the characters cs, with the word at its end.
abbrev pub line_so_far : List ℕ → Line
line_so_far cs = let s = ends begin 0 cs in ended s.line s.word

-- The number of a refusal: 0 where there is none.
abbrev pub number_of : Phase → ℕ
number_of (Refused n) = n
number_of Head = 0
number_of Comment = 0
number_of Choice = 0
number_of Function = 0
number_of Source = 0
number_of Place = 0
number_of Mode = 0
number_of AddressWord = 0
number_of Address = 0
number_of From = 0
number_of Register = 0
number_of Moves = 0
number_of Flip = 0
number_of AfterFlip = 0
number_of Amount = 0
number_of Modulo = 0
number_of Group = 0
number_of SetWhich = 0
number_of SetTo = 0
number_of End = 0
number_of (Byte n) = 0
number_of Whole = 0

-- A text is read to its end, and a line feed behind it. The bytes that it makes, and what was read in the end.
unfoldable pub made_bytes : List ℕ → List ℕ
made_bytes text = emitted begin 0 (text ++ (10 ∷ []))

unfoldable pub last_of : List ℕ → Reading
last_of text = ends begin 0 (text ++ (10 ∷ []))

-- Place k of a text, as line and column from 1: each line feed before it starts a line.
unfoldable pub line_at : List ℕ → ℕ → ℕ
line_at text zero = 1
line_at text (suc k) = cond (eqb (get_or text k 0) 10) (line_at text k + 1) (line_at text k)

unfoldable pub column_at : List ℕ → ℕ → ℕ
column_at text zero = 1
column_at text (suc k) = cond (eqb (get_or text k 0) 10) 1 (column_at text k + 1)

-- ---- the answer

-- What making gives back: 0 and the count of bytes; or a number, with the line and the column of what is refused, counted from 1.
pub record Made : Type 0 where
  pub number : ℕ
  pub line : ℕ
  pub column : ℕ
  pub count : ℕ

abbrev pub answer : ℕ → ℕ → ℕ → ℕ → Made
answer number row column count = record { number = number; line = row; column = column; count = count }

-- A refusal with the line and the column of its place.
unfoldable pub refused_at : List ℕ → ℕ → ℕ → Made
refused_at text number at = answer number (line_at text at) (column_at text at) 0

-- "They are judged in this order": 50 for a text over 1,048,576 characters; a line's refusal, with line and column; 3 for over 4,096 instructions; 33 where the room is too small. Else the count of bytes.
unfoldable pub made_answer : List ℕ → ℕ → Made
made_answer text room =
    cond (ltb 1048576 (length text)) (answer 50 0 0 0)
    (cond (eqb (number_of (last_of text).line.phase) 0)
    (cond (ltb most_bytes (length (made_bytes text))) (answer 3 0 0 0)
    (cond (ltb room (length (made_bytes text))) (answer 33 0 0 0)
    (answer 0 0 0 (length (made_bytes text)))))
    (refused_at text (number_of (last_of text).line.phase) (last_of text).start))

-- The buffer after making: the bytes in front where the answer is 0, else as it was.
unfoldable pub made_out : List ℕ → List ℕ → List ℕ
made_out text out = cond (eqb (made_answer text (length out)).number 0) (made_bytes text ++ drop (length (made_bytes text)) out) out
