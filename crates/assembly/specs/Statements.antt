-- The lines of a text: what each kind of line makes, and how it is refused. docs/TEXT.md, "Fields by name, and the builders as statements"; Refusals: "the words of each from left to right", "of one word of a statement the order is that of the table".
use Rattle.std.specs.Prelude.{Bool, true, false, cond, not, ◌||◌, List, [], ◌∷◌, ℕ, ◌+◌, eqb, ltb, length}
use Rattle.bits.specs.Search.{index_of}
use Rattle.bits.specs.Rows as rows
use Rattle.bits.specs.Rows.{Row, row}
use Rattle.registers.specs.declared.Modes.{Modes}
use Rattle.judge.specs.Instructions.{instruction_at}
use Rattle.spelling.specs.Tables.{word_word, words_word}
use Rattle.spelling.specs.Words.{number, unreadable}
use Rattle.text.specs.Make.{made_answer, made_out}
use Rattle.builders.specs.Field.{wrong_width, beyond}
use Rattle.builders.specs.Sums.{crosses}
use Rattle.builders.specs.Searches.{too_large}
use Rattle.assembly.specs.declared.Word.{Word}
use Rattle.assembly.specs.Act.{Act, Nothing, Refused, Field, Limit, One, Sum, Search, Greatest}
use Rattle.assembly.specs.Words.{part, word_from, Value, value_of, same_characters}
use Rattle.assembly.specs.Fields.{Named, known, span_of}
use Rattle.assembly.specs.Acts.{limited, ordered}

-- ---- the words that have to stand, as numbers (spelling/specs/Tables)

-- field, sum, equal, less, greatest, reach
abbrev pub statements : List ℕ
statements = 0x6669656c64 ∷ 0x73756d ∷ 0x657175616c ∷ 0x6c657373 ∷ 0x6772656174657374 ∷ 0x7265616368 ∷ []

-- difference, which has more than eight characters
abbrev pub difference : List ℕ
difference = 100 ∷ 105 ∷ 102 ∷ 102 ∷ 101 ∷ 114 ∷ 101 ∷ 110 ∷ 99 ∷ 101 ∷ []

-- into
abbrev pub into_word : ℕ
into_word = 0x696e746f

-- at, most
abbrev pub at_word : ℕ
at_word = 0x6174

abbrev pub most_word : ℕ
most_word = 0x6d6f7374

-- ---- one word: the number of its refusal, 0 where it stands. 69 where there is none: the line ends too early.

-- NAME: 70, it "has over eight characters, or one outside 33 to 126"; 71, it "is the name of a field above"; 72, "256 fields have names already".
abbrev pub name_rows : Named → ℕ → List Row
name_rows t w =
    row 69 (eqb w 0)
    ∷ row 70 (eqb w unreadable)
    ∷ row 71 (known t w)
    ∷ row 72 (not (ltb (length t.names) 256))
    ∷ []

unfoldable pub name_fault : Named → ℕ → ℕ
name_fault t w = rows.number_of (name_rows t w)

-- START: 64, "no number 0 to 255".
abbrev pub start_rows : ℕ → List Row
start_rows w = row 69 (eqb w 0) ∷ row 64 (not (ltb (number w) 256)) ∷ []

unfoldable pub start_fault : ℕ → ℕ
start_fault w = rows.number_of (start_rows w)

-- WIDTH: 30, "no WIDTH 1 to 64"; 31, "START plus WIDTH is over 256".
abbrev pub width_rows : ℕ → ℕ → List Row
width_rows start w = row 69 (eqb w 0) ∷ row 30 (wrong_width (number w)) ∷ row 31 (beyond (number start) (number w)) ∷ []

unfoldable pub width_fault : ℕ → ℕ → ℕ
width_fault start w = rows.number_of (width_rows start w)

-- A: 73, "no field above has this name".
abbrev pub known_rows : Named → ℕ → List Row
known_rows t w = row 69 (eqb w 0) ∷ row 73 (not (known t w)) ∷ []

unfoldable pub known_fault : Named → ℕ → ℕ
known_fault t w = rows.number_of (known_rows t w)

-- B, where A has n bits: 73, and 74, "the width of B or S is not A's".
abbrev pub second_rows : Named → ℕ → ℕ → List Row
second_rows t n w = row 69 (eqb w 0) ∷ row 73 (not (known t w)) ∷ row 74 (not (eqb (span_of t w).width n)) ∷ []

unfoldable pub second_fault : Named → ℕ → ℕ → ℕ
second_fault t n w = rows.number_of (second_rows t n w)

-- S, where A and B start at a and b: 73, 74, and 32, "S overlaps A or B without having its start": as the builders judge it.
abbrev pub target_rows : Named → ℕ → ℕ → ℕ → ℕ → List Row
target_rows t a b n w =
    row 69 (eqb w 0)
    ∷ row 73 (not (known t w))
    ∷ row 74 (not (eqb (span_of t w).width n))
    ∷ row 32 (crosses (span_of t w).start a n || crosses (span_of t w).start b n)
    ∷ []

unfoldable pub target_fault : Named → ℕ → ℕ → ℕ → ℕ → ℕ
target_fault t a b n w = rows.number_of (target_rows t a b n w)

-- `into`, `at`, `most`, `word`: 65, it "has to stand here"; "`words` may stand for `word`".
abbrev pub only_rows : ℕ → ℕ → ℕ → List Row
only_rows this that w = row 69 (eqb w 0) ∷ row 65 (not (eqb w this || eqb w that)) ∷ []

unfoldable pub only_fault : ℕ → ℕ → ℕ → ℕ
only_fault this that w = rows.number_of (only_rows this that w)

-- VALUE, where A has n bits: 76, it "is no number below 2^64 in one to twenty digits"; 34, it "is 2 to the width of A or more".
abbrev pub value_rows : ℕ → ℕ → Value → List Row
value_rows w n v = row 69 (eqb w 0) ∷ row 76 (not v.stands) ∷ row 34 (too_large v.value n) ∷ []

unfoldable pub value_fault : ℕ → ℕ → Value → ℕ
value_fault w n v = rows.number_of (value_rows w n v)

-- COUNT: 64, "no number 1 to 256".
abbrev pub count_rows : ℕ → List Row
count_rows w = row 69 (eqb w 0) ∷ row 64 (ltb (number w) 1 || ltb 256 (number w)) ∷ []

unfoldable pub count_fault : ℕ → ℕ
count_fault w = rows.number_of (count_rows w)

-- The word behind the last: 67, "more than the line takes".
abbrev pub rest_rows : ℕ → List Row
rest_rows w = row 67 (not (eqb w 0)) ∷ []

unfoldable pub rest_fault : ℕ → ℕ
rest_fault w = rows.number_of (rest_rows w)

-- A word's refusal, with its column; else what the words behind it say.
unfoldable pub refused_or : ℕ → Word → Act → Act
refused_or fault w act = cond (eqb fault 0) act (Refused fault (w.start + 1))

-- ---- the lines, from the place `at` behind their first word on

-- The number below 256 that a word is; 0 where it is none.
unfoldable pub small_of : ℕ → ℕ
small_of w = cond (ltb (number w) 256) (number w) 0

-- `field` NAME START WIDTH
unfoldable pub field_line : Named → List ℕ → ℕ → Act
field_line t line at =
    let name = word_from line at in
    let start = word_from line name.next in
    let width = word_from line start.next in
    let more = word_from line width.next in
    refused_or (name_fault t name.word) name
    (refused_or (start_fault start.word) start
    (refused_or (width_fault start.word width.word) width
    (refused_or (rest_fault more.word) more
    (Field name.word (small_of start.word) (small_of width.word)))))

-- `sum` A B `into` S, and `difference`
unfoldable pub sum_line : Bool → Named → List ℕ → ℕ → Act
sum_line d t line at =
    let a = word_from line at in
    let b = word_from line a.next in
    let into = word_from line b.next in
    let s = word_from line into.next in
    let more = word_from line s.next in
    let n = (span_of t a.word).width in
    let start_a = (span_of t a.word).start in
    let start_b = (span_of t b.word).start in
    refused_or (known_fault t a.word) a
    (refused_or (second_fault t n b.word) b
    (refused_or (only_fault into_word into_word into.word) into
    (refused_or (target_fault t start_a start_b n s.word) s
    (refused_or (rest_fault more.word) more
    (Sum d start_a start_b (span_of t s.word).start n)))))

-- `equal` A VALUE, and `less`
unfoldable pub search_line : Bool → Named → List ℕ → ℕ → Act
search_line l t line at =
    let a = word_from line at in
    let v = word_from line a.next in
    let more = word_from line v.next in
    let n = (span_of t a.word).width in
    let given = value_of (part line v.start v.next) in
    refused_or (known_fault t a.word) a
    (refused_or (value_fault v.word n given) v
    (refused_or (rest_fault more.word) more
    (Search l (span_of t a.word).start n given.value)))

-- `greatest` A
unfoldable pub greatest_line : Named → List ℕ → ℕ → Act
greatest_line t line at =
    let a = word_from line at in
    let more = word_from line a.next in
    refused_or (known_fault t a.word) a
    (refused_or (rest_fault more.word) more
    (Greatest (span_of t a.word).start (span_of t a.word).width))

-- `reach at most` COUNT `word` or `words`
unfoldable pub reach_line : List ℕ → ℕ → Act
reach_line line at =
    let first = word_from line at in
    let second = word_from line first.next in
    let count = word_from line second.next in
    let last = word_from line count.next in
    let more = word_from line last.next in
    refused_or (only_fault at_word at_word first.word) first
    (refused_or (only_fault most_word most_word second.word) second
    (refused_or (count_fault count.word) count
    (refused_or (only_fault word_word words_word last.word) last
    (refused_or (rest_fault more.word) more
    (Limit (number count.word))))))

-- A buffer for one instruction.
abbrev pub eight : List ℕ
eight = 0 ∷ 0 ∷ 0 ∷ 0 ∷ 0 ∷ 0 ∷ 0 ∷ 0 ∷ []

-- "Every other line is an instruction, or empty": what making the line by itself gives. A line makes at most one instruction, so that the buffer is never too short, and the number and the column are those of its first word that may not stand where it does (`instruction-is` of proofs/OneLine).
unfoldable pub instruction_line : List ℕ → Act
instruction_line line =
    cond (eqb (made_answer line 8).number 0)
    (cond (eqb (made_answer line 8).count 0) Nothing (One (instruction_at (made_out line eight) 0)))
    (Refused (made_answer line 8).number (made_answer line 8).column)

-- ---- a line

-- Where its first word has place k among `statements`, and ends at the place `at`.
abbrev pub named_line : Named → List ℕ → ℕ → ℕ → Act
named_line t line at k =
    cond (eqb k 0) (field_line t line at)
    (cond (eqb k 1) (sum_line false t line at)
    (cond (eqb k 2) (search_line false t line at)
    (cond (eqb k 3) (search_line true t line at)
    (cond (eqb k 4) (greatest_line t line at)
    (cond (eqb k 5) (reach_line line at)
    (instruction_line line))))))

-- "A line whose first word is `field`, `sum`, `difference`, `equal`, `less`, `greatest` or `reach` is a statement." The first word is w.
unfoldable pub line_by : Named → List ℕ → Word → Act
line_by t line w =
    cond (same_characters (part line w.start w.next) difference) (sum_line true t line w.next)
    (named_line t line w.next (index_of w.word statements))

-- And 75 and 77, "judged when all else of the line stands": by the limit, by the mode registers, and by whether an instruction took an item from outside, before it.
unfoldable pub line_act : Named → ℕ → Modes → Bool → List ℕ → Act
line_act t limit m taken line =
    let first = word_from line 0 in
    ordered taken first.start (limited limit m first.start (line_by t line first))
