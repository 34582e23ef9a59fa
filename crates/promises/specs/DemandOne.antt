-- Demand 1, on a page: "Every public entry takes arbitrary bytes and lengths, and ends. A list is judged whole before its first instruction acts. A refusal gives the number and place that document 01 fixes, exactly when it says, and no lent byte has changed." Document 02, Six: "Demand 1 reads with the finer table", and a run's or step's refusal gives the offending byte; Seven adds 14 and 15, Eight 28 and 15 in pictures, Fourteen 40; docs/TEXT.md has the numbers of reach, of show, and of making a text, with statements (`assemble`) and of instructions alone (`make`).
-- A record states each table of document 01; `DemandOne`, below them, has a field for each public entry and for each function of the library. A table is a list of rows with their numbers, in the order in which they are judged; `FirstRow rows n` says that row n is the first that holds, and `FirstByteRow rows n b` also that its condition about byte b is the first of its conditions that does. The names are those of specs/. It is proved in proofs/DemandOne.antt, and assumes nothing.
-- What is lent is any list of bytes, and a kind, a start or a width any number: no contract of an entry has a `requires`, so no field has a condition on them. That an entry ends is part of every check. A name with ' is what a buffer lent for writing holds afterwards; one lent for reading cannot change. What stands before a field's last arrow is the entry's promise, its contract's clauses as specs/Clauses.antt has them.
use Rattle.std.specs.Prelude.{◌≡◌, Bool, true, false, not, ◌&&◌, ◌||◌, List, [], ◌∷◌, ◌↔◌, ◌≢◌, ℕ, ◌*◌, ◌/◌, ◌^◌, ◌<◌, ◌≤◌, eqb, ltb, leb, length, replicate}
use Rattle.bits.specs.Rows.{Row, row, NoRow, FirstRow}
use Rattle.network.specs.Answer.{Passed}
use Rattle.network.specs.Shifts.{permitted}
use Rattle.network.specs.Unlisted.{code_rows}
use Rattle.network.specs.Answer.{passed_item}
use Rattle.registers.specs.declared.Modes.{Modes}
use Rattle.registers.specs.declared.Registers.{Registers}
use Rattle.registers.specs.Modes.{modes_of}
use Rattle.judge.specs.declared.Instruction.{Instruction}
use Rattle.judge.specs.declared.Lengths.{Lengths}
use Rattle.judge.specs.Answers.{Answer}
use Rattle.judge.specs.ByteRows.{InOrder}
use Rattle.judge.specs.Kinds.{most_bytes}
use Rattle.judge.specs.Judge.{instruction_rows, unfit, run_rows, step_rows, refusal, done, judged, judged_step}
use Rattle.judge.specs.Numbers.{Gives, Refused, Unrefused}
use Rattle.module.specs.Run.{Lent, Left, unmoved, run_lengths, step_lengths, lent_bytes, left_bytes}
use Rattle.builders.specs.Building.{Built}
use Rattle.builders.specs.Building.{BuiltTwo}
use Rattle.builders.specs.Field.{Field}
use Rattle.builders.specs.Sums.{Fields, list_length, field_rows}
use Rattle.builders.specs.Searches.{search_length, items_length, greatest_length, search_rows, greatest_rows}
use Rattle.closing.specs.Closing.{closing_length, closing_items_length, spreading_length, spreading_items_length, moving_rows, FieldsApart}
use Rattle.isolation.specs.Isolation.{Isolation}
use Rattle.isolation.specs.Isolation.{ask_rows}
use Rattle.fields.specs.Isolation.{Keeps}
use Rattle.isolation.specs.Numbers.{Answered}
use Rattle.reach.specs.Reach.{Reached}
use Rattle.reach.specs.Reach.{answer_bytes, reach_rows}
use Rattle.text.specs.Show.{Shown}
use Rattle.text.specs.Make.{Made}
use Rattle.text.specs.Show.{shown_text}
use Rattle.text.specs.Make.{number_of, last_of, made_bytes, line_at, column_at}
use Rattle.assembly.specs.Assembly.{Assembled}
use Rattle.assembly.specs.Assembly.{outcome_of, made_list, made_items}
use Rattle.blocks.specs.Block.{block_bytes}
use Rattle.contents.specs.Moved.{Moved}
use Rattle.contents.specs.File.{picture_kind, modes_picture_kind, content_of, size_fits, block_count}
use Rattle.contents.specs.Content.{target_fits, content_fits, read_rows, write_rows}
use Rattle.contents.specs.Numbers.{Answers, Sound, ReadRefused}
use Rattle.pictures.specs.Picture.{picture_file, content_modes, picture_fits, picture_read_rows, picture_write_rows}
use Rattle.pictures.specs.Conversion.{to_new_rows, to_old_rows}
use Rattle.library.specs.Left.{six, five, three, sum_left, difference_left, equal_left, less_left, greatest_left, closing_left, spreading_left, reach_left, show_left, make_left, read_left, write_left, write_picture_left, to_new_left, to_old_left}
use Rattle.promises.specs.Clauses.{Run, Step, Pass, SumList, DifferenceList, EqualList, LessList, GreatestList, ClosingList, SpreadingList, Isolated, Reach, Show, Make, Assemble, ReadContent, WriteContent, ReadPicture, WritePicture, ToNew, ToOld, LibraryRun, LibraryStep, LibraryPass, LibraryBuffer, LibraryTwo, LibraryIsolated, LibraryReadPicture, LibraryVersion}

-- ---- Network: "a zero item where byte 6 is none of the 37, and otherwise 0 and the passed item"; document 02, Six: "16, group over 256 lines; 17, m not below p in a byte 6 that is not 0", in this order
pub record PassTable (lines : List ℕ) (flip code : ℕ) (r : Passed) : Type 0 where
  pub refused : (n : ℕ) → n ≢ 0 → (r.number ≡ n) ↔ FirstRow (code_rows code) n
  pub row-0 : (r.number ≡ 0) ↔ (permitted code ≡ true)
  pub zero-item : permitted code ≡ false → r.item ≡ replicate 32 0
  pub passed : permitted code ≡ true → r.item ≡ passed_item lines flip code

-- ---- Numbers given back: what a run or a step answers, from the lengths of what is lent, the mode registers and the list

-- `rows` are those of what is lent, 1 to 4 and 15: `run_rows` or `step_rows`. Those of an instruction, 5 to 9, 14, 18, 16, 17 and 11, are `instruction_rows`, by the mode registers before it and with the byte of each condition; `Refused` has the order of all: "1 to 4 (place 0); then each instruction in turn ..; then 12; then 13. Place is the instruction's number; for 12 and 13 the first that lacks its item or room." The byte "is 0 .. for refusals without an instruction and for 12 and 13".
pub record AnswerTable (rows : List Row) (l : Lengths) (m : Modes) (list : List ℕ) (a : Answer) : Type 0 where
  -- number n is given at place k for byte b exactly where the tables say so
  pub refused : (n k b : ℕ) → n ≢ 0 → Gives a n k b ↔ Refused rows l m list n k b
  -- no row holds anywhere: "Done is 0, place 0", byte 0; "steps is the count of instructions, taken of source 4, given of kinds 4 and 5"
  pub unrefused : (a.number ≡ 0) ↔ Unrefused rows l m list
  pub done-is : a.number ≡ 0 → a ≡ done list
  -- "Number 10 is split and no longer given"
  pub never-10 : a.number ≢ 10
  -- "A refusal has the last three 0"
  pub refused-is : a.number ≢ 0 → a ≡ refusal a.number a.place a.byte

-- Of a run, whose mode registers are bytes 96 to 99 of its register set, and of a step, whose record has them.
abbrev pub RunTable : Lent (List ℕ) → Answer → Type 0
RunTable l = let m = modes_of l.registers in AnswerTable (run_rows (run_lengths l) m l.list) (run_lengths l) m l.list

abbrev pub StepTable : Lent Registers → Answer → Type 0
StepTable l = let m = l.registers.modes in AnswerTable (step_rows (step_lengths l) m l.list) (step_lengths l) m l.list

-- ---- Builders of lists: "In that order; nothing is written and the count is 0. Else .. their count is given"

-- `rows` are the table of a builder's numbers, `Good` says of a request that none of them refuses it, and `size` is the count of the list's bytes.
pub record ListTable (rows : List Row) (Good : Type 0) (size : ℕ) (r : Built) : Type 0 where
  pub refused : (m : ℕ) → m ≢ 0 → (r.number ≡ m) ↔ FirstRow rows m
  pub row-0 : (r.number ≡ 0) ↔ Good
  pub done-is : r.number ≡ 0 → r.count ≡ size
  pub refused-is : r.number ≢ 0 → r.count ≡ 0

-- The same of a builder of a list with its items, which gives two counts.
pub record TwoTable (rows : List Row) (Good : Type 0) (size items_size : ℕ) (r : BuiltTwo) : Type 0 where
  pub refused : (m : ℕ) → m ≢ 0 → (r.number ≡ m) ↔ FirstRow rows m
  pub row-0 : (r.number ≡ 0) ↔ Good
  pub done-is : r.number ≡ 0 → (r.list ≡ size) × (r.items ≡ items_size)
  pub refused-is : r.number ≢ 0 → (r.list ≡ 0) × (r.items ≡ 0)

-- Sum and difference lists: `lead` is 1 or 2, `have` the length of the list buffer. "30 width not 1..64; 31 a start plus n over 256; 32 S overlaps A or B without having its start; 33 list buffer under 8(1+5n) or, for a difference, 8(2+5n) bytes"
abbrev pub FieldsTable : (lead a b s n have : ℕ) → Built → Type 0
FieldsTable lead a b s n have = ListTable (field_rows lead a b s n have) (Fields a b s n × (list_length lead n ≤ have)) (list_length lead n)

-- Searches for equal and less: `list` and `items` are the lengths of the buffers. Document 02: "30 and 31 as in document 01; 34, number too large for the width; 33, either buffer too short"
abbrev pub SearchTable : (start n number list items : ℕ) → BuiltTwo → Type 0
SearchTable start n number list items =
    TwoTable (search_rows start n number list items) (Field start n × (number < 2 ^ n) × (search_length n ≤ list) × (items_length n ≤ items)) (search_length n) (items_length n)

-- Greatest, which has no number and no items.
abbrev pub GreatestTable : (start n list : ℕ) → Built → Type 0
GreatestTable start n list = ListTable (greatest_rows start n list) (Field start n × (greatest_length n ≤ list)) (greatest_length n)

-- Closing up and spreading: `marks`, `list` and `items` are the lengths of what is lent, `need` and `supply` those of the list and of its items. Document 02: "35 for marks that are not 32 bytes, 30 for a width not 1 to 32, 31, 32 where S meets A at all, 33 for either buffer, in that order"
abbrev pub MovingTable : (a s n marks list items need supply : ℕ) → BuiltTwo → Type 0
MovingTable a s n marks list items need supply =
    TwoTable (moving_rows a s n marks list items need supply) ((marks ≡ 32) × FieldsApart a s n × (need ≤ list) × (supply ≤ items)) need supply

abbrev pub ClosingTable : (a s n marks list items : ℕ) → BuiltTwo → Type 0
ClosingTable a s n marks list items = MovingTable a s n marks list items (closing_length n) closing_items_length

abbrev pub SpreadingTable : (a s n marks list items : ℕ) → BuiltTwo → Type 0
SpreadingTable a s n marks list items = MovingTable a s n marks list items (spreading_length n) (spreading_items_length n)

-- ---- Whether a list is isolated: document 02, Fourteen. No row of an instruction stands here: the condition is `breaks`, and what a run refuses is the run's to say.

-- `rows` are those of what is lent, 2, 3 and 15, m the mode registers at the start; `Answered` of isolation/specs/Numbers has the order: these at place 0, then 40 at the first instruction that breaks the condition.
pub record IsolationTable (rows : List Row) (m : Modes) (list : List ℕ) (r : Isolation) : Type 0 where
  pub refused : (n k : ℕ) → n ≢ 0 → ((r.number ≡ n) × (r.place ≡ k)) ↔ Answered rows m list n k
  pub row-0 : (r.number ≡ 0) ↔ NoRow rows × Keeps m list (length list / 8)
  pub done-is : r.number ≡ 0 → r.place ≡ 0

abbrev pub IsolatedTable : (list registers : List ℕ) → Isolation → Type 0
IsolatedTable list registers = let m = modes_of registers in IsolationTable (ask_rows (length registers) m list) m list

-- ---- What a list reaches, and lists as text: docs/TEXT.md, Refusals. A refusal writes nothing, and its count is 0

-- `rows` are the table of the numbers, and `put` is the count of the bytes or characters that are put out.
pub record CountTable (rows : List Row) (put number count : ℕ) : Type 0 where
  pub refused : (n : ℕ) → n ≢ 0 → (number ≡ n) ↔ FirstRow rows n
  pub row-0 : (number ≡ 0) ↔ NoRow rows
  pub done-is : number ≡ 0 → count ≡ put
  pub refused-is : number ≢ 0 → count ≡ 0

-- "`reach` gives 2, 3 and 15 as a run does, and then 27 where the buffer has not two bytes for each instruction": `out` is the length of the buffer.
abbrev pub ReachTable : (registers list : List ℕ) (out : ℕ) → Reached → Type 0
ReachTable registers list out r = CountTable (reach_rows (length registers) (modes_of registers) list out) (answer_bytes list) r.number r.count

-- "`show` gives 3 for a list that is not a multiple of 8 bytes, or over 32,768, and then 27 where the text's buffer is too short."
abbrev pub show_rows : (list : List ℕ) (room : ℕ) → List Row
show_rows list room = row 3 (unfit 8 (length list)) ∷ row 27 (ltb room (length (shown_text list))) ∷ []

abbrev pub ShowTable : (list : List ℕ) (room : ℕ) → Shown → Type 0
ShowTable list room r = CountTable (show_rows list room) (length (shown_text list)) r.number r.count

-- The number of the first word of a text that may not stand where it does, or of a line that ends too early: 0 where there is neither.
abbrev pub line_number : List ℕ → ℕ
line_number text = number_of (last_of text).line.phase

-- 50 for a text of over 1,048,576 characters, 3 for over 4,096 instructions, 33 for a list buffer that is shorter than the list: "They are judged in this order: 50; the lines, one word after the other; 3; 33."
abbrev pub make_rows : (text : List ℕ) (room : ℕ) → List Row
make_rows text room =
    row 50 (ltb 1048576 (length text))
    ∷ row (line_number text) (not (eqb (line_number text) 0))
    ∷ row 3 (ltb most_bytes (length (made_bytes text)))
    ∷ row 33 (ltb room (length (made_bytes text)))
    ∷ []

pub record MakeTable (text : List ℕ) (room : ℕ) (r : Made) : Type 0 where
  pub counted : CountTable (make_rows text room) (length (made_bytes text)) r.number r.count
  -- a line's numbers are 60 to 69, so that 50, 3 and 33 are none of them
  pub of_line : line_number text ≢ 0 → (60 ≤ line_number text) × (line_number text ≤ 69)
  -- "`make` gives a number with line and column, both from 1: of the first word that may not stand where it does, its first character; for 69 the line's end, or the `;` of its comment"
  pub placed : 60 ≤ r.number → (r.line ≡ line_at text (last_of text).start) × (r.column ≡ column_at text (last_of text).start)
  -- of 50, 3 and 33, and where the list is made, "line and column are 0"
  pub unplaced : r.number < 60 → (r.line ≡ 0) × (r.column ≡ 0)

-- The numbers of a line that is an instruction or a statement: 60 to 77, and of the builders' 30 to 32 and 34.
abbrev pub of_lines : ℕ → Bool
of_lines n = (leb 60 n && leb n 77) || ((leb 30 n && leb n 32) || eqb n 34)

-- Of a text whose lines are instructions or statements: `outcome_of` is what its lines come to, the first that is refused or what they make. "They are judged in this order: 50; the lines in turn ..; 3; 4; 33." 33 is for either buffer, `room` and `room_items` are their lengths.
abbrev pub assemble_rows : (text : List ℕ) (room room_items : ℕ) → List Row
assemble_rows text room room_items =
    row 50 (ltb 1048576 (length text))
    ∷ row (outcome_of text).number (not (eqb (outcome_of text).number 0))
    ∷ row 3 (ltb most_bytes (length (made_list text)))
    ∷ row 4 (ltb most_bytes (length (made_items text)))
    ∷ row 33 (ltb room (length (made_list text)) || ltb room_items (length (made_items text)))
    ∷ []

pub record AssembleTable (text : List ℕ) (room room_items : ℕ) (r : Assembled) : Type 0 where
  -- the number, with the count of the bytes of the list and with that of the items
  pub counted : CountTable (assemble_rows text room room_items) (length (made_list text)) r.number r.list
  pub counted_items : CountTable (assemble_rows text room room_items) (length (made_items text)) r.number r.items
  -- of a text that 50 does not refuse, so that 50, 3, 4 and 33 are none of them
  pub of_line : length text ≤ 1048576 → (outcome_of text).number ≢ 0 → of_lines (outcome_of text).number ≡ true
  -- "`make` gives a number with line and column .. of the first line that is refused"
  pub placed : of_lines r.number ≡ true → (r.line ≡ (outcome_of text).line) × (r.column ≡ (outcome_of text).column)
  -- of 50, 3, 4 and 33, and where the list is made, "line and column are 0"
  pub unplaced : of_lines r.number ≡ false → (r.line ≡ 0) × (r.column ≡ 0)

-- ---- Blocks on disk: "Place is the block for 21 to 24, else 0"

-- Reading, and converting: `ReadRefused` has the tables and their order, the rows of a block are `block_rows`; `rows` are what is asked of a file that stands, and `put` the bytes that are put out.
pub record ReadTable (kind : ℕ) (bytes : List ℕ) (rows : List Row) (put : ℕ) (r : Moved) : Type 0 where
  pub refused : (n k : ℕ) → n ≢ 0 → Answers r n k ↔ ReadRefused kind bytes rows n k
  -- "Success gives 0, place 0 and the number of bytes put out; a refusal gives 0 bytes"
  pub row-0 : (r.number ≡ 0) ↔ Sound kind bytes × (size_fits kind (length (content_of bytes)) ≡ true) × NoRow rows
  pub done-is : r.number ≡ 0 → r ≡ record { number = 0; place = 0; bytes = put }
  pub refused-is : r.number ≢ 0 → r.bytes ≡ 0

-- Writing: every number is at place 0.
pub record WriteTable (rows : List Row) (put : ℕ) (r : Moved) : Type 0 where
  pub refused : (n k : ℕ) → n ≢ 0 → Answers r n k ↔ (k ≡ 0) × FirstRow rows n
  pub row-0 : (r.number ≡ 0) ↔ NoRow rows
  pub done-is : r.number ≡ 0 → r ≡ record { number = 0; place = 0; bytes = put }
  pub refused-is : r.number ≢ 0 → r.bytes ≡ 0

-- A list or items that is read: 26 behind the file. One that is written: 22 of the kind asked, "before all else, in reading and writing"; "26 content of wrong size"; "27 output too short".
abbrev pub ReadContentTable : (kind : ℕ) (bytes target : List ℕ) → Moved → Type 0
ReadContentTable kind bytes target = ReadTable kind bytes (read_rows (target_fits kind bytes target)) (length (content_of bytes))

abbrev pub WriteContentTable : (kind : ℕ) (content out : List ℕ) → Moved → Type 0
WriteContentTable kind content out =
    let need = block_bytes * block_count (length content) in
    WriteTable (write_rows kind (content_fits kind content) need (length out)) need

-- A picture, of either kind. Document 02, Eight: "Refusals: as in document 01; then 15 for bad flags, in writing too; then 28, new to old with a register set; 27 last."
abbrev pub ReadPictureTable : (kind : ℕ) (bytes memory registers : List ℕ) → Moved → Type 0
ReadPictureTable kind bytes memory registers =
    ReadTable kind bytes (picture_read_rows (picture_fits kind (length memory) (length registers)) (content_modes (content_of bytes))) (length (content_of bytes))

abbrev pub WritePictureTable : (kind : ℕ) (memory registers out : List ℕ) → Moved → Type 0
WritePictureTable kind memory registers out =
    WriteTable (picture_write_rows kind (picture_fits kind (length memory) (length registers)) (modes_of registers) (length out)) picture_file

-- Its conversions, whose file is judged as in reading.
abbrev pub ToNewTable : (bytes out : List ℕ) → Moved → Type 0
ToNewTable bytes out = ReadTable picture_kind bytes (to_new_rows (length out)) picture_file

abbrev pub ToOldTable : (bytes out : List ℕ) → Moved → Type 0
ToOldTable bytes out = ReadTable modes_picture_kind bytes (to_old_rows (content_modes (content_of bytes)) (length out)) picture_file

-- ---- the entries

-- A refusal leaves what was lent for writing as it was.
abbrev pub Kept : {A : Type 0} → ℕ → A → A → Type 0
Kept number before after = number ≢ 0 → after ≡ before

-- So with all that a run or a step is lent for writing.
abbrev pub AllKept : {R A : Type 0} → ℕ → Lent R → Left R A → Type 0
AllKept number l u = Kept number l.memory u.memory × Kept number l.registers u.registers × Kept number l.out u.out

pub record DemandOne : Type 0 where
  -- a byte 6 that is neither 16 nor 17 is one of the 37, and the other way
  pub listed : (c : ℕ) → NoRow (code_rows c) ↔ (permitted c ≡ true)
  -- the byte is "the first one wrong": the conditions of each row of an instruction stand in the order of the bytes
  pub first_wrong : (m : Modes) (i : Instruction) → InOrder (instruction_rows m i)
  -- `pass` and `wired_pass`, whose contracts are the same; nothing is lent for writing
  pub pass : (lines : List ℕ) (flip code : ℕ) (r : Passed) → Pass lines flip code r → PassTable lines flip code r
  -- `run`: judged whole before its first instruction acts, since the answer is the judge's, of the lengths, the mode registers and the list alone, whatever the other bytes are
  pub run : (l : Lent (List ℕ)) (u : Left (List ℕ) Answer) → Run l u
      → (u.answer ≡ judged (run_lengths l) (modes_of l.registers) l.list) × RunTable l u.answer × AllKept u.answer.number l u
  -- `step`, on the lent register record, and `advance`, on one by value
  pub step : (l : Lent Registers) (u : Left Registers Answer) → Step l u
      → (u.answer ≡ judged_step (step_lengths l) l.registers.modes l.list) × StepTable l u.answer × AllKept u.answer.number l u
  -- "A step answers, refuses and leaves its buffers as a run of a list of that one instruction does": a run on the 100 bytes of the record
  pub step_is_run : (l : Lent Registers) (u : Left Registers Answer)
      → length l.registers.m ≡ 32 → length l.registers.x ≡ 32 → length l.registers.y ≡ 32 → length l.list ≡ 8
      → Step l u → Run (lent_bytes l) (left_bytes u)
  -- "Its instruction is exactly 8 bytes, else 3"
  pub step_not_eight : (l : Lent Registers) (u : Left Registers Answer) → length l.memory ≡ 8192 → length l.list ≢ 8
      → Step l u → u ≡ unmoved l (refusal 3 0 0)
  -- `sum_list` and `difference_list`
  pub sum_list : (a b s n : ℕ) (list list' : List ℕ) (r : Built) → SumList a b s n list list' r
      → FieldsTable 1 a b s n (length list) r × Kept r.number list list'
  pub difference_list : (a b s n : ℕ) (list list' : List ℕ) (r : Built) → DifferenceList a b s n list list' r
      → FieldsTable 2 a b s n (length list) r × Kept r.number list list'
  -- `equal_list`, `less_list` and `greatest_list`
  pub equal_list : (start n number : ℕ) (list items list' items' : List ℕ) (r : BuiltTwo) → EqualList start n number list items list' items' r
      → SearchTable start n number (length list) (length items) r × Kept r.number list list' × Kept r.number items items'
  pub less_list : (start n number : ℕ) (list items list' items' : List ℕ) (r : BuiltTwo) → LessList start n number list items list' items' r
      → SearchTable start n number (length list) (length items) r × Kept r.number list list' × Kept r.number items items'
  pub greatest_list : (start n : ℕ) (list list' : List ℕ) (r : Built) → GreatestList start n list list' r
      → GreatestTable start n (length list) r × Kept r.number list list'
  -- `closing_list` and `spreading_list`
  pub closing_list : (a s n : ℕ) (marks list items list' items' : List ℕ) (r : BuiltTwo) → ClosingList a s n marks list items list' items' r
      → ClosingTable a s n (length marks) (length list) (length items) r × Kept r.number list list' × Kept r.number items items'
  pub spreading_list : (a s n : ℕ) (marks list items list' items' : List ℕ) (r : BuiltTwo) → SpreadingList a s n marks list items list' items' r
      → SpreadingTable a s n (length marks) (length list) (length items) r × Kept r.number list list' × Kept r.number items items'
  -- `isolated`
  pub isolated : (list registers : List ℕ) (r : Isolation) → Isolated list registers r → IsolatedTable list registers r
  -- `reach`
  pub reach : (registers list out out' : List ℕ) (r : Reached) → Reach registers list out out' r
      → ReachTable registers list (length out) r × Kept r.number out out'
  -- `show`
  pub show : (list text text' : List ℕ) (r : Shown) → Show list text text' r → ShowTable list (length text) r × Kept r.number text text'
  -- `make`
  pub make : (text out out' : List ℕ) (r : Made) → Make text out out' r → MakeTable text (length out) r × Kept r.number out out'
  -- `assemble`
  pub assemble : (text list items list' items' : List ℕ) (r : Assembled) → Assemble text list items list' items' r
      → AssembleTable text (length list) (length items) r × Kept r.number list list' × Kept r.number items items'
  -- `read_content`, of a list or items
  pub read_content : (kind : ℕ) (bytes target target' : List ℕ) (r : Moved)
      → ReadContent kind bytes target target' r
      → ReadContentTable kind bytes target r × Kept r.number target target'
  -- `write_content`
  pub write_content : (kind : ℕ) (content out out' : List ℕ) (r : Moved)
      → WriteContent kind content out out' r
      → WriteContentTable kind content out r × Kept r.number out out'
  -- `read_picture`
  pub read_picture : (kind : ℕ) (bytes memory registers memory' registers' : List ℕ) (r : Moved)
      → ReadPicture kind bytes memory registers memory' registers' r
      → ReadPictureTable kind bytes memory registers r
      × Kept r.number memory memory' × Kept r.number registers registers'
  -- `write_picture`
  pub write_picture : (kind : ℕ) (memory registers out out' : List ℕ) (r : Moved)
      → WritePicture kind memory registers out out' r
      → WritePictureTable kind memory registers out r × Kept r.number out out'
  -- `to_new` and `to_old`
  pub to_new : (bytes out out' : List ℕ) (r : Moved) → ToNew bytes out out' r → ToNewTable bytes out r × Kept r.number out out'
  pub to_old : (bytes out out' : List ℕ) (r : Moved) → ToOld bytes out out' r → ToOldTable bytes out r × Kept r.number out out'
  -- ---- the library for C: the numbers in its answer array are those of the same tables, and a refusal leaves every other lent byte as it was

  -- `staran_pass` and `staran_wired_pass`: a refusal gives a zero item, so the item is always written
  pub library_pass : (item : List ℕ) (flip code : ℕ) (passed' answer' : List ℕ) → LibraryPass item flip code passed' answer'
      → (r : Passed) × (answer' ≡ r.number ∷ []) × (passed' ≡ r.item) × PassTable item flip code r
  -- `staran_run_4`
  pub library_run : (l : Lent (List ℕ)) (u : Left (List ℕ) (List ℕ)) → LibraryRun l u
      → (a : Answer) × (u.answer ≡ six a) × RunTable l a × AllKept a.number l u
  -- `staran_step_5`
  pub library_step : (l : Lent Registers) (u : Left Registers (List ℕ)) → LibraryStep l u
      → (a : Answer) × (u.answer ≡ six a) × StepTable l a × AllKept a.number l u
  -- `staran_sum_list` and `staran_difference_list`
  pub library_sum_list : (a b s n : ℕ) (list list' answer' : List ℕ) → LibraryBuffer (sum_left a b s n list) list' answer'
      → (r : Built) × (answer' ≡ r.number ∷ r.count ∷ []) × FieldsTable 1 a b s n (length list) r × Kept r.number list list'
  pub library_difference_list : (a b s n : ℕ) (list list' answer' : List ℕ) → LibraryBuffer (difference_left a b s n list) list' answer'
      → (r : Built) × (answer' ≡ r.number ∷ r.count ∷ []) × FieldsTable 2 a b s n (length list) r × Kept r.number list list'
  -- `staran_equal_list`, `staran_less_list` and `staran_greatest_list`
  pub library_equal_list : (start n number : ℕ) (list items list' items' answer' : List ℕ) → LibraryTwo (equal_left start n number list items) list' items' answer'
      → (r : BuiltTwo) × (answer' ≡ r.number ∷ r.list ∷ r.items ∷ []) × SearchTable start n number (length list) (length items) r
      × Kept r.number list list' × Kept r.number items items'
  pub library_less_list : (start n number : ℕ) (list items list' items' answer' : List ℕ) → LibraryTwo (less_left start n number list items) list' items' answer'
      → (r : BuiltTwo) × (answer' ≡ r.number ∷ r.list ∷ r.items ∷ []) × SearchTable start n number (length list) (length items) r
      × Kept r.number list list' × Kept r.number items items'
  pub library_greatest_list : (start n : ℕ) (list list' answer' : List ℕ) → LibraryBuffer (greatest_left start n list) list' answer'
      → (r : Built) × (answer' ≡ r.number ∷ r.count ∷ []) × GreatestTable start n (length list) r × Kept r.number list list'
  -- `staran_closing_list` and `staran_spreading_list`
  pub library_closing_list : (a s n : ℕ) (marks list items list' items' answer' : List ℕ) → LibraryTwo (closing_left a s n marks list items) list' items' answer'
      → (r : BuiltTwo) × (answer' ≡ r.number ∷ r.list ∷ r.items ∷ []) × ClosingTable a s n (length marks) (length list) (length items) r
      × Kept r.number list list' × Kept r.number items items'
  pub library_spreading_list : (a s n : ℕ) (marks list items list' items' answer' : List ℕ) → LibraryTwo (spreading_left a s n marks list items) list' items' answer'
      → (r : BuiltTwo) × (answer' ≡ r.number ∷ r.list ∷ r.items ∷ []) × SpreadingTable a s n (length marks) (length list) (length items) r
      × Kept r.number list list' × Kept r.number items items'
  -- `staran_isolated`
  pub library_isolated : (list registers answer' : List ℕ) → LibraryIsolated list registers answer'
      → (r : Isolation) × (answer' ≡ r.number ∷ r.place ∷ []) × IsolatedTable list registers r
  -- `staran_reach`
  pub library_reach : (registers list out out' answer' : List ℕ) → LibraryBuffer (reach_left registers list out) out' answer'
      → (r : Reached) × (answer' ≡ r.number ∷ r.count ∷ []) × ReachTable registers list (length out) r × Kept r.number out out'
  -- `staran_show`
  pub library_show : (list text text' answer' : List ℕ) → LibraryBuffer (show_left list text) text' answer'
      → (r : Shown) × (answer' ≡ r.number ∷ r.count ∷ []) × ShowTable list (length text) r × Kept r.number text text'
  -- `staran_make`
  pub library_make : (text list items list' items' answer' : List ℕ) → LibraryTwo (make_left text list items) list' items' answer'
      → (r : Assembled) × (answer' ≡ five r) × AssembleTable text (length list) (length items) r
      × Kept r.number list list' × Kept r.number items items'
  -- `staran_read_content`
  pub library_read_content : (kind : ℕ) (bytes target target' answer' : List ℕ) → LibraryBuffer (read_left kind bytes target) target' answer'
      → (r : Moved) × (answer' ≡ three r) × ReadContentTable kind bytes target r × Kept r.number target target'
  -- `staran_write_content`
  pub library_write_content : (kind : ℕ) (content out out' answer' : List ℕ) → LibraryBuffer (write_left kind content out) out' answer'
      → (r : Moved) × (answer' ≡ three r) × WriteContentTable kind content out r × Kept r.number out out'
  -- `staran_read_picture`
  pub library_read_picture : (kind : ℕ) (bytes memory registers memory' registers' answer' : List ℕ)
      → LibraryReadPicture kind bytes memory registers memory' registers' answer'
      → (r : Moved) × (answer' ≡ three r) × ReadPictureTable kind bytes memory registers r
      × Kept r.number memory memory' × Kept r.number registers registers'
  -- `staran_write_picture`
  pub library_write_picture : (kind : ℕ) (memory registers out out' answer' : List ℕ) → LibraryBuffer (write_picture_left kind memory registers out) out' answer'
      → (r : Moved) × (answer' ≡ three r) × WritePictureTable kind memory registers out r
      × Kept r.number out out'
  -- `staran_picture_to_new` and `staran_picture_to_old`
  pub library_to_new : (bytes out out' answer' : List ℕ) → LibraryBuffer (to_new_left bytes out) out' answer'
      → (r : Moved) × (answer' ≡ three r) × ToNewTable bytes out r × Kept r.number out out'
  pub library_to_old : (bytes out out' answer' : List ℕ) → LibraryBuffer (to_old_left bytes out) out' answer'
      → (r : Moved) × (answer' ≡ three r) × ToOldTable bytes out r × Kept r.number out out'
  -- `staran_version` has no number of the tables: 5.4, and nothing else
  pub library_version : (r : ℕ) → LibraryVersion r → r ≡ 327684
