-- The program on its three files: what it prints, and the picture that it writes. Document 01, The program; document 02, Seven and Eight. A letter is its ASCII code.
use Rattle.std.specs.Prelude.{true, cond, not, ◌&&◌, ◌||◌, ℕ, eqb, leb, ltb, length, take, drop}
use mathlib.Core.List.{List, [], ◌++◌, replicate}
use Rattle.registers.specs.Modes.{modes_of, mode_bytes, none_set, any_set}
use Rattle.blocks.specs.Block.{two_at}
use Rattle.contents.specs.Moved.{Moved}
use Rattle.contents.specs.File.{picture_kind, list_kind, items_kind, modes_picture_kind, done, refused, content_of, file_judged, blocks_of}
use Rattle.contents.specs.Content.{read_answer, over}
use Rattle.pictures.specs.Picture.{picture_words, picture_registers, picture_file, picture_of, scrambled, content_modes, picture_read_rows}
use Rattle.judge.specs.Answers.{Answer}
use Rattle.module.specs.Run.{Left, ran}
use Rattle.report.specs.Report.{printed}
use Rattle.session.specs.declared.Found.{Found}
use Rattle.session.specs.declared.Found.TheVariants.{Absent, Failed, Bytes}

-- ---- a file

-- A file: not there; there, but not to be opened or read; or its bytes, as far as they were read.
pub data File : Type 0 where
  absent : File
  failed : File
  bytes : List ℕ → File

-- What was found of a file.
abbrev pub file_of : Found → File
file_of Absent = absent
file_of Failed = failed
file_of (Bytes b) = bytes b.now

-- "A file that is there with no bytes, a picture file over 17 blocks and either of the others over 16 are refused with 20": by its length alone, before it is judged.
unfoldable pub read : ℕ → (List ℕ → Moved) → List ℕ → Moved
read limit judge b = cond (ltb limit (length b)) (refused 20 0) (judge b)

-- The answer on a file, where `none` is that on an absent one and `judge` that on its bytes. One that cannot be read is refused as 20 is (docs/DECISIONS.md).
abbrev pub file_answer : Moved → ℕ → (List ℕ → Moved) → File → Moved
file_answer none limit judge absent = none
file_answer none limit judge failed = refused 20 0
file_answer none limit judge (bytes b) = read limit judge b

-- "Takes 4 if the file's first two bytes are 4 and 0, else 1": as they stand, before any block is judged.
unfoldable pub kind_of : List ℕ → ℕ
kind_of b = cond (leb 2 (length b) && eqb (two_at b 0) modes_picture_kind) modes_picture_kind picture_kind

abbrev pub kind_taken : File → ℕ
kind_taken absent = picture_kind
kind_taken failed = picture_kind
kind_taken (bytes b) = kind_of b

-- The picture judged as in Blocks on disk, "then 15 for bad flags": as a reader does, into targets that fit.
abbrev pub picture_judged : List ℕ → Moved
picture_judged b = read_answer (kind_of b) b (picture_read_rows true (content_modes (content_of b))) (length (content_of b))

-- "An absent before.pic .. refused with 20." "An absent run.lst is the empty list and an absent in.itm means no items." 16 blocks are 8,192 bytes.
abbrev pub picture_answer : File → Moved
picture_answer = file_answer (refused 20 0) picture_file picture_judged

abbrev pub content_answer : ℕ → File → Moved
content_answer kind = file_answer (done 0) 8192 (file_judged kind)

-- The content of a file that is not refused.
abbrev pub content_in : File → List ℕ
content_in absent = []
content_in failed = []
content_in (bytes b) = content_of b

-- ---- what comes of it

-- What is printed, and the bytes of after.pic: none where it is not written.
pub record Outcome : Type 0 where
  pub text : List ℕ
  pub after : List ℕ

-- "The first refused file gives the only line, p, l or i, with zeros for the counts", and for the byte.
abbrev pub only_line : ℕ → Moved → Outcome
only_line letter a = record { text = printed letter a.number a.place 0 0 0 0 []; after = [] }

-- "Writes back the kind it took, or kind 4 if a register is set at the end."
unfoldable pub kind_written : ℕ → List ℕ → ℕ
kind_written took regs = cond (eqb took modes_picture_kind || any_set (modes_of regs)) modes_picture_kind picture_kind

-- "If done writes after.pic": the picture of memory and registers after the run, and nothing where the number is not 0. One of kind 1 has M, X and Y, the first 96 register bytes.
unfoldable pub after_of : ℕ → ℕ → List ℕ → List ℕ → List ℕ
after_of took number mem regs =
    let kind = kind_written took regs in
    cond (eqb number 0) (blocks_of kind (picture_of mem (take (picture_registers kind) regs))) []

-- "Otherwise there is one r line. After a run that is done, each given item follows": a run that is refused has given none.
unfoldable pub finished : ℕ → Left (List ℕ) Answer → Outcome
finished took s =
    record {
      text = printed 114 s.answer.number s.answer.place s.answer.byte s.answer.steps s.answer.taken s.answer.given s.out;
      after = after_of took s.answer.number s.memory s.registers;
    }

-- "Has 8,192 out bytes."
unfoldable pub out_bytes : List ℕ
out_bytes = replicate 8192 0

-- A register set of zeros, both mode registers unset.
abbrev pub blank_registers : List ℕ
blank_registers = replicate 96 0 ++ mode_bytes none_set

-- "Starts from its registers": those of the picture, over a register set of zeros. So after a picture of kind 1, which has M, X and Y alone, both mode registers are unset.
abbrev pub start_registers : File → List ℕ
start_registers picture = over (drop picture_words (content_in picture)) blank_registers

-- A stage: the line of its file where that is refused, else the next stage.
abbrev pub unless_refused : ℕ → Moved → Outcome → Outcome
unless_refused letter a next = cond (not (eqb a.number 0)) (only_line letter a) next

-- "It reads before.pic, run.lst and in.itm in that order": p, l and i. The last stage, with what the others took, runs.
unfoldable pub with_items : ℕ → List ℕ → List ℕ → List ℕ → File → Outcome
with_items took memory registers list items =
    unless_refused 105 (content_answer items_kind items)
    (finished took (ran (record { memory = memory; registers = registers; list = list; items = content_in items; out = out_bytes })))

-- The second, with the kind that was taken, the memory and the registers.
unfoldable pub with_list : ℕ → List ℕ → List ℕ → File → File → Outcome
with_list took memory registers list items =
    unless_refused 108 (content_answer list_kind list) (with_items took memory registers (content_in list) items)

-- The first, and so the program.
unfoldable pub outcome : File → File → File → Outcome
outcome picture list items =
    unless_refused 112 (picture_answer picture)
    (with_list (kind_taken picture) (scrambled (content_in picture)) (start_registers picture) list items)
