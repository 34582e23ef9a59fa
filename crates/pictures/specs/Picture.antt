-- A picture: the words of the memory in plain order, and the registers; what reading and writing one leaves. Document 01,
-- Blocks on disk: "A picture is the 256 words in plain order, 32 bytes each, then M, X, Y." Document 02, Eight, adds kind 4, which has the mode registers too.
use Rattle.std.specs.Prelude.{Bool, cond, not, ◌&&◌, List, [], ◌∷◌, ◌++◌, ℕ, eqb, ltb, length, drop}
use Rattle.bits.specs.Rows.{Row, row}
use Rattle.registers.specs.declared.Modes.{Modes}
use Rattle.registers.specs.Modes.{modes_of, wrong_modes}
use Rattle.contents.specs.Moved.{Moved}
use Rattle.contents.specs.File.{modes_picture_kind, is_picture, kind_right, content_of, blocks_of}
use Rattle.contents.specs.Content.{answered, read_answer, changed, over, ContentLeft}
-- The words of a scrambled memory in plain order, and the scrambled memory of the words that a content begins with.
unfoldable pub use Rattle.words.specs.Plain.{plain_words, scrambled}

-- The bytes of a picture's words, which are a memory's, and of its registers, behind them: "A kind 1 picture is read into 8,192 and 96 bytes as before, kind 4 into 8,192 and 100."
abbrev pub picture_words : ℕ
picture_words = 8192

abbrev pub picture_registers : ℕ → ℕ
picture_registers kind = cond (eqb kind modes_picture_kind) 100 96

-- The bytes of its blocks, of either kind: "17 blocks".
abbrev pub picture_file : ℕ
picture_file = 8704

-- The content of a picture.
abbrev pub picture_of : List ℕ → List ℕ → List ℕ
picture_of memory registers = plain_words memory ++ registers

-- The mode registers in a content, behind M, X and Y: a picture of kind 1 has none there, and none that is set.
abbrev pub content_modes : List ℕ → Modes
content_modes content = modes_of (drop picture_words content)

-- The two buffers of a picture. Another kind asked for here has no buffers that fit (docs/DECISIONS.md).
abbrev pub picture_fits : ℕ → ℕ → ℕ → Bool
picture_fits kind memory registers = is_picture kind && eqb memory picture_words && eqb registers (picture_registers kind)

-- ---- reading

-- Of a file that stands: "any other target is 26"; "then 15 for bad flags".
abbrev pub picture_read_rows : Bool → Modes → List Row
picture_read_rows fits modes = row 26 (not fits) ∷ row 15 (wrong_modes modes) ∷ []

-- What `read_picture` leaves: its answer, and the two buffers.
pub record PictureLeft : Type 0 where
  pub answer : Moved
  pub memory : List ℕ
  pub registers : List ℕ

unfoldable pub picture_read : ℕ → List ℕ → List ℕ → List ℕ → PictureLeft
picture_read kind bytes memory registers =
    let content = content_of bytes in
    let a = read_answer kind bytes (picture_read_rows (picture_fits kind (length memory) (length registers)) (content_modes content)) (length content) in
    record {
      answer = a;
      memory = changed a (scrambled content) memory;
      registers = changed a (drop picture_words content) registers;
    }

-- ---- writing

-- "22 .. before all else, in reading and writing"; "26 content of wrong size"; "15 for bad flags, in writing too"; "27 last".
abbrev pub picture_write_rows : ℕ → Bool → Modes → ℕ → List Row
picture_write_rows kind fits modes room =
    row 22 (not (kind_right kind)) ∷ row 26 (not fits) ∷ row 15 (wrong_modes modes) ∷ row 27 (ltb room picture_file) ∷ []

-- What `write_picture` leaves.
unfoldable pub picture_written : ℕ → List ℕ → List ℕ → List ℕ → ContentLeft
picture_written kind memory registers out =
    let a = answered (picture_write_rows kind (picture_fits kind (length memory) (length registers)) (modes_of registers) (length out)) picture_file in
    record { answer = a; buffer = changed a (over (blocks_of kind (picture_of memory registers)) out) out }
