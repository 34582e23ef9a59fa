-- Reading and writing: the answer, and what a target holds afterwards. Document 01, Blocks on disk.
-- The answers serve every kind; what reading and writing a list or items leaves stands here, a picture in pictures/specs/Picture and Conversion.
use Rattle.std.specs.Prelude.{Bool, cond, not, ◌&&◌, List, [], ◌∷◌, ◌++◌, ℕ, ◌*◌, eqb, leb, ltb, length, drop}
use Rattle.bits.specs.Rows.{Row, row, number_of}
use Rattle.contents.specs.Moved.{Moved}
use Rattle.blocks.specs.Block.{block_bytes}
use Rattle.contents.specs.File.{is_picture, done, refused, content_of, kind_right, size_fits, file_judged, block_count, blocks_of}

-- "Place is the block for 21 to 24, else 0": the answer by a table whose rows are all at place 0. Where none holds, n bytes are put out.
unfoldable pub answered : List Row → ℕ → Moved
answered rows n = cond (eqb (number_of rows) 0) (done n) (refused (number_of rows) 0)

-- Reading: the file judged by itself, and where it stands the rows of what else is asked.
unfoldable pub read_answer : ℕ → List ℕ → List Row → ℕ → Moved
read_answer kind bytes rows n = cond (eqb (file_judged kind bytes).number 0) (answered rows n) (file_judged kind bytes)

-- "Targets change only on success": what a target holds after an answer, new or old.
abbrev pub changed : Moved → List ℕ → List ℕ → List ℕ
changed a new old = cond (eqb a.number 0) new old

-- "And only where content goes": a target with a content in the place of its first bytes.
abbrev pub over : List ℕ → List ℕ → List ℕ
over new old = new ++ drop (length new) old

-- ---- a list or items: one target, one content. A picture of either kind asked for here has no target that fits (docs/DECISIONS.md).

-- The target is not too short.
abbrev pub target_fits : ℕ → List ℕ → List ℕ → Bool
target_fits kind bytes target = not (is_picture kind) && leb (length (content_of bytes)) (length target)

-- The content is of the right size.
abbrev pub content_fits : ℕ → List ℕ → Bool
content_fits kind content = not (is_picture kind) && size_fits kind (length content)

-- "26 target too short", of a file that stands.
abbrev pub read_rows : Bool → List Row
read_rows fits = row 26 (not fits) ∷ []

-- "Writing: 26 content of wrong size; 27 output too short", after 22 for the kind asked; `need` are the bytes of the blocks.
abbrev pub write_rows : ℕ → Bool → ℕ → ℕ → List Row
write_rows kind fits need room = row 22 (not (kind_right kind)) ∷ row 26 (not fits) ∷ row 27 (ltb room need) ∷ []

-- What an entry leaves that writes to one buffer: its answer, and the buffer.
pub record ContentLeft : Type 0 where
  pub answer : Moved
  pub buffer : List ℕ

-- What `read_content` leaves.
unfoldable pub content_read : ℕ → List ℕ → List ℕ → ContentLeft
content_read kind bytes target =
    let a = read_answer kind bytes (read_rows (target_fits kind bytes target)) (length (content_of bytes)) in
    record { answer = a; buffer = changed a (over (content_of bytes) target) target }

-- What `write_content` leaves.
unfoldable pub content_written : ℕ → List ℕ → List ℕ → ContentLeft
content_written kind content out =
    let need = block_bytes * block_count (length content) in
    let a = answered (write_rows kind (content_fits kind content) need (length out)) need in
    record { answer = a; buffer = changed a (over (blocks_of kind content) out) out }
