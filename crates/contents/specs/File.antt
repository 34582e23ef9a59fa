-- A file of blocks: what is found when it is judged, the content that it holds, and the blocks that a content is written as. Document 01, Blocks on disk; document 02, Eight.
use Rattle.std.specs.Prelude.{Bool, cond, not, ◌&&◌, ◌||◌, List, [], ◌++◌, ℕ, zero, suc, ◌+◌, ◌*◌, ◌/◌, ◌%◌, max, eqb, leb, ltb, length, take, drop}
use Rattle.blocks.specs.Block.{block_bytes, payload_bytes, block, fault, payload_of}
use Rattle.contents.specs.Moved.{Moved}

-- The kinds: a picture of the words, M, X and Y; a list; items; and a picture that has the mode registers too.
abbrev pub picture_kind : ℕ
picture_kind = 1

abbrev pub list_kind : ℕ
list_kind = 2

abbrev pub items_kind : ℕ
items_kind = 3

abbrev pub modes_picture_kind : ℕ
modes_picture_kind = 4

-- Either kind of picture.
abbrev pub is_picture : ℕ → Bool
is_picture kind = eqb kind picture_kind || eqb kind modes_picture_kind

-- The bytes of a picture of each kind, the most bytes of a list or of items, and the most of a file, which is 67 blocks.
abbrev pub picture_bytes : ℕ
picture_bytes = 8288

abbrev pub modes_picture_bytes : ℕ
modes_picture_bytes = 8292

abbrev pub most_content : ℕ
most_content = 32768

abbrev pub most_file : ℕ
most_file = 34304

-- "Success gives 0, place 0 and the number of bytes put out; a refusal gives 0 bytes."
abbrev pub done : ℕ → Moved
done n = record { number = 0; place = 0; bytes = n }

abbrev pub refused : ℕ → ℕ → Moved
refused n p = record { number = n; place = p; bytes = 0 }

-- ---- a file that is read

-- Block i of a file.
abbrev pub block_at : List ℕ → ℕ → List ℕ
block_at bytes i = take block_bytes (drop (block_bytes * i) bytes)

-- The content of the first n blocks, one payload after the other, and that of all blocks of a file.
unfoldable pub gathered : List ℕ → ℕ → List ℕ
gathered bytes zero = []
gathered bytes (suc n) = gathered bytes n ++ payload_of (block_at bytes n)

abbrev pub content_of : List ℕ → List ℕ
content_of bytes = gathered bytes (length bytes / block_bytes)

-- Blocks in turn: all good so far, or the first that is not, with its number and its place.
pub data Verdict : Type 0 where
  good : Verdict
  bad : ℕ → ℕ → Verdict

-- The verdict that a block's number and place are.
abbrev pub verdict : ℕ → ℕ → Verdict
verdict number place = cond (eqb number 0) good (bad number place)

-- The first verdict that is not good stands.
abbrev pub next : Verdict → Verdict → Verdict
next good v = v
next (bad n p) v = bad n p

-- The verdict on the first n of count blocks.
unfoldable pub blocks_judged : ℕ → List ℕ → ℕ → ℕ → Verdict
blocks_judged kind bytes count zero = good
blocks_judged kind bytes count (suc n) =
    next (blocks_judged kind bytes count n) (verdict (fault (block_at bytes n) kind n count) n)

-- "A kind asked for that is not 1 to 3 is 22"; document 02: "Kinds asked for .. now run to 4."
unfoldable pub kind_right : ℕ → Bool
kind_right kind = ltb 0 kind && leb kind modes_picture_kind

-- "20 length 0, not a multiple of 512, or over 34,304."
unfoldable pub length_right : ℕ → Bool
length_right n = ltb 0 n && eqb (n % block_bytes) 0 && leb n most_file

-- "25 size unfit for the kind (8,288; a list or items as in 3 and 4)": a multiple of 8 or of 32, not over 32,768. Document 02: "Add picture kind 4: 8,292 bytes."
unfoldable pub size_fits : ℕ → ℕ → Bool
size_fits kind size =
    cond (eqb kind picture_kind) (eqb size picture_bytes)
    (cond (eqb kind modes_picture_kind) (eqb size modes_picture_bytes)
    (cond (eqb kind list_kind) (eqb (size % 8) 0 && leb size most_content)
    (eqb (size % 32) 0 && leb size most_content)))

-- The answer for a content of so many bytes and the verdict on its blocks: 25 only where every block is good.
abbrev pub settled : ℕ → ℕ → Verdict → Moved
settled kind size good = cond (size_fits kind size) (done size) (refused 25 0)
settled kind size (bad n p) = refused n p

-- The file judged by itself: 22 for the kind asked, "before all else"; 20; "then per block" 21 to 24; then 25; else the size of the content. "Place is the block for 21 to 24, else 0."
unfoldable pub file_judged : ℕ → List ℕ → Moved
file_judged kind bytes =
    cond (not (kind_right kind)) (refused 22 0)
    (cond (not (length_right (length bytes))) (refused 20 0)
    (settled kind (length (content_of bytes)) (blocks_judged kind bytes (length bytes / block_bytes) (length bytes / block_bytes))))

-- ---- a file that is written

-- How many blocks a content of so many bytes takes: an empty one takes a block that uses 0.
abbrev pub block_count : ℕ → ℕ
block_count size = max 1 ((size + 495) / payload_bytes)

-- The first n of count blocks of a content, and all of them.
unfoldable pub first_blocks : ℕ → List ℕ → ℕ → ℕ → List ℕ
first_blocks kind content count zero = []
first_blocks kind content count (suc n) =
    first_blocks kind content count n ++ block kind n count (take payload_bytes (drop (payload_bytes * n) content))

unfoldable pub blocks_of : ℕ → List ℕ → List ℕ
blocks_of kind content = first_blocks kind content (block_count (length content)) (block_count (length content))
