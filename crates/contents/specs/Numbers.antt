-- What stands on either side of the tables of numbers 20 to 28 and 15, where the page of demand 1 says when each is given: no contract cites this file. Document 01, Blocks on disk; document 02, Eight.
use Rattle.std.specs.Prelude.{◌≡◌, true, false, List, ℕ, ◌/◌, ◌<◌, length}
use Rattle.bits.specs.Rows.{Row, FirstRow}
use Rattle.blocks.specs.Block.{block_bytes, block_rows, fault}
use Rattle.contents.specs.Moved.{Moved}
use Rattle.contents.specs.File.{block_at, content_of, kind_right, length_right, size_fits}

-- Number n, at place k.
abbrev pub Answers : Moved → ℕ → ℕ → Type 0
Answers a n k = (a.number ≡ n) × (a.place ≡ k)

-- The kind asked and the length are right.
abbrev pub Asked : ℕ → List ℕ → Type 0
Asked kind bytes = (kind_right kind ≡ true) × (length_right (length bytes) ≡ true)

-- "A block that meets none of 21 to 24 is good at its place": so is each of the first n of count blocks.
abbrev pub GoodBelow : ℕ → List ℕ → ℕ → ℕ → Type 0
GoodBelow kind bytes count n = (j : ℕ) → j < n → fault (block_at bytes j) kind j count ≡ 0

-- The kind and the length are right, and every block is good at its place.
abbrev pub Sound : ℕ → List ℕ → Type 0
Sound kind bytes = Asked kind bytes × GoodBelow kind bytes (length bytes / block_bytes) (length bytes / block_bytes)

-- When a file asked for is refused with number n at place k; `rows` are what is asked once it stands.
-- The kind asked is 22 "before all else"; then 20; "then per block" 21 to 24; then 25; then the rows. "Place is the block for 21 to 24, else 0."
pub data ReadRefused (kind : ℕ) (bytes : List ℕ) (rows : List Row) : ℕ → ℕ → Type 0 where
  by_kind : kind_right kind ≡ false → ReadRefused kind bytes rows 22 0
  by_length : kind_right kind ≡ true → length_right (length bytes) ≡ false → ReadRefused kind bytes rows 20 0
  -- the blocks before k are good at their places, and row n of block k is the first that holds
  by-block : (n k : ℕ) → Asked kind bytes → k < length bytes / block_bytes → GoodBelow kind bytes (length bytes / block_bytes) k
      → FirstRow (block_rows (block_at bytes k) kind k (length bytes / block_bytes)) n → ReadRefused kind bytes rows n k
  by_size : Sound kind bytes → size_fits kind (length (content_of bytes)) ≡ false → ReadRefused kind bytes rows 25 0
  by_row : (n : ℕ) → Sound kind bytes → size_fits kind (length (content_of bytes)) ≡ true → FirstRow rows n → ReadRefused kind bytes rows n 0
