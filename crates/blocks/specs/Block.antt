-- A block of 512 bytes: how it is written, what is wrong with one that is read, and when it is good at its place. Document 01, Blocks on disk.
use Rattle.std.specs.Prelude.{Bool, true, cond, not, ◌&&◌, ◌||◌, List, [], ◌∷◌, ◌++◌, ℕ, ◌+◌, ◌-◌, ◌*◌, eqb, leb, ltb, length, take, drop, replicate}
use Rattle.bits.specs.Bits.{two}
use Rattle.bits.specs.Rows.{Row, row, number_of}
use Rattle.blocks.specs.Sums.{at, s1, s2}

-- "512 bytes", of which "496 payload bytes".
abbrev pub block_bytes : ℕ
block_bytes = 512

abbrev pub payload_bytes : ℕ
payload_bytes = 496

-- "Two bytes low first": the number that bytes i and i + 1 are (`two` of `bits` has the bytes of a number).
abbrev pub two_at : List ℕ → ℕ → ℕ
two_at b i = at b i + 256 * at b (i + 1)

-- Bytes a up to e, e left out.
abbrev pub part : ℕ → ℕ → List ℕ → List ℕ
part a e l = take (e - a) (drop a l)

-- ---- a block that is written

-- "Kind, block number from 0, number of blocks, payload bytes used, each two bytes low first; four zeros."
unfoldable pub header : ℕ → ℕ → ℕ → ℕ → List ℕ
header kind place count used = two kind ++ two place ++ two count ++ two used ++ (0 ∷ 0 ∷ 0 ∷ 0 ∷ [])

-- "496 payload bytes", of which those not used are 0: with the header, the 508 bytes that are summed.
unfoldable pub body : ℕ → ℕ → ℕ → List ℕ → List ℕ
body kind place count payload =
    header kind place count (length payload) ++ payload ++ replicate (payload_bytes - length payload) 0

-- "s1 and s2, two bytes each, low first."
unfoldable pub summed : List ℕ → List ℕ
summed b = b ++ two (s1 b) ++ two (s2 b)

-- A whole block of 512 bytes, of its kind, its place, the number of blocks and its payload.
abbrev pub block : ℕ → ℕ → ℕ → List ℕ → List ℕ
block kind place count payload = summed (body kind place count payload)

-- ---- a block that is read

-- The payload that a block says it uses.
abbrev pub payload_of : List ℕ → List ℕ
payload_of b = take (two_at b 6) (drop 12 b)

-- The sums that a block carries are those of its bytes.
unfoldable pub sums_right : List ℕ → Bool
sums_right b = eqb (two_at b 508) (s1 b) && eqb (two_at b 510) (s2 b)

-- "All blocks but the last use 496; the last uses at least 1, or 0 if it is alone."
unfoldable pub used_right : ℕ → ℕ → ℕ → Bool
used_right place count used =
    cond (ltb (place + 1) count) (eqb used payload_bytes) (leb used payload_bytes && (eqb count 1 || ltb 0 used))

-- Every byte of a list is 0.
unfoldable pub all_zero : List ℕ → Bool
all_zero [] = true
all_zero (x ∷ l) = eqb x 0 && all_zero l

-- The "four zeros" and, "unused payload is 0", the payload past what is used.
unfoldable pub zeros_right : List ℕ → Bool
zeros_right b = all_zero (part 8 12 b) && all_zero (part (12 + two_at b 6) 508 b)

-- "Per block 21 sums differ"
abbrev pub sums_differ : List ℕ → Bool
sums_differ b = not (sums_right b)

-- "22 kind not the one asked"
abbrev pub other_kind : List ℕ → ℕ → Bool
other_kind b kind = not (eqb (two_at b 0) kind)

-- "23 number not its place or count not that of the blocks there"
abbrev pub misplaced : List ℕ → ℕ → ℕ → Bool
misplaced b place count = not (eqb (two_at b 2) place) || not (eqb (two_at b 4) count)

-- "24 used wrong or a byte not 0 that must be"
abbrev pub misfilled : List ℕ → ℕ → ℕ → Bool
misfilled b place count = not (used_right place count (two_at b 6)) || not (zeros_right b)

-- "Per block", in that order.
abbrev pub block_rows : List ℕ → ℕ → ℕ → ℕ → List Row
block_rows b kind place count =
    row 21 (sums_differ b)
    ∷ row 22 (other_kind b kind)
    ∷ row 23 (misplaced b place count)
    ∷ row 24 (misfilled b place count)
    ∷ []

unfoldable pub fault : List ℕ → ℕ → ℕ → ℕ → ℕ
fault b kind place count = number_of (block_rows b kind place count)

-- "A block that meets none of 21 to 24 is good at its place."
abbrev pub good_at : List ℕ → ℕ → ℕ → ℕ → Bool
good_at b kind place count = eqb (fault b kind place count) 0
