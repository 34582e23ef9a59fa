-- An item as its four quarters, numbers of 64 lines each. Only contracts of inner functions cite this file: no promise to a user rests on it.
use Rattle.std.specs.Prelude.{◌≡◌, List, ℕ, ◌+◌, ◌*◌, ◌/◌, ◌%◌, ◌^◌, ◌<◌, get_or}
use Rattle.std.specs.Int.Bits.{bit_and, bit_or, bit_xor}
use Rattle.bits.specs.Bits.{digit, listed, digits_of}

-- Quarter i of the item whose number k is f k: number 64 i + j is its digit j.
unfoldable pub quarter_of : (ℕ → ℕ) → ℕ → ℕ
quarter_of f i = digits_of (λ j. f (64 * i + j)) 64

-- The four quarters of that item.
abbrev pub quarters : (ℕ → ℕ) → List ℕ
quarters f = listed (quarter_of f) 4

-- Number k of the item that the quarters q are of.
unfoldable pub line_at : List ℕ → ℕ → ℕ
line_at q k = digit (get_or q (k / 64) 0) (k % 64)

-- The quarters q flipped by f.
abbrev pub flipped_quarters : List ℕ → ℕ → List ℕ
flipped_quarters q f = quarters (λ k. line_at q (bit_xor k f))

-- The quarter x with its digits at the places of m and those k above them exchanged.
abbrev pub exchanged : ℕ → ℕ → ℕ → ℕ
exchanged m k x = bit_or (bit_and x m * 2 ^ k % 2 ^ 64) (bit_and (x / 2 ^ k) m)

-- That exchange is a flip by k, within a quarter.
abbrev pub Flips : ℕ → ℕ → Type 0
Flips m k = (x j : ℕ) → j < 64 → digit (exchanged m k x) j ≡ digit x (bit_xor j k)
