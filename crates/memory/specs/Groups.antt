-- Eight neighbouring lines meet eight neighbouring chips, at one byte of each: what the loops take together. Only contracts of inner functions cite this file.
use Rattle.std.specs.Prelude.{List, ℕ, ◌+◌, ◌*◌, ◌/◌, ◌%◌, ◌^◌, get_or}
use Rattle.std.specs.Int.Bits.{bit_and, bit_or, bit_xor}
use Rattle.bits.specs.Bits.{digit}

-- The group of chips 8k to 8k+7 that the lines 8i to 8i+7 meet.
abbrev pub group_of : ℕ → ℕ → ℕ
group_of g i = bit_xor (g / 8) i

-- The byte at which the chips of group k are read, and the bit of that byte for chip 8k + t.
abbrev pub byte_at : ℕ → ℕ → ℕ → ℕ
byte_at m g k = bit_xor (g / 8) (bit_and (m / 8) k)

abbrev pub place_of : ℕ → ℕ → ℕ → ℕ
place_of m g t = bit_xor (g % 8) (bit_and (m % 8) t)

-- The byte of the memory where chip t of the group that lines 8i to 8i+7 meet is read.
abbrev pub spot : ℕ → ℕ → ℕ → ℕ → ℕ
spot m g i t = 32 * (8 * group_of g i + t) + byte_at m g (group_of g i)

-- That of chip 0, from the one for i = 0.
abbrev pub spot_from : ℕ → ℕ → ℕ → ℕ
spot_from first m i = bit_xor first (bit_and (257 * i) (7936 + m / 8))

-- What line 8i + j reads, from a list that has the byte read of chip t of the group that lines 8i to 8i+7 meet at 32t + i.
abbrev pub line_digit : List ℕ → ℕ → ℕ → ℕ → ℕ → ℕ
line_digit bytes m g i j = digit (get_or bytes (32 * bit_xor (g % 8) j + i) 0) (place_of m g (bit_xor (g % 8) j))

-- The bit f of the line among 8i to 8i+7 that meets chip t of the group, moved to the place at which the chip is read.
abbrev pub lane_byte : (ℕ → ℕ) → ℕ → ℕ → ℕ → ℕ → ℕ
lane_byte f m g i t = f (8 * i + bit_xor (g % 8) t) * 2 ^ place_of m g t

-- The digits of that chip's byte that stay: all but the one that the line writes, if its mask bit is 1.
abbrev pub keep_byte : (ℕ → ℕ) → ℕ → ℕ → ℕ → ℕ → ℕ
keep_byte mask m g i t = bit_xor (lane_byte mask m g i t) 255

-- A byte o of which the digits of keep stay, and to which those of put come.
abbrev pub renewed : ℕ → ℕ → ℕ → ℕ
renewed o keep put = bit_or (bit_and o keep) put
