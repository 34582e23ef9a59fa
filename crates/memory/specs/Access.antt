-- The scrambled array: where a bit is kept, and which chip and location a line meets. Document 01, Memory; source 003. The array is a function of chip and location; no width is fixed here.
use Rattle.std.specs.Prelude.{◌&&◌, cond, ℕ, eqb}
use Rattle.std.specs.Int.Bits.{bit_and, bit_xor}

-- Storage: "location B of chip C holds bit B of word B xor C."
abbrev pub word_at : ℕ → ℕ → ℕ
word_at b c = bit_xor b c

-- Local address: "under mode M and address G, chip C is read at G xor (M and C)."
abbrev pub local_of : ℕ → ℕ → ℕ → ℕ
local_of m g c = bit_xor g (bit_and m c)

-- Scramble: "line P meets chip G xor P."
abbrev pub chip_of : ℕ → ℕ → ℕ
chip_of g p = bit_xor g p

-- The line that meets chip C: C is G xor P exactly if P is G xor C.
abbrev pub line_of : ℕ → ℕ → ℕ
line_of g c = bit_xor g c

-- What line P reads: the bit of the chip that it meets, at that chip's local address.
abbrev pub read_bit : (ℕ → ℕ → ℕ) → ℕ → ℕ → ℕ → ℕ
read_bit chips m g p = chips (chip_of g p) (local_of m g (chip_of g p))

-- What location B of chip C holds after a store. Document 01, Instructions: "line P's bit goes where line P points"; document 02, Three: "a masked store writes line P's bit exactly if M's bit P is 1". The line that meets the chip writes its bit f at the local address, if its mask bit is 1; all else stays.
abbrev pub stored_bit : (ℕ → ℕ → ℕ) → ℕ → ℕ → (ℕ → ℕ) → (ℕ → ℕ) → ℕ → ℕ → ℕ
stored_bit chips m g mask f c b =
    cond (eqb b (local_of m g c) && eqb (mask (line_of g c)) 1) (f (line_of g c)) (chips c b)
