-- Eight neighbouring words as the bytes that are read of the chips for them. Only contracts of inner functions cite this file.
use Rattle.std.specs.Prelude.{List, ℕ, ◌/◌, ◌%◌}
use Rattle.bits.specs.Bits.{listed, digits_of}
use Rattle.memory.specs.Groups.{line_digit}

-- Eight rows of 32 bytes turned: row a is what a load of word a gathers from the rows, so digit j of its byte i is that of row
-- a xor j. The rule is its own inverse.
abbrev pub turned_byte : List ℕ → ℕ → ℕ
turned_byte rows n = digits_of (line_digit rows 255 (n / 32) (n % 32)) 8

unfoldable pub turned : List ℕ → List ℕ
turned rows = listed (turned_byte rows) 256
