-- The starred examples of document 01 on access, by computation. Assumes nothing.
use mathlib.Core.Path.{◌≡◌, refl}
use Rattle.memory.specs.Access.{chip_of}
use Rattle.memory.specs.Table.{line_bit, line_word}

-- "M 7, G 45, P 83: bit 43 of word 85, chip 126."
pub mode-seven : (line_bit 8 7 45 83 ≡ 43) × (line_word 8 7 45 83 ≡ 85) × (chip_of 45 83 ≡ 126)
mode-seven = (refl, refl, refl)

-- "M 0, G 13, P 200: bit 13 of word 200."
pub mode-zero : (line_bit 8 0 13 200 ≡ 13) × (line_word 8 0 13 200 ≡ 200)
mode-zero = (refl, refl)

-- "M 255: bit 200 of word 13."
pub mode-all : (line_bit 8 255 13 200 ≡ 200) × (line_word 8 255 13 200 ≡ 13)
mode-all = (refl, refl)
