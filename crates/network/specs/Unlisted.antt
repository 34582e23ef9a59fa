-- Why a byte 6 is none of the 37. Document 02, Six: number 10 is split.
use Rattle.std.specs.Prelude.{Bool, not, ◌&&◌, List, [], ◌∷◌, ℕ, ◌/◌, ◌%◌, eqb, leb, ltb}
use Rattle.bits.specs.Rows.{Row, row}

-- "16, group over 256 lines": a group has 2^p lines, and p is over 8.
abbrev pub wide_group : ℕ → Bool
wide_group c = ltb 8 (c / 16)

-- "17, m not below p in a byte 6 that is not 0."
abbrev pub not_below : ℕ → Bool
not_below c = not (eqb c 0) && leb (c / 16) (c % 16)

-- The table of a byte 6 by itself, in its order. Neither row holds exactly if c is one of the 37: `listed-none` of proofs/TableRules.antt.
abbrev pub code_rows : ℕ → List Row
code_rows c = row 16 (wide_group c) ∷ row 17 (not_below c) ∷ []
