-- The sum and the difference list: every byte of them, the refusals, and what their builders leave. Document 01, Sum and difference lists; source 004, the basic loop.
use Rattle.std.specs.Prelude.{◌≡◌, Bool, not, ◌&&◌, ◌||◌, ◌⊎◌, List, [], ◌∷◌, ℕ, ◌+◌, ◌*◌, ◌≤◌, eqb, ltb, length}
use Rattle.judge.specs.declared.Instruction.{Instruction}
use Rattle.bits.specs.Rows.{Row, row, number_of}
use Rattle.builders.specs.Lists.{logic_from, logic_at, store_at, encoded, rounds}
use Rattle.builders.specs.Field.{wrong_width, beyond}
use Rattle.builders.specs.Building.{BuiltLeft, built_with}

-- ---- the lists: a field is a start, its least significant bit, and a width n

-- "Both lists start with: X and Y together, function 0, source X."
abbrev pub clear : Instruction
clear = logic_from 2 (16 * 2 + 0)

-- "The difference A minus B adds: Y alone, function 15, source X."
abbrev pub set_y : Instruction
set_y = logic_from 2 (16 * 1 + 15)

-- Byte 7, "16 × choice + function", of a slice's read: "choice 4, function 6"; B's "the same, but function 9 in a difference".
abbrev pub sum_byte : ℕ
sum_byte = 16 * 4 + 6

abbrev pub difference_byte : ℕ
difference_byte = 16 * 4 + 9

-- And of the two that make the next carry: "source X, choice 3, function 3; source X, choice 2, function 6."
abbrev pub carry_byte : ℕ
carry_byte = 16 * 3 + 3

abbrev pub move_byte : ℕ
move_byte = 16 * 2 + 6

-- "For each bit, lowest first, five instructions": read bit a of A, read bit b of B with byte 7 t, store Y to bit s of S, and make the next carry.
abbrev pub bit_round : ℕ → ℕ → ℕ → ℕ → List Instruction
bit_round t a b s = logic_at a sum_byte ∷ logic_at b t ∷ store_at 3 s ∷ logic_from 2 carry_byte ∷ logic_from 2 move_byte ∷ []

-- The fields start at a, b and s.
abbrev pub bit_rounds : ℕ → ℕ → ℕ → ℕ → ℕ → List Instruction
bit_rounds t a b s = rounds (λ k. bit_round t (a + k) (b + k) (s + k))

abbrev pub sum_list : ℕ → ℕ → ℕ → ℕ → List Instruction
sum_list a b s n = clear ∷ bit_rounds sum_byte a b s n

abbrev pub difference_list : ℕ → ℕ → ℕ → ℕ → List Instruction
difference_list a b s n = clear ∷ set_y ∷ bit_rounds difference_byte a b s n

-- ---- the refusals

-- "32 S overlaps A or B without having its start": so for each of the two by itself.
abbrev pub crosses : ℕ → ℕ → ℕ → Bool
crosses s a n = not (eqb s a) && ltb s (a + n) && ltb a (s + n)

-- 8(1+5n) bytes, and 8(2+5n) for a difference: `lead` is the number of instructions before the first bit's.
abbrev pub list_length : ℕ → ℕ → ℕ
list_length lead n = 8 * (lead + 5 * n)

-- "33 list buffer under" that length; "in that order".
abbrev pub field_rows : ℕ → ℕ → ℕ → ℕ → ℕ → ℕ → List Row
field_rows lead a b s n have =
    row 30 (wrong_width n)
    ∷ row 31 (beyond a n || beyond b n || beyond s n)
    ∷ row 32 (crosses s a n || crosses s b n)
    ∷ row 33 (ltb have (list_length lead n))
    ∷ []

-- The number of the first row that holds, 0 where none does.
unfoldable pub fields_fault : ℕ → ℕ → ℕ → ℕ → ℕ → ℕ → ℕ
fields_fault lead a b s n have = number_of (field_rows lead a b s n have)

-- ---- the fields that are not refused

-- S towards a field that starts at a: wholly apart, or else the same field.
abbrev pub Apart : ℕ → ℕ → ℕ → Type 0
Apart s a n = (a + n ≤ s) ⊎ (s + n ≤ a)

abbrev pub Clear : ℕ → ℕ → ℕ → Type 0
Clear s a n = (s ≡ a) ⊎ Apart s a n

-- Fields A, B and S of one width.
pub record Fields (a b s n : ℕ) : Type 0 where
  pub some : 1 ≤ n
  pub width : n ≤ 64
  pub fits_a : a + n ≤ 256
  pub fits_b : b + n ≤ 256
  pub fits_s : s + n ≤ 256
  pub clear_a : Clear s a n
  pub clear_b : Clear s b n

-- ---- what the two builders leave

unfoldable pub sum_built : ℕ → ℕ → ℕ → ℕ → List ℕ → BuiltLeft
sum_built a b s n buffer = built_with (fields_fault 1 a b s n (length buffer)) (encoded (sum_list a b s n)) buffer

unfoldable pub difference_built : ℕ → ℕ → ℕ → ℕ → List ℕ → BuiltLeft
difference_built a b s n buffer = built_with (fields_fault 2 a b s n (length buffer)) (encoded (difference_list a b s n)) buffer
