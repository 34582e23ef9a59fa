-- Searches over a field: the lists that mark in Y the words whose field equals a number, is less than it, or is the greatest of the marked; every byte of them, the refusals, and what their builders leave. Document 02, One.
use Rattle.std.specs.Prelude.{Bool, true, false, not, ◌||◌, List, [], ◌∷◌, ◌++◌, ℕ, suc, ◌+◌, ◌-◌, ◌*◌, ◌^◌, ltb, length}
use Rattle.bits.specs.Bits.{digit}
use Rattle.bits.specs.Rows.{Row, row, number_of}
use Rattle.judge.specs.declared.Instruction.{Instruction}
use Rattle.builders.specs.declared.search_rounds.Search.{Search}
use Rattle.builders.specs.declared.search_rounds.Search.TheVariants.{Equal, Less}
use Rattle.builders.specs.Lists.{instruction, logic_from, logic_at, take_y, encoded, rounds, items_of}
use Rattle.builders.specs.Field.{wrong_width, beyond}
use Rattle.builders.specs.Building.{BuiltLeft, built_with, BuiltTwoLeft, built_two}

-- ---- equal to a number, or less: from the lowest bit on, X marks the words by the bits so far

-- X everywhere to 1, or to 0: of no bits at all, every word is equal and none is less.
abbrev pub set_x : Instruction
set_x = logic_from 2 (16 * 0 + 15)

abbrev pub clear_x : Instruction
clear_x = logic_from 2 (16 * 0 + 0)

-- Y is 1 where bit g of the word is another than the number's.
abbrev pub differs : ℕ → Instruction
differs g = logic_at g (16 * 1 + 6)

-- Where Y is 1, a word is no longer equal.
abbrev pub unequal : Instruction
unequal = logic_from 2 (16 * 3 + 0)

-- Where Y is 1, a word is less exactly if its bit g is the 0 of the two.
abbrev pub below : ℕ → Instruction
below g = logic_at g (16 * 3 + 5)

-- Y takes the marks.
abbrev pub move_x : Instruction
move_x = logic_from 2 (16 * 1 + 10)

-- Is a search the one for less?
abbrev pub is_less : Search → Bool
is_less Equal = false
is_less Less = true

-- The search for less, or else the one for equal: how X starts, and what it becomes where bit g differs.
abbrev pub started : Bool → Instruction
started true = clear_x
started false = set_x

abbrev pub decided : Bool → ℕ → Instruction
decided true g = below g
decided false g = unequal

-- "take the number as outside items": Y takes the number's next bit, which the item has on every line.
abbrev pub search_round : Bool → ℕ → List Instruction
search_round less g = take_y ∷ differs g ∷ decided less g ∷ []

-- The field starts at a and has n bits.
abbrev pub search_rounds : Bool → ℕ → ℕ → List Instruction
search_rounds less a = rounds (λ k. search_round less (a + k))

abbrev pub search_list : Bool → ℕ → ℕ → List Instruction
search_list less a n = started less ∷ (search_rounds less a n ++ (move_x ∷ []))

abbrev pub equal_list : ℕ → ℕ → List Instruction
equal_list = search_list false

abbrev pub less_list : ℕ → ℕ → List Instruction
less_list = search_list true

-- The items: bit k of the number on every line of item k.
abbrev pub number_items : ℕ → ℕ → List ℕ
number_items number = items_of (λ k p. digit number k)

-- ---- greatest: from the highest bit on, Y keeps the marks of those that are the greatest by the bits so far

-- X, which is 0, takes bit g of the marked words.
abbrev pub take_marked : ℕ → Instruction
take_marked g = logic_at g (16 * 3 + 10)

-- X or X flipped by 2^e: after e of 0 to 7, X is 1 on every line if it was on any.
abbrev pub or_flip : ℕ → Instruction
or_flip e = instruction 0 2 0 0 0 (2 ^ e) 0 (16 * 0 + 14)

abbrev pub or_flipped : ℕ → List Instruction
or_flipped e = or_flip e ∷ []

-- X stays where bit g is not 1: those words lose to one that has it.
abbrev pub without : ℕ → Instruction
without g = logic_at g (16 * 0 + 4)

-- They are no longer marked, and X is 0 again: both registers, each without X.
abbrev pub unmark : Instruction
unmark = logic_from 2 (16 * 2 + 4)

abbrev pub greatest_round : ℕ → List Instruction
greatest_round g = take_marked g ∷ (rounds or_flipped 8 ++ (without g ∷ unmark ∷ []))

-- Round k is that of bit n - 1 - k.
abbrev pub greatest_rounds : ℕ → ℕ → ℕ → List Instruction
greatest_rounds a n = rounds (λ k. greatest_round (a + (n - suc k)))

abbrev pub greatest_list : ℕ → ℕ → List Instruction
greatest_list a n = clear_x ∷ greatest_rounds a n n

-- ---- the refusals

-- "34, number too large for the width."
abbrev pub too_large : ℕ → ℕ → Bool
too_large number n = not (ltb number (2 ^ n))

-- "The builder gives the list's length, a formula in the width": 8(2+3n) bytes for equal and for less, and 32n of items.
abbrev pub search_length : ℕ → ℕ
search_length n = 8 * (2 + 3 * n)

abbrev pub items_length : ℕ → ℕ
items_length n = 32 * n

-- 8(1+11n) bytes for greatest, which has no items.
abbrev pub greatest_length : ℕ → ℕ
greatest_length n = 8 * (1 + 11 * n)

-- "30 and 31 as in document 01; 34 ..; 33, either buffer too short": in this order. `list` and `items` are the lengths of the buffers.
abbrev pub search_rows : ℕ → ℕ → ℕ → ℕ → ℕ → List Row
search_rows a n number list items =
    row 30 (wrong_width n)
    ∷ row 31 (beyond a n)
    ∷ row 34 (too_large number n)
    ∷ row 33 (ltb list (search_length n) || ltb items (items_length n))
    ∷ []

-- Greatest has no number, and a list buffer alone.
abbrev pub greatest_rows : ℕ → ℕ → ℕ → List Row
greatest_rows a n list =
    row 30 (wrong_width n)
    ∷ row 31 (beyond a n)
    ∷ row 33 (ltb list (greatest_length n))
    ∷ []

-- The number of the first row that holds, 0 where none does.
unfoldable pub search_fault : ℕ → ℕ → ℕ → ℕ → ℕ → ℕ
search_fault a n number list items = number_of (search_rows a n number list items)

unfoldable pub greatest_fault : ℕ → ℕ → ℕ → ℕ
greatest_fault a n list = number_of (greatest_rows a n list)

-- ---- what the three builders leave

unfoldable pub search_built : Bool → ℕ → ℕ → ℕ → List ℕ → List ℕ → BuiltTwoLeft
search_built less a n number list items =
    built_two (search_fault a n number (length list) (length items)) (encoded (search_list less a n)) (number_items number n) list items

abbrev pub equal_built : ℕ → ℕ → ℕ → List ℕ → List ℕ → BuiltTwoLeft
equal_built = search_built false

abbrev pub less_built : ℕ → ℕ → ℕ → List ℕ → List ℕ → BuiltTwoLeft
less_built = search_built true

unfoldable pub greatest_built : ℕ → ℕ → List ℕ → BuiltLeft
greatest_built a n list = built_with (greatest_fault a n (length list)) (encoded (greatest_list a n)) list
