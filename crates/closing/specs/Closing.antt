-- Closing up and spreading: where each marked value is in every round, the items and lists that move them, the refusals, and what the builders leave. Document 02, Five; source 001, irregular spreading and compressing.
use Rattle.std.specs.Prelude.{Bool, cond, not, ◌&&◌, ◌||◌, List, [], ◌∷◌, ◌++◌, ℕ, zero, suc, ◌+◌, ◌-◌, ◌*◌, ◌%◌, ◌^◌, ◌≤◌, eqb, ltb, length}
use Rattle.bits.specs.Bits.{digit, bit_of}
use Rattle.bits.specs.Search.{count, is_one}
use Rattle.bits.specs.Rows.{Row, row, number_of}
use Rattle.judge.specs.declared.Instruction.{Instruction}
use Rattle.builders.specs.Lists.{instruction, logic_at, take_y, store_at, encoded, rounds, items_of}
use Rattle.builders.specs.Field.{beyond}
use Rattle.builders.specs.Sums.{Apart}
use Rattle.builders.specs.Searches.{clear_x}
use Rattle.builders.specs.Building.{BuiltTwoLeft, built_two}

-- ---- where the marked values are: m says of each word whether it is marked

-- Number w of the marks is 1.
abbrev pub marked : List ℕ → ℕ → Bool
marked marks = is_one (bit_of marks)

-- The rank of a word: how many marked words stand before it. "order kept, into field S of words 0, 1, 2 and so on": so a marked word's value goes to the word of that number.
abbrev pub rank : (ℕ → Bool) → ℕ → ℕ
rank = count

-- How far that is. Source 001: "a shift value, which is simply the difference between its own index and the initial location".
unfoldable pub distance : (ℕ → Bool) → ℕ → ℕ
distance m w = w - rank m w

-- The word at which the value of word w is when the t rounds of weight below 2^t have closed it up, and the others have not; a spreading goes the same way back.
unfoldable pub place_at : (ℕ → Bool) → ℕ → ℕ → ℕ
place_at m t w = w - distance m w % 2 ^ t

-- Does word w's value move in the round of weight 2^t? Source 001: "The bit-slice with weight 8 of the shift value is used as a mask".
unfoldable pub moves : (ℕ → Bool) → ℕ → ℕ → Bool
moves m t w = m w && eqb (digit (distance m w) t) 1

-- How many values arrive at word p in that round: they come from their places of t to those of u = t + 1 in a closing, and from those of t + 1 to those of u = t in a spreading. It is never more than one (`Ranks.arrivals-bit`), so it is the bit of word p in the round's mask.
unfoldable pub arrivals : (ℕ → Bool) → ℕ → ℕ → ℕ → ℕ
arrivals m t u p = count (λ w. moves m t w && eqb (place_at m u w) p) 256

-- ---- closing: A is copied to S, and S closed up in the rounds of weight 1, 2, 4 to 128

-- X takes bit g of every word.
abbrev pub take_x : ℕ → Instruction
take_x g = logic_at g (16 * 0 + 10)

-- M takes the next item.
abbrev pub take_mask : Instruction
take_mask = instruction 1 4 0 0 0 0 0 0

-- X takes bit g of every word, mirrored and shifted by 2^t modulo 256. Source 001: "The negative shifts are done with mirrors": mirrored again by the store, word p has bit g of word p + 2^t.
abbrev pub take_further : ℕ → ℕ → Instruction
take_further t g = instruction 0 0 1 0 g 255 (16 * 8 + t) (16 * 0 + 10)

-- X, flipped by f, to bit g of the words where M is 1.
abbrev pub store_masked : ℕ → ℕ → Instruction
store_masked f g = instruction 3 2 1 0 g f 0 0

abbrev pub copy_slice : ℕ → ℕ → ℕ → List Instruction
copy_slice a s k = take_x (a + k) ∷ store_at 2 (s + k) ∷ []

abbrev pub close_slice : ℕ → ℕ → ℕ → List Instruction
close_slice t s k = take_further t (s + k) ∷ store_masked 255 (s + k) ∷ []

-- The round of weight 2^t: its mask, and each bit of S.
abbrev pub close_round : ℕ → ℕ → ℕ → List Instruction
close_round s n t = take_mask ∷ rounds (close_slice t s) n

-- "and zero into S of all other words": X is 0, and M is 1 at those words.
abbrev pub clear_slice : ℕ → ℕ → List Instruction
clear_slice s k = store_masked 0 (s + k) ∷ []

abbrev pub closing_list : ℕ → ℕ → ℕ → List Instruction
closing_list a s n =
    rounds (copy_slice a s) n ++ (rounds (close_round s n) 8 ++ (take_mask ∷ clear_x ∷ rounds (clear_slice s) n))

-- The words from the count of the marks on.
abbrev pub beyond_marks : (ℕ → Bool) → ℕ → ℕ
beyond_marks m p = cond (ltb p (rank m 256)) 0 1

-- Item t is the mask of the round of weight 2^t, and item 8 that of the words to clear.
abbrev pub closing_item : (ℕ → Bool) → ℕ → ℕ → ℕ
closing_item m k p = cond (ltb k 8) (arrivals m k (suc k) p) (beyond_marks m p)

abbrev pub closing_items : List ℕ → List ℕ
closing_items marks = items_of (closing_item (marked marks)) 9

-- ---- spreading: a slice of S at a time, in X, in the rounds of weight 128, 64 to 1; then into A of the marked words

-- Where Y is 1, X takes X shifted by 2^t modulo 256: word p has what word p - 2^t had.
abbrev pub shift_masked : ℕ → Instruction
shift_masked t = instruction 0 2 0 0 0 0 (16 * 8 + t) (16 * 3 + 10)

-- Source 001: "most-significant bit-slice first". Y takes the round's mask.
abbrev pub spread_round : ℕ → List Instruction
spread_round k = take_y ∷ shift_masked (7 - k) ∷ []

-- From bit h of S to bit g of A.
abbrev pub spread_bit : ℕ → ℕ → List Instruction
spread_bit g h = take_x h ∷ (rounds spread_round 8 ++ (store_masked 0 g ∷ []))

abbrev pub spread_slice : ℕ → ℕ → ℕ → List Instruction
spread_slice a s k = spread_bit (a + k) (s + k)

-- M takes the marks.
abbrev pub spreading_list : ℕ → ℕ → ℕ → List Instruction
spreading_list a s n = take_mask ∷ rounds (spread_slice a s) n

-- Item 0 is the marks, and then come, for each slice, the masks of its eight rounds.
abbrev pub spreading_item : List ℕ → ℕ → ℕ → ℕ
spreading_item marks zero p = bit_of marks p
spreading_item marks (suc k) p = arrivals (marked marks) (7 - k % 8) (7 - k % 8) p

abbrev pub spreading_items : List ℕ → ℕ → List ℕ
spreading_items marks n = items_of (spreading_item marks) (1 + 8 * n)

-- ---- the refusals

-- "30 for a width not 1 to 32."
abbrev pub wrong_width32 : ℕ → Bool
wrong_width32 n = ltb n 1 || ltb 32 n

-- "32 where S meets A at all": where both start at the same bit too.
abbrev pub meets : ℕ → ℕ → ℕ → Bool
meets a s n = ltb s (a + n) && ltb a (s + n)

-- The lengths of the lists and of their items, formulas in the width alone: the marks have no say.
abbrev pub closing_length : ℕ → ℕ
closing_length n = 8 * (10 + 19 * n)

abbrev pub closing_items_length : ℕ
closing_items_length = 32 * 9

abbrev pub spreading_length : ℕ → ℕ
spreading_length n = 8 * (1 + 18 * n)

abbrev pub spreading_items_length : ℕ → ℕ
spreading_items_length n = 32 * (1 + 8 * n)

-- "35 for marks that are not 32 bytes, 30 .., 31, 32 .., 33 for either buffer, in that order." `marks`, `list` and `items` are the lengths of what is lent, and `need` and `supply` those that its list and its items will have.
abbrev pub moving_rows : ℕ → ℕ → ℕ → ℕ → ℕ → ℕ → ℕ → ℕ → List Row
moving_rows a s n marks list items need supply =
    row 35 (not (eqb marks 32))
    ∷ row 30 (wrong_width32 n)
    ∷ row 31 (beyond a n || beyond s n)
    ∷ row 32 (meets a s n)
    ∷ row 33 (ltb list need || ltb items supply)
    ∷ []

-- The number of the first row that holds, 0 where none does.
unfoldable pub moving_fault : ℕ → ℕ → ℕ → ℕ → ℕ → ℕ → ℕ → ℕ → ℕ
moving_fault a s n marks list items need supply = number_of (moving_rows a s n marks list items need supply)

-- Fields A and S that no number refuses.
pub record FieldsApart (a s n : ℕ) : Type 0 where
  pub some : 1 ≤ n
  pub width : n ≤ 32
  pub fits_a : a + n ≤ 256
  pub fits_s : s + n ≤ 256
  pub clear : Apart s a n

-- ---- what the two builders leave

unfoldable pub closing_built : ℕ → ℕ → ℕ → List ℕ → List ℕ → List ℕ → BuiltTwoLeft
closing_built a s n marks list items =
    built_two (moving_fault a s n (length marks) (length list) (length items) (closing_length n) closing_items_length)
    (encoded (closing_list a s n)) (closing_items marks) list items

unfoldable pub spreading_built : ℕ → ℕ → ℕ → List ℕ → List ℕ → List ℕ → BuiltTwoLeft
spreading_built a s n marks list items =
    built_two (moving_fault a s n (length marks) (length list) (length items) (spreading_length n) (spreading_items_length n))
    (encoded (spreading_list a s n)) (spreading_items marks n) list items
