-- What is promised of the items of a text, on a page: docs/TEXT.md, "Items of your own". The names are those of specs/. It is proved in proofs/Items.antt, and assumes nothing. No contract cites this file.
use Rattle.std.specs.Prelude.{◌≡◌, Bool, true, List, ◌∷◌, ◌++◌, ℕ, ◌+◌, ◌*◌, ◌/◌, ◌<◌, ◌≤◌, length, take, drop}
use Rattle.bits.specs.Bits.{digit, item}
use Rattle.bits.specs.Search.{count}
use Rattle.judge.specs.declared.Instruction.{Instruction}
use Rattle.judge.specs.Instructions.{instruction_at, takes}
use Rattle.builders.specs.Lists.{take_y, encoded}
use Rattle.builders.specs.Searches.{search_list, number_items}
use Rattle.assembly.specs.Act.{One, Search}
use Rattle.assembly.specs.Assembly.{lines_of, State, begin, act_of, folded, made_list, made_items, assembled_answer}

-- How many items the instructions before instruction k of a list take: so the judge counts for 12, and so many has a run taken when it comes to instruction k (`ran-taken` of fields/proofs/ItemLaws).
abbrev pub taken_before : List ℕ → ℕ → ℕ
taken_before list k = count (λ j. takes (instruction_at list j)) k

-- Item t of those that a run is lent: "each use takes the next 32 bytes of the lent items".
abbrev pub item_at : List ℕ → ℕ → List ℕ
item_at items t = take 32 (drop (32 * t) items)

-- A text is made, and behind the lines `before` stands a line.
pub record LineOf (text : List ℕ) (before : List (List ℕ)) (line : List ℕ) : Type 0 where
  pub after : List (List ℕ)
  pub lines : lines_of text ≡ before ++ (line ∷ after)
  pub room : ℕ
  pub room_items : ℕ
  pub made : (assembled_answer text room room_items).number ≡ 0

-- What stands before that line; and its first instruction's place in the text's list.
abbrev pub state_after : List (List ℕ) → State
state_after before = (folded begin 1 before).state

abbrev pub place_after : List (List ℕ) → ℕ
place_after before = length (state_after before).list / 8

-- The line is a search for the number v over the n bits from bit a on.
pub record OwnItems (text : List ℕ) (before : List (List ℕ)) (less : Bool) (a n v : ℕ) : Type 0 where
  -- its list stands behind the lists of the lines before it, and its items behind theirs
  pub list : (rest : List ℕ) × (made_list text ≡ (state_after before).list ++ (encoded (search_list less a n) ++ rest))
  pub items : (rest : List ℕ) × (made_items text ≡ (state_after before).items ++ (number_items v n ++ rest))
  -- the instructions before it take just the items before its own
  pub ahead : 32 * taken_before (made_list text) (place_after before) ≡ length (state_after before).items
  -- so its instruction that takes bit k of the number finds that bit, on every line of its item, whatever is put behind the text's items
  pub taking : (k : ℕ) → k < n → instruction_at (made_list text) (place_after before + 1 + 3 * k) ≡ take_y
  pub taken : (k : ℕ) (more : List ℕ) → k < n
      → item_at (made_items text ++ more) (taken_before (made_list text) (place_after before + 1 + 3 * k)) ≡ item (λ p. digit v k)

-- The line is an instruction, i, that takes an item: one that is put behind the text's.
pub record PutBehind (text : List ℕ) (before : List (List ℕ)) (i : Instruction) : Type 0 where
  pub taking : instruction_at (made_list text) (place_after before) ≡ i
  pub behind : length (made_items text) ≤ 32 * taken_before (made_list text) (place_after before)

pub record InStep (text : List ℕ) : Type 0 where
  pub search : (before : List (List ℕ)) (line : List ℕ) (less : Bool) (a n v : ℕ)
      → LineOf text before line → act_of (state_after before) line ≡ Search less a n v → OwnItems text before less a n v
  pub other : (before : List (List ℕ)) (line : List ℕ) (i : Instruction)
      → LineOf text before line → act_of (state_after before) line ≡ One i → takes i ≡ true → PutBehind text before i
