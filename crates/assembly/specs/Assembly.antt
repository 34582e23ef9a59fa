-- A whole text: its lines in turn, and what is given back. docs/TEXT.md, "Words, lines and comments"; Refusals.
use Rattle.std.specs.Prelude.{Bool, false, cond, ◌||◌, List, [], ◌∷◌, ◌++◌, ℕ, ◌+◌, eqb, ltb, length, drop}
use Rattle.registers.specs.declared.Modes.{Modes}
use Rattle.registers.specs.Modes.{none_set}
use Rattle.judge.specs.Kinds.{most_bytes}
use Rattle.assembly.specs.Act.{Act}
use Rattle.assembly.specs.Fields.{Named, named}
use Rattle.assembly.specs.Acts.{number_of, column_of, list_of, items_of, named_by, limit_by, modes_by_act, taken_by_act}
use Rattle.assembly.specs.Statements.{line_act}

-- "A line ends at a line feed or at the text's end."
unfoldable pub onto_first : ℕ → List (List ℕ) → List (List ℕ)
onto_first c [] = (c ∷ []) ∷ []
onto_first c (l ∷ ls) = (c ∷ l) ∷ ls

unfoldable pub lines_of : List ℕ → List (List ℕ)
lines_of [] = [] ∷ []
lines_of (c ∷ cs) = cond (eqb c 10) ([] ∷ lines_of cs) (onto_first c (lines_of cs))

-- What stands behind the lines so far: the fields, the limit, the mode registers as the made instructions leave them, whether one of them takes an item that the text does not bring, the list and the items.
pub record State : Type 0 where
  pub fields : Named
  pub limit : ℕ
  pub modes : Modes
  pub taken : Bool
  pub list : List ℕ
  pub items : List ℕ

abbrev pub begin : State
begin = record { fields = named [] [] []; limit = 0; modes = none_set; taken = false; list = []; items = [] }

-- "Lists, and items, of the lines stand one behind the other, in the order of the lines."
unfoldable pub applied : Act → State → State
applied act s =
    record {
      fields = named_by act s.fields;
      limit = limit_by act s.limit;
      modes = modes_by_act act s.modes;
      taken = taken_by_act act s.taken;
      list = s.list ++ list_of act;
      items = s.items ++ items_of act;
    }

-- What a line makes, by what stands before it.
abbrev pub act_of : State → List ℕ → Act
act_of s line = line_act s.fields s.limit s.modes s.taken line

-- The lines in turn, up to the first that is refused: its number, its line and its column, or 0; and what stands in the end.
pub record Outcome : Type 0 where
  pub number : ℕ
  pub line : ℕ
  pub column : ℕ
  pub state : State

unfoldable pub folded : State → ℕ → List (List ℕ) → Outcome
folded s n [] = record { number = 0; line = 0; column = 0; state = s }
folded s n (l ∷ ls) =
    cond (eqb (number_of (act_of s l)) 0) (folded (applied (act_of s l) s) (n + 1) ls)
    (record { number = number_of (act_of s l); line = n; column = column_of (act_of s l); state = s })

unfoldable pub outcome_of : List ℕ → Outcome
outcome_of text = folded begin 1 (lines_of text)

abbrev pub made_list : List ℕ → List ℕ
made_list text = (outcome_of text).state.list

abbrev pub made_items : List ℕ → List ℕ
made_items text = (outcome_of text).state.items

-- ---- the answer

-- What assembling gives back, in the documents' numbers: 0 and the bytes of the list and of the items; or a number, with the line and the column of what is refused, counted from 1.
pub record Assembled : Type 0 where
  pub number : ℕ
  pub line : ℕ
  pub column : ℕ
  pub list : ℕ
  pub items : ℕ

abbrev pub answer : ℕ → ℕ → ℕ → ℕ → ℕ → Assembled
answer number row column list items = record { number = number; line = row; column = column; list = list; items = items }

-- 33: "the list buffer is shorter than the list, or the items buffer than the items".
abbrev pub too_short : ℕ → ℕ → ℕ → ℕ → Bool
too_short list room_list items room_items = ltb room_list list || ltb room_items items

-- "They are judged in this order: 50; the lines in turn, the words of each from left to right; 3; 4; 33." Done has line and column 0, and the counts of the list's bytes and of the items'.
unfoldable pub assembled_answer : List ℕ → ℕ → ℕ → Assembled
assembled_answer text room_list room_items =
    cond (ltb 1048576 (length text)) (answer 50 0 0 0 0)
    (cond (eqb (outcome_of text).number 0)
    (cond (ltb most_bytes (length (made_list text))) (answer 3 0 0 0 0)
    (cond (ltb most_bytes (length (made_items text))) (answer 4 0 0 0 0)
    (cond (too_short (length (made_list text)) room_list (length (made_items text)) room_items) (answer 33 0 0 0 0)
    (answer 0 0 0 (length (made_list text)) (length (made_items text))))))
    (answer (outcome_of text).number (outcome_of text).line (outcome_of text).column 0 0))

-- "Then nothing is made": a refusal leaves both buffers as they were; done puts list and items at their fronts and leaves the rest.
unfoldable pub assembled_list : List ℕ → List ℕ → List ℕ → List ℕ
assembled_list text list items =
    cond (eqb (assembled_answer text (length list) (length items)).number 0) (made_list text ++ drop (length (made_list text)) list) list

unfoldable pub assembled_items : List ℕ → List ℕ → List ℕ → List ℕ
assembled_items text list items =
    cond (eqb (assembled_answer text (length list) (length items)).number 0) (made_items text ++ drop (length (made_items text)) items) items
