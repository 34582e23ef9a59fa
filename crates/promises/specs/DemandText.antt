-- Lists as text, and what a list reaches, on a page: docs/TEXT.md. "A list of instructions has a text, one instruction a line, and every text that stands makes a list. `show` makes the text of a list, `make` the list of a text." In the program and for C, making is the entry `assemble`: its lines are instructions or statements, and bring items too. `make` here is the entry below it, of a text of instructions alone: a line that is an instruction is made by it.
-- The names are those of specs/: `Show`, `Make` and `Assemble` are the promises of the entries (specs/Clauses.antt), `shown_text` is the text of a list and `made_bytes` the list of a text of instructions; `list_of` and `items_of` are what a line adds to the list and to the items of any text (assembly/specs/Acts); `line_so_far` is the line that characters from a text's start end in; `Reaching` is a page of its own, reach/specs/Reaching.antt. It is proved in proofs/DemandText.antt, and assumes nothing. The numbers and their order stand in specs/DemandOne.antt.
use Rattle.std.specs.Prelude.{◌≡◌, true, false, List, [], ◌∷◌, ◌++◌, ℕ, ◌<◌, ◌≤◌, length, get_or, take, drop}
use Rattle.judge.specs.Kinds.{most_bytes}
use Rattle.registers.specs.declared.Modes.{Modes}
use Rattle.judge.specs.declared.Instruction.{Instruction}
use Rattle.judge.specs.Instructions.{stores}
use Rattle.judge.specs.Judge.{unfit, fault_of}
use Rattle.reach.specs.Reach.{reach_by}
use Rattle.reach.specs.Reaching.{Reaching}
use Rattle.spelling.specs.Words.{decimal}
use Rattle.lines.specs.Alone.{fault_alone}
use Rattle.lines.specs.Said.{reach_word}
use Rattle.lines.specs.Worded.{in_words}
use Rattle.builders.specs.Building.{Built}
use Rattle.builders.specs.Building.{BuiltTwo}
use Rattle.builders.specs.Lists.{encoded}
use Rattle.builders.specs.Sums.{sum_list}
use Rattle.text.specs.Show.{Shown}
use Rattle.text.specs.Make.{Made}
use Rattle.text.specs.Show.{shown_text, shown_as}
use Rattle.text.specs.Make.{answer, made_bytes, line_so_far}
use Rattle.text.specs.Promise.{Canonical}
use Rattle.assembly.specs.Act.{Act}
use Rattle.assembly.specs.Act.{Sum, Search, Greatest}
use Rattle.assembly.specs.Assembly.{Assembled}
use Rattle.assembly.specs.Acts.{list_of, items_of}
use Rattle.assembly.specs.Assembly.{State, applied, answer as assembled}
use Rattle.assembly.specs.Limits.{Kept}
use Rattle.assembly.specs.Items.{InStep}
use Rattle.promises.specs.Clauses.{SumList, DifferenceList, EqualList, LessList, GreatestList, Show, Make, Assemble}

-- "The one form": `Canonical text` says that the text is that of a list of whole instructions, whatever their bytes.
pub record OneForm : Type 0 where
  -- a text in this form is shown again of the list that it makes
  pub again : (text : List ℕ) → Canonical text → shown_text (made_bytes text) ≡ text
  -- every text that makes at most 4,096 instructions has such a form, which makes the same list
  pub has : (text : List ℕ) → length (made_bytes text) ≤ most_bytes
      → Canonical (shown_text (made_bytes text)) × (made_bytes (shown_text (made_bytes text)) ≡ made_bytes text)

-- "The lists are those of the builders, byte for byte; the items too": where a builder refuses nothing, the bytes that it counts are those that the statement adds.
pub record OfBuilders : Type 0 where
  pub sum : (a b s n : ℕ) (list list' : List ℕ) (r : Built) → SumList a b s n list list' r → r.number ≡ 0
      → take r.count list' ≡ list_of (Sum false a b s n)
  pub difference : (a b s n : ℕ) (list list' : List ℕ) (r : Built) → DifferenceList a b s n list list' r → r.number ≡ 0
      → take r.count list' ≡ list_of (Sum true a b s n)
  pub equal : (start n number : ℕ) (list items list' items' : List ℕ) (r : BuiltTwo) → EqualList start n number list items list' items' r → r.number ≡ 0
      → (take r.list list' ≡ list_of (Search false start n number)) × (take r.items items' ≡ items_of (Search false start n number))
  pub less : (start n number : ℕ) (list items list' items' : List ℕ) (r : BuiltTwo) → LessList start n number list items list' items' r → r.number ≡ 0
      → (take r.list list' ≡ list_of (Search true start n number)) × (take r.items items' ≡ items_of (Search true start n number))
  pub greatest : (start n : ℕ) (list list' : List ℕ) (r : Built) → GreatestList start n list list' r → r.number ≡ 0
      → take r.count list' ≡ list_of (Greatest start n)

-- The first four lines of docs/TEXT.md's example, without the comment: `field height 0 32`, `field shift 32 32`, `field new 64 32` and `sum height shift into new`.
abbrev pub heights : List ℕ
heights =
    (102 ∷ 105 ∷ 101 ∷ 108 ∷ 100 ∷ 32 ∷ 104 ∷ 101 ∷ 105 ∷ 103 ∷ 104 ∷ 116 ∷ 32 ∷ 48 ∷ 32 ∷ 51 ∷ 50 ∷ 10 ∷ [])
    ++ ((102 ∷ 105 ∷ 101 ∷ 108 ∷ 100 ∷ 32 ∷ 115 ∷ 104 ∷ 105 ∷ 102 ∷ 116 ∷ 32 ∷ 51 ∷ 50 ∷ 32 ∷ 51 ∷ 50 ∷ 10 ∷ [])
    ++ ((102 ∷ 105 ∷ 101 ∷ 108 ∷ 100 ∷ 32 ∷ 110 ∷ 101 ∷ 119 ∷ 32 ∷ 54 ∷ 52 ∷ 32 ∷ 51 ∷ 50 ∷ 10 ∷ [])
    ++ (115 ∷ 117 ∷ 109 ∷ 32 ∷ 104 ∷ 101 ∷ 105 ∷ 103 ∷ 104 ∷ 116 ∷ 32 ∷ 115 ∷ 104 ∷ 105 ∷ 102 ∷ 116 ∷ 32 ∷ 105 ∷ 110 ∷ 116 ∷ 111 ∷ 32 ∷ 110 ∷ 101 ∷ 119 ∷ [])))

pub record DemandText : Type 0 where
  -- "whatever its bytes, a list that is shown and made again is the same list": of a list that 3 does not refuse, in buffers that are long enough, both are done, and behind the list the buffer is as it was
  pub back : (list text text' out out' : List ℕ) (s : Shown) (m : Made)
      → unfit 8 (length list) ≡ false → ((k : ℕ) → get_or list k 0 < 256) → length (shown_text list) ≤ length text → length list ≤ length out
      → Show list text text' s → Make (take s.count text') out out' m
      → (s ≡ shown_as 0 (length (shown_text list))) × (m ≡ answer 0 0 0 (length list)) × (out' ≡ list ++ drop (length list) out)
  -- and so with `assemble`, which brings no items of it
  pub assembled_back : (list text text' out items out' items' : List ℕ) (s : Shown) (a : Assembled)
      → unfit 8 (length list) ≡ false → ((k : ℕ) → get_or list k 0 < 256) → length (shown_text list) ≤ length text → length list ≤ length out
      → Show list text text' s → Assemble (take s.count text') out items out' items' a
      → (s ≡ shown_as 0 (length (shown_text list))) × (a ≡ assembled 0 0 0 (length list) 0)
      × (out' ≡ list ++ drop (length list) out) × (items' ≡ items)
  -- "Every text that made a list makes the same one" (docs/CHANGELOG.md, 5.4): where making a text is done, assembling it into the same buffer is, with the same list, and no items of it
  pub extends : (text out items out' list' items' : List ℕ) (r : Made) (a : Assembled)
      → Make text out out' r → r.number ≡ 0 → Assemble text out items list' items' a
      → (a ≡ assembled 0 0 0 r.count 0) × (list' ≡ out') × (items' ≡ items)
  pub one_form : OneForm
  -- "Lists, and items, of the lines stand one behind the other, in the order of the lines": what a line makes is put behind what stands before it
  pub behind : (act : Act) (s : State) → ((applied act s).list ≡ s.list ++ list_of act) × ((applied act s).items ≡ s.items ++ items_of act)
  pub of_builders : OfBuilders
  -- "`reach at most 1 word` says of every line below it .. that none of its stores reaches more words than that": of a text that begins with a limit and raises it nowhere, `Kept` of assembly/specs/Limits
  pub limit : (text : List ℕ) (n : ℕ) → Kept text n
  -- "Items of your own": each search takes the items that it brought, and an instruction that takes one from outside takes one behind those of the text, `InStep` of assembly/specs/Items
  pub items : (text : List ℕ) → InStep text
  -- the example: 161 instructions, the sum builder's for these fields, and no items
  pub example : (list items list' items' : List ℕ) (r : Assembled) → 1288 ≤ length list → Assemble heights list items list' items' r
      → (r ≡ assembled 0 0 0 1288 0) × (list' ≡ encoded (sum_list 0 32 64 32) ++ drop 1288 list) × (items' ≡ items)
  -- only `bytes` makes what a run refuses by itself: after any characters, where a line is whole and in words, the judge gives its instruction no number, if both mode registers are set (whether they are, and so 14, depends on what stands before)
  pub words : (cs : List ℕ) → in_words (line_so_far cs).phase ≡ true → (fault_alone (line_so_far cs).got).number ≡ 0
  -- "A store under mode M reaches 2 to the number of M's zero bits words": that these are the words which an access meets, that a store, an instruction and a run leave every other word as it was, and that what `reach` answers of an instruction counts the words that it reaches
  pub reaching : Reaching
  -- "`reach` answers the same": the number behind a store that a run does not refuse, by the mode registers before it, is what `reach` answers of it
  pub shown_reach : (m : Modes) (i : Instruction) → stores i ≡ true → (fault_of m i).number ≡ 0 → reach_word m i ≡ decimal (reach_by m i)
