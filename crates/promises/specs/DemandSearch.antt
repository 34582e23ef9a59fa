-- The searches of document 02, One, on a page: "builders of lists that leave in Y a 1 for each word whose field equals a given number; is less than it; or, among the words marked in Y at the start, holds the greatest value, every equal one marked. If none is marked, none is at the end. The lists .. take the number as outside items and write no memory. Each is proved against whole-number comparison."
-- Stated of the bytes that the builders leave in their buffers and of what `run` promises to do with them; proved in proofs/DemandSearch.antt, and assumes nothing. The numbers 30, 31, 34 and 33 stand in specs/DemandOne.antt.
use Rattle.std.specs.Prelude.{◌≡◌, false, List, ℕ, ◌+◌, ◌*◌, ◌^◌, ◌<◌, ◌≤◌, length, replicate}
use Rattle.bits.specs.Bits.{Bytes}
use Rattle.registers.specs.Modes.{modes_of, wrong_modes}
use Rattle.judge.specs.declared.Instruction.{Instruction}
use Rattle.judge.specs.Judge.{unfit}
use Rattle.module.specs.Run.{Lent}
use Rattle.builders.specs.Lists.{Each}
use Rattle.builders.specs.Field.{Field}
use Rattle.builders.specs.Searches.{equal_list, less_list, greatest_list, search_length, items_length, greatest_length, equal_built, less_built, greatest_built}
use Rattle.fields.specs.Value.{value, lent_on}
use Rattle.fields.specs.Marks.{equal_run, less_run, greatest_run, Marked, Greatest, Marks}

-- Any field of 1 to 64 bits inside the word, any memory of 8,192 bytes, and any registers of 100 but those that 15 refuses, whatever M, X and Y hold.
pub record Searched (a n : ℕ) (lent : Lent (List ℕ)) : Type 0 where
  pub field : Field a n
  pub memory : Bytes lent.memory 8192
  pub registers : Bytes lent.registers 100
  -- as in demand 3, "any register set but one that 15 refuses" (document 02, Seven)
  pub modes : wrong_modes (modes_of lent.registers) ≡ false

-- For equal and less: any number that is not too large, buffers that are not too short, and behind the items that the list takes any with which the judge does not refuse the whole.
pub record Sought (n number : ℕ) (list items : List ℕ) (lent : Lent (List ℕ)) : Type 0 where
  pub small : number < 2 ^ n
  pub room : search_length n ≤ length list
  pub room_items : items_length n ≤ length items
  pub supplied : unfit 32 (items_length n + length lent.items) ≡ false

-- For greatest: a buffer that is not too short, and any items that the judge does not refuse, of which it takes none.
pub record SoughtGreatest (n : ℕ) (list : List ℕ) (lent : Lent (List ℕ)) : Type 0 where
  pub room : greatest_length n ≤ length list
  pub supplied : unfit 32 (length lent.items) ≡ false

-- X afterwards: the same marks as Y; or 0.
abbrev as_y : List ℕ → List ℕ
as_y y = y

abbrev cleared : List ℕ → List ℕ
cleared y = replicate 32 0

-- The instruction is logic: kind 0.
abbrev IsLogic : Instruction → Type 0
IsLogic i = i.kind ≡ 0

pub record DemandSearch (a n : ℕ) (lent : Lent (List ℕ)) : Type 0 where
  -- the lists have logic instructions alone
  pub equal_logic : Each IsLogic (equal_list a n)
  pub less_logic : Each IsLogic (less_list a n)
  pub greatest_logic : Each IsLogic (greatest_list a n)
  -- equal: the list and its items are written, and counted; Y marks exactly the words whose field is the number, and X too
  pub equal_written : (number : ℕ) (list items : List ℕ) → Sought n number list items lent
      → (equal_built a n number list items).answer ≡ record { number = 0; list = search_length n; items = items_length n }
  pub equal : (number : ℕ) (list items : List ℕ) → Sought n number list items lent
      → Marks (2 + 3 * n) n (λ w. value lent.memory w a n ≡ number) as_y lent (equal_run a n number list items lent)
  -- less: the same, and Y marks exactly the words whose field is less
  pub less_written : (number : ℕ) (list items : List ℕ) → Sought n number list items lent
      → (less_built a n number list items).answer ≡ record { number = 0; list = search_length n; items = items_length n }
  pub less : (number : ℕ) (list items : List ℕ) → Sought n number list items lent
      → Marks (2 + 3 * n) n (λ w. value lent.memory w a n < number) as_y lent (less_run a n number list items lent)
  -- greatest: Y marks exactly those of the words marked before that hold the greatest value, and X is 0
  pub greatest_written : (list : List ℕ) → SoughtGreatest n list lent → (greatest_built a n list).answer ≡ record { number = 0; count = greatest_length n }
  pub greatest : (list : List ℕ) → SoughtGreatest n list lent → Marks (1 + 11 * n) 0 (Greatest a n lent) cleared lent (greatest_run a n list lent)
  -- "If none is marked, none is at the end"
  pub none_marked : (list : List ℕ) → SoughtGreatest n list lent
      → ((w : ℕ) → w < 256 → Marked lent.registers w → ⊥) → (w : ℕ) → w < 256 → Marked (greatest_run a n list lent).registers w → ⊥
  -- and if one is marked, one is
  pub some_marked : (list : List ℕ) → SoughtGreatest n list lent
      → (w : ℕ) → w < 256 → Marked lent.registers w → (v : ℕ) × (v < 256) × Marked (greatest_run a n list lent).registers v
  -- greatest behind less, on what less leaves: the highest of the stations below a number
  pub greatest_less : (number : ℕ) (list items list' : List ℕ) → Sought n number list items lent → greatest_length n ≤ length list'
      → (let r = lent_on lent (less_run a n number list items lent) in
      Marks (1 + 11 * n) 0 (λ w. (value lent.memory w a n < number)
      × ((v : ℕ) → v < 256 → value lent.memory v a n < number → value lent.memory v a n ≤ value lent.memory w a n)) cleared r (greatest_run a n list' r))
