-- What a search leaves: the names in which the promise of document 02, One, is stated.
use Rattle.std.specs.Prelude.{◌≡◌, List, ◌++◌, ◌↔◌, ℕ, ◌<◌, ◌≤◌, take}
use Rattle.bits.specs.Bits.{Bytes, bit_of}
use Rattle.registers.specs.Rows.{registers_of}
use Rattle.judge.specs.Answers.{Answer}
use Rattle.module.specs.Run.{Lent, Left}
use Rattle.builders.specs.Building.{BuiltTwoLeft}
use Rattle.builders.specs.Searches.{equal_built, less_built, greatest_built}
use Rattle.fields.specs.Value.{value, list_of, run_of}

-- ---- the runs

-- What is lent, with other items.
abbrev pub lent_with : List ℕ → Lent (List ℕ) → Lent (List ℕ)
lent_with items l = record { memory = l.memory; registers = l.registers; list = l.list; items = items; out = l.out }

-- The list that a builder of two buffers wrote, and the items: as many of the first bytes of each as it counted.
abbrev pub list_of_two : BuiltTwoLeft → List ℕ
list_of_two b = take b.answer.list b.list

abbrev pub items_of_two : BuiltTwoLeft → List ℕ
items_of_two b = take b.answer.items b.items

-- A run of that list, on those items and, behind them, those of the lender, which the list does not take.
abbrev pub run_of_two : BuiltTwoLeft → Lent (List ℕ) → Left (List ℕ) Answer
run_of_two b l = run_of (list_of_two b) (lent_with (items_of_two b ++ l.items) l)

-- A run of the list that marks the words equal to a number; less than it; the greatest of the marked. The buffers that the builder was lent stand before what the run is.
abbrev pub equal_run : ℕ → ℕ → ℕ → List ℕ → List ℕ → Lent (List ℕ) → Left (List ℕ) Answer
equal_run a n number list items = run_of_two (equal_built a n number list items)

abbrev pub less_run : ℕ → ℕ → ℕ → List ℕ → List ℕ → Lent (List ℕ) → Left (List ℕ) Answer
less_run a n number list items = run_of_two (less_built a n number list items)

abbrev pub greatest_run : ℕ → ℕ → List ℕ → Lent (List ℕ) → Left (List ℕ) Answer
greatest_run a n list = run_of (list_of (greatest_built a n list))

-- ---- marks

-- Word w is marked by these 32 bytes; by Y, in these bytes of registers.
abbrev pub MarkedBy : List ℕ → ℕ → Type 0
MarkedBy marks w = bit_of marks w ≡ 1

abbrev pub Marked : List ℕ → ℕ → Type 0
Marked registers = MarkedBy (registers_of registers).y

-- Word w is marked, and no marked word has more in the field.
abbrev pub Greatest : ℕ → ℕ → Lent (List ℕ) → ℕ → Type 0
Greatest a n lent w =
    Marked lent.registers w × ((v : ℕ) → v < 256 → Marked lent.registers v → value lent.memory v a n ≤ value lent.memory w a n)

-- What a run r leaves that was done in so many steps, took so many items, and marked exactly the words w with P w; `x` is what X holds afterwards, by Y.
pub record Marks (steps taken : ℕ) (P : ℕ → Type 0) (x : List ℕ → List ℕ) (lent : Lent (List ℕ)) (r : Left (List ℕ) Answer) : Type 0 where
  pub done : r.answer ≡ record { number = 0; place = 0; byte = 0; steps = steps; taken = taken; given = 0 }
  -- Y is 1 at word w exactly where P w holds
  pub marks : (w : ℕ) → w < 256 → Marked r.registers w ↔ P w
  -- X is what is said, M, both mode registers and every byte of the memory are as before, and nothing is put out
  pub after_x : (registers_of r.registers).x ≡ x (registers_of r.registers).y
  pub keeps_m : (registers_of r.registers).m ≡ (registers_of lent.registers).m
  pub keeps_modes : (registers_of r.registers).modes ≡ (registers_of lent.registers).modes
  pub keeps : r.memory ≡ lent.memory
  pub quiet : r.out ≡ lent.out
  -- the registers are still 100 bytes
  pub registers : Bytes r.registers 100
