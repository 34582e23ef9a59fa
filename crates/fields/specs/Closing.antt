-- What a closing and a spreading leave: the names in which the promise of document 02, Five, is stated.
use Rattle.std.specs.Prelude.{◌≡◌, cond, List, [], ◌∷◌, ◌++◌, ℕ, ◌+◌, ◌*◌, ◌<◌, ◌≤◌, eqb}
use Rattle.bits.specs.Bits.{Bytes}
use Rattle.bits.specs.Search.{Numbered}
use Rattle.registers.specs.Rows.{registers_of}
use Rattle.judge.specs.declared.Instruction.{Instruction}
use Rattle.judge.specs.Answers.{Answer}
use Rattle.module.specs.Act.{State}
use Rattle.module.specs.Run.{Lent, Left, begun, ran_by}
use Rattle.builders.specs.Building.{BuiltTwoLeft}
use Rattle.closing.specs.Closing.{closing_built, spreading_built}
use Rattle.fields.specs.Value.{word_bit, value}
use Rattle.fields.specs.Marks.{list_of_two, items_of_two, run_of_two, MarkedBy}

-- ---- the runs

-- A run of the list that closes up, and of the one that spreads. The marks and the buffers that the builder was lent stand before what the run is.
abbrev pub closing_run : ℕ → ℕ → ℕ → List ℕ → List ℕ → List ℕ → Lent (List ℕ) → Left (List ℕ) Answer
closing_run a s n marks list items = run_of_two (closing_built a s n marks list items)

abbrev pub spreading_run : ℕ → ℕ → ℕ → List ℕ → List ℕ → List ℕ → Lent (List ℕ) → Left (List ℕ) Answer
spreading_run a s n marks list items = run_of_two (spreading_built a s n marks list items)

-- The state in the middle of such a run, after its first k instructions.
abbrev pub state_after : BuiltTwoLeft → Lent (List ℕ) → ℕ → State
state_after b l = ran_by (list_of_two b) (items_of_two b ++ l.items) (begun l (registers_of l.registers))

-- How many instructions of a list have a shift.
unfoldable pub shifts_in : List Instruction → ℕ
shifts_in [] = 0
shifts_in (i ∷ l) = cond (eqb i.code 0) 0 1 + shifts_in l

-- ---- what they leave

-- What a run r leaves that closed up: c words are marked, and `which` says which of them is number 0, 1, 2 and so on.
pub record Closed (a s n : ℕ) (marks : List ℕ) (c : ℕ) (which : Numbered (MarkedBy marks) 256 c) (lent : Lent (List ℕ)) (r : Left (List ℕ) Answer) : Type 0 where
  pub done : r.answer ≡ record { number = 0; place = 0; byte = 0; steps = 10 + 19 * n; taken = 9; given = 0 }
  -- S of word k is the old A of marked word number k, and zero where there is none
  pub closed : (k : ℕ) → k < c → value r.memory k s n ≡ value lent.memory (which.nth k) a n
  pub zero : (k : ℕ) → c ≤ k → k < 256 → value r.memory k s n ≡ 0
  -- every other bit of the memory is as before
  pub others : (w b : ℕ) → w < 256 → b < 256 → (s ≤ b → b < s + n → ⊥) → word_bit r.memory w b ≡ word_bit lent.memory w b
  -- both mode registers are as before
  pub keeps_modes : (registers_of r.registers).modes ≡ (registers_of lent.registers).modes
  -- the buffers are of the same lengths, and nothing is put out
  pub memory : Bytes r.memory 8192
  pub registers : Bytes r.registers 100
  pub quiet : r.out ≡ lent.out

-- And one that spread.
pub record Spread (a s n : ℕ) (marks : List ℕ) (c : ℕ) (which : Numbered (MarkedBy marks) 256 c) (lent : Lent (List ℕ)) (r : Left (List ℕ) Answer) : Type 0 where
  pub done : r.answer ≡ record { number = 0; place = 0; byte = 0; steps = 1 + 18 * n; taken = 1 + 8 * n; given = 0 }
  -- A of marked word number k is the old S of word k
  pub spread : (k : ℕ) → k < c → value r.memory (which.nth k) a n ≡ value lent.memory k s n
  -- every other bit of the memory is as before: A of the words that are not marked, and S
  pub others : (w b : ℕ) → w < 256 → b < 256 → (MarkedBy marks w → a ≤ b → b < a + n → ⊥) → word_bit r.memory w b ≡ word_bit lent.memory w b
  pub keeps_modes : (registers_of r.registers).modes ≡ (registers_of lent.registers).modes
  pub memory : Bytes r.memory 8192
  pub registers : Bytes r.registers 100
  pub quiet : r.out ≡ lent.out
