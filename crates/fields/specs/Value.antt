-- The values of fields, and what a sum or a difference leaves: the names in which demand 3 is stated. Document 01, Sum and difference lists.
use Rattle.std.specs.Prelude.{◌≡◌, List, ◌↔◌, ℕ, ◌+◌, ◌*◌, ◌/◌, ◌%◌, ◌^◌, ◌<◌, ◌≤◌, take, replicate}
use Rattle.bits.specs.Bits.{Bytes, bit_of, digits_of}
use Rattle.memory.specs.Table.{table}
use Rattle.memory.specs.Memory.{cell}
use Rattle.registers.specs.Rows.{registers_of}
use Rattle.judge.specs.Answers.{Answer}
use Rattle.module.specs.Run.{Lent, Left, ran}
use Rattle.builders.specs.Sums.{sum_built, difference_built}
use Rattle.builders.specs.Building.{BuiltLeft}

-- Bit b of word w of the lent memory.
abbrev pub word_bit : List ℕ → ℕ → ℕ → ℕ
word_bit mem w b = table (cell mem) w b

-- A field's value in word w: its bits times their weights, 1 for the bit at its start, 2 for the next, and so on.
abbrev pub value : List ℕ → ℕ → ℕ → ℕ → ℕ
value mem w start n = digits_of (λ j. word_bit mem w (start + j)) n

-- The list that a builder wrote: as many of the first bytes of its buffer as it counted.
abbrev pub list_of : BuiltLeft → List ℕ
list_of l = take l.answer.count l.list

-- What a run r leaves that was done in so many steps and put the number t w into field S of each word w of what was lent.
pub record Put (steps s n : ℕ) (t : ℕ → ℕ) (lent : Lent (List ℕ)) (r : Left (List ℕ) Answer) : Type 0 where
  -- it is done, with the list's count of steps, and nothing is taken or given
  pub done : r.answer ≡ record { number = 0; place = 0; byte = 0; steps = steps; taken = 0; given = 0 }
  -- in each word S is that number modulo 2^n, Y is the carry out, X is zero, and M and both mode registers are as before
  pub field : (w : ℕ) → w < 256 → value r.memory w s n ≡ t w % 2 ^ n
  pub carry : (w : ℕ) → w < 256 → bit_of (registers_of r.registers).y w ≡ t w / 2 ^ n
  pub zero_x : (registers_of r.registers).x ≡ replicate 32 0
  pub keeps_m : (registers_of r.registers).m ≡ (registers_of lent.registers).m
  pub keeps_modes : (registers_of r.registers).modes ≡ (registers_of lent.registers).modes
  -- and every other bit of the memory is as before
  pub others : (w b : ℕ) → w < 256 → b < 256 → (s ≤ b → b < s + n → ⊥) → word_bit r.memory w b ≡ word_bit lent.memory w b
  -- the buffers are of the same lengths, and nothing is put out
  pub memory : Bytes r.memory 8192
  pub registers : Bytes r.registers 100
  pub quiet : r.out ≡ lent.out

-- A run of a list on what is lent, in the place of whatever list was lent with it.
abbrev pub run_of : List ℕ → Lent (List ℕ) → Left (List ℕ) Answer
run_of list l = ran (record { memory = l.memory; registers = l.registers; list = list; items = l.items; out = l.out })

-- What a run has left, lent to the next with the same items.
abbrev pub lent_on : Lent (List ℕ) → Left (List ℕ) Answer → Lent (List ℕ)
lent_on l r = record { memory = r.memory; registers = r.registers; list = l.list; items = l.items; out = r.out }

-- A run of the sum list, or of the difference list, that a builder wrote into a buffer.
abbrev pub sum_run : ℕ → ℕ → ℕ → ℕ → List ℕ → Lent (List ℕ) → Left (List ℕ) Answer
sum_run a b s n buffer = run_of (list_of (sum_built a b s n buffer))

abbrev pub difference_run : ℕ → ℕ → ℕ → ℕ → List ℕ → Lent (List ℕ) → Left (List ℕ) Answer
difference_run a b s n buffer = run_of (list_of (difference_built a b s n buffer))

-- What a run r' leaves that took B off S into S, where a run r had put A plus B there in what was lent before both.
pub record TakenOff (a b s n : ℕ) (lent : Lent (List ℕ)) (r r' : Left (List ℕ) Answer) : Type 0 where
  pub done : r'.answer ≡ record { number = 0; place = 0; byte = 0; steps = 2 + 5 * n; taken = 0; given = 0 }
  -- in each word S is the old A, and Y is 1 exactly where no borrow was needed
  pub field : (w : ℕ) → w < 256 → value r'.memory w s n ≡ value lent.memory w a n
  pub no_borrow : (w : ℕ) → w < 256 → (bit_of (registers_of r'.registers).y w ≡ 1) ↔ (value r.memory w b n ≤ value r.memory w s n)
  pub zero_x : (registers_of r'.registers).x ≡ replicate 32 0
  pub keeps_m : (registers_of r'.registers).m ≡ (registers_of lent.registers).m
  pub keeps_modes : (registers_of r'.registers).modes ≡ (registers_of lent.registers).modes
  pub others : (w i : ℕ) → w < 256 → i < 256 → (s ≤ i → i < s + n → ⊥) → word_bit r'.memory w i ≡ word_bit lent.memory w i
  pub quiet : r'.out ≡ r.out
