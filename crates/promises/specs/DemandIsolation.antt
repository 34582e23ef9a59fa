-- Document 02, Fourteen, on a page: "One station can't disturb another. Crews share arrays. .. take two runs of the same list that agree on word P, on bit P of M, X and Y, on bit P of each item taken, and on the mode registers. Then word P and bit P of M, X and Y are equal afterwards, however the other words differ."
-- The names are those of specs/: `isolated m list` is the condition on a list that starts with the mode registers m, and can be computed; `BreaksFirst m list k` says that the list does not meet it, and that instruction k is the first that breaks it; `isolation_of` is what the function answers. `Agree` and `SameAt` say what two runs agree on, before and after. It is proved in proofs/DemandIsolation.antt, and assumes nothing. The numbers and their order stand in specs/DemandOne.antt.
use Rattle.std.specs.Prelude.{◌≡◌, true, false, List, [], ◌∷◌, ◌++◌, ◌↔◌, ◌≢◌, ℕ, ◌+◌, ◌*◌, ◌^◌, ◌<◌, ◌≤◌, length, get_or, replicate}
use Rattle.bits.specs.Rows.{NoRow, FirstRow}
use Rattle.registers.specs.declared.Modes.{Modes}
use Rattle.registers.specs.Modes.{modes_of, none_set}
use Rattle.judge.specs.Judge.{unfit, run_rows}
use Rattle.module.specs.Run.{Lent, run_lengths}
use Rattle.builders.specs.Field.{Field}
use Rattle.builders.specs.Sums.{Fields, list_length, sum_built, difference_built}
use Rattle.builders.specs.Searches.{search_length, items_length, greatest_length, equal_built, less_built, greatest_built}
use Rattle.closing.specs.Closing.{FieldsApart, closing_length, closing_items_length, spreading_length, spreading_items_length, closing_built, spreading_built}
use Rattle.fields.specs.Value.{word_bit, list_of, run_of}
use Rattle.fields.specs.Marks.{list_of_two}
use Rattle.fields.specs.Isolation.{isolated, BreaksFirst, SameAt, Agree, store_by_a, store_by_b, store_slice, set_a, zero_in_b}
use Rattle.isolation.specs.Isolation.{ask_rows, isolation_of}

-- Sums and differences, and equal and less of document 02, One, are such lists, as their builders write them and whatever the mode registers hold; greatest, closing and spreading are not.
pub record BuiltLists (m : Modes) : Type 0 where
  pub sum : (a b s n : ℕ) (list : List ℕ) → Fields a b s n → list_length 1 n ≤ length list → isolated m (list_of (sum_built a b s n list)) ≡ true
  pub difference : (a b s n : ℕ) (list : List ℕ) → Fields a b s n → list_length 2 n ≤ length list → isolated m (list_of (difference_built a b s n list)) ≡ true
  pub equal : (a n number : ℕ) (list items : List ℕ) → Field a n → number < 2 ^ n → search_length n ≤ length list → items_length n ≤ length items
      → isolated m (list_of_two (equal_built a n number list items)) ≡ true
  pub less : (a n number : ℕ) (list items : List ℕ) → Field a n → number < 2 ^ n → search_length n ≤ length list → items_length n ≤ length items
      → isolated m (list_of_two (less_built a n number list items)) ≡ true
  -- instruction 2 is a flip
  pub greatest : (a n : ℕ) (list : List ℕ) → Field a n → greatest_length n ≤ length list → BreaksFirst m (list_of (greatest_built a n list)) 2
  -- behind the copies of n slices and a mask, a mirrored shift
  pub closing : (a s n : ℕ) (marks list items : List ℕ) → FieldsApart a s n → length marks ≡ 32 → closing_length n ≤ length list → closing_items_length ≤ length items
      → BreaksFirst m (list_of_two (closing_built a s n marks list items)) (2 * n + 1)
  -- instruction 3 is a shift
  pub spreading : (a s n : ℕ) (marks list items : List ℕ) → FieldsApart a s n → length marks ≡ 32 → spreading_length n ≤ length list → spreading_items_length n ≤ length items
      → BreaksFirst m (list_of_two (spreading_built a s n marks list items)) 3

-- Accesses through a mode register (reading Q1): stores of Y by A and by B, with mode 0 given, and a kind 6 that sets A.
pub record ThroughRegister : Type 0 where
  -- nobody set A: no mode was given, and that is not mode 0
  pub unset : BreaksFirst none_set store_by_a 0
  -- A then holds 0; or 255, a word
  pub zero : isolated none_set (set_a 0 ++ store_by_a) ≡ true
  pub word : BreaksFirst none_set (set_a 255 ++ store_by_a) 1
  -- B holds 0 from the start
  pub started : isolated zero_in_b store_by_b ≡ true
  -- any mode may be loaded that no access uses
  pub unused : isolated none_set (set_a 255 ++ store_slice) ≡ true
  -- a kind 6 behind the access does not count
  pub later : BreaksFirst none_set (store_by_a ++ set_a 0) 0

-- ---- "Give one list with a flip where this is false"

-- Y takes bit 0 of the word across flip 1, so that station 0 has station 1's; and Y is stored to bit 1 of every word.
abbrev pub across : List ℕ
across = (0 ∷ 0 ∷ 1 ∷ 0 ∷ 0 ∷ 1 ∷ 0 ∷ 26 ∷ []) ++ (2 ∷ 3 ∷ 1 ∷ 0 ∷ 1 ∷ 0 ∷ 0 ∷ 0 ∷ [])

-- Two memories: one of zeros, and one that has a 1 in chip 1, location 0, which is bit 0 of word 1 ("Bit B of word W is at location B of chip B xor W").
abbrev pub zeros : List ℕ
zeros = replicate 8192 0

abbrev pub one_elsewhere : List ℕ
one_elsewhere = replicate 32 0 ++ (1 ∷ replicate 8159 0)

-- All else that is lent: registers of zeros, no items and no room.
abbrev pub lent_memory : List ℕ → Lent (List ℕ)
lent_memory memory = record { memory = memory; registers = replicate 100 0; list = []; items = []; out = [] }

pub record Disturbed : Type 0 where
  -- the two agree on station 0, and both runs are done
  pub agree : Agree 0 across (lent_memory zeros) (lent_memory one_elsewhere)
  -- and yet bit 1 of word 0 is another afterwards
  pub left : word_bit (run_of across (lent_memory zeros)).memory 0 1 ≡ 0
  pub left' : word_bit (run_of across (lent_memory one_elsewhere)).memory 0 1 ≡ 1
  -- the function names the first of the two instructions
  pub named : isolation_of across (replicate 100 0) ≡ record { number = 40; place = 0 }

pub record DemandIsolation : Type 0 where
  -- of two runs of a list of bytes that meets the condition, for every station P: what agreed before agrees afterwards
  pub undisturbed : (list : List ℕ) (l l' : Lent (List ℕ)) (p : ℕ) → p < 256 → ((k : ℕ) → get_or list k 0 < 256)
      → isolated (modes_of l.registers) list ≡ true → Agree p list l l'
      → SameAt p (run_of list l).memory (run_of list l).registers (run_of list l').memory (run_of list l').registers
  -- nothing of any station is put out, done or refused
  pub quiet : (list : List ℕ) (l : Lent (List ℕ)) → isolated (modes_of l.registers) list ≡ true → (run_of list l).out ≡ l.out
  -- the function answers 0 exactly where the list meets the condition, and neither 2, 3 nor 15 refuses what is lent
  pub exactly : (list registers : List ℕ)
      → ((isolation_of list registers).number ≡ 0) ↔ NoRow (ask_rows (length registers) (modes_of registers) list) × (isolated (modes_of registers) list ≡ true)
  -- 2, 3 and 15 as a run gives them: row n is the first that holds exactly where it is in a run of the list on these registers, if the run refuses neither its memory nor its items
  pub as_run : (l : Lent (List ℕ)) → length l.memory ≡ 8192 → unfit 32 (length l.items) ≡ false → (n : ℕ) → n ≢ 0
      → (let m = modes_of l.registers in FirstRow (ask_rows (length l.registers) m l.list) n ↔ FirstRow (run_rows (run_lengths l) m l.list) n)
  pub built : (m : Modes) → BuiltLists m
  pub through_register : ThroughRegister
  pub disturbed : Disturbed
