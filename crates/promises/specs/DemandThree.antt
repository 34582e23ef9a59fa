-- Demand 3, on a page: of the very list that the builder writes and of the very run that `run` promises. Document 01, Sum and difference lists. Document 02, Seven: it "leaves both registers as they were, and takes any register set but one that 15 refuses".
-- The names are those of specs/: a field's `value` is the sum of its bits' weights, `sum_run` is `ran` of the bytes that `sum_list` leaves, and `Put` says for each of the 256 words that S is the number modulo 2 ^ n, Y the carry out and X zero, that M, both mode registers and every other bit of the memory are as before, and that the run is done. It is proved in proofs/DemandThree.antt, and assumes nothing.
use Rattle.std.specs.Prelude.{◌≡◌, false, List, ℕ, ◌+◌, ◌-◌, ◌*◌, ◌^◌, ◌≤◌, length}
use Rattle.bits.specs.Bits.{Bytes}
use Rattle.registers.specs.Modes.{modes_of, wrong_modes}
use Rattle.judge.specs.Judge.{unfit}
use Rattle.module.specs.Run.{Lent}
use Rattle.builders.specs.Sums.{Fields, Apart, list_length, sum_built, difference_built}
use Rattle.fields.specs.Value.{value, Put, TakenOff, lent_on, sum_run, difference_run}

-- What is lent: any memory of 8,192 bytes and any registers of 100 but those that 15 refuses; items that the judge does not refuse; any out buffer; a buffer with room for a sum list, and one with room for a difference list.
-- `Fields` says that the width is 1 to 64, that each field lies in the word, and that S is the same field or wholly apart, towards A and towards B each.
pub record Given (a b s n : ℕ) (buffer buffer' : List ℕ) (lent : Lent (List ℕ)) : Type 0 where
  pub fields : Fields a b s n
  pub room : list_length 1 n ≤ length buffer
  pub room' : list_length 2 n ≤ length buffer'
  pub memory : Bytes lent.memory 8192
  pub registers : Bytes lent.registers 100
  -- "takes any register set but one that 15 refuses"
  pub modes : wrong_modes (modes_of lent.registers) ≡ false
  pub supplied : unfit 32 (length lent.items) ≡ false

pub record DemandThree (a b s n : ℕ) (buffer buffer' : List ℕ) (lent : Lent (List ℕ)) : Type 0 where
  -- the builders write their lists, of 8(1+5n) and 8(2+5n) bytes
  pub sum_written : (sum_built a b s n buffer).answer ≡ record { number = 0; count = 8 * (1 + 5 * n) }
  pub difference_written : (difference_built a b s n buffer').answer ≡ record { number = 0; count = 8 * (2 + 5 * n) }
  -- S is old A plus old B modulo 2 ^ n in each word
  pub sum : Put (1 + 5 * n) s n (λ w. value lent.memory w a n + value lent.memory w b n) lent (sum_run a b s n buffer lent)
  -- of a difference, S is old A plus what old B lacks to 2 ^ n
  pub difference : Put (2 + 5 * n) s n (λ w. value lent.memory w a n + (2 ^ n - value lent.memory w b n)) lent (difference_run a b s n buffer' lent)
  -- A and B exchanged leave the same, every byte and the answer
  pub exchanged : sum_run a b s n buffer lent ≡ sum_run b a s n buffer' lent
  -- where S is also apart from B, taking B off S into S leaves the old A there, and Y is 1 exactly where no borrow was needed
  pub taken_off : Apart s b n
      → (let r = sum_run a b s n buffer lent in TakenOff a b s n lent r (difference_run s b s n buffer' (lent_on lent r)))
