-- What a store reaches, on a page: which words the lines of an access meet, how many they are, and that a store, an instruction and a run leave every other word as it was.
-- The names are those of specs/. It is proved in proofs/Reaching.antt, and assumes nothing. No contract cites this file.
use Rattle.std.specs.Prelude.{◌≡◌, Bool, true, false, List, ℕ, ◌/◌, ◌<◌, length, get_or}
use Rattle.bits.specs.Bits.{bit_of}
use Rattle.bits.specs.Search.{count}
use Rattle.memory.specs.Table.{table, line_word}
use Rattle.memory.specs.Memory.{cell, stored}
use Rattle.registers.specs.Modes.{modes_of}
use Rattle.judge.specs.declared.Instruction.{Instruction}
use Rattle.judge.specs.Instructions.{instruction_at}
use Rattle.judge.specs.Modes.{modes_after}
use Rattle.judge.specs.Judge.{fault_at}
use Rattle.module.specs.Act.{State, acted}
use Rattle.module.specs.Run.{Lent, ran}
use Rattle.reach.specs.Reach.{met, reaches, reach_of, reach_at}

-- The words that the lines of an access under mode m and address g meet.
pub record Meeting (m g : ℕ) : Type 0 where
  -- a line meets only words that are met
  pub lines : (p : ℕ) → p < 256 → met m g (line_word 8 m g p) ≡ true
  -- and each of these by a line, that of its own number
  pub words : (w : ℕ) → w < 256 → met m g w ≡ true → line_word 8 m g w ≡ w
  -- they are 2 to the number of the mode's zero bits
  pub many : count (met m g) 256 ≡ reach_of m

-- Every bit of word w is the same in two memories.
abbrev pub SameWord : ℕ → List ℕ → List ℕ → Type 0
SameWord w mem mem' = (b : ℕ) → b < 256 → table (cell mem') w b ≡ table (cell mem) w b

-- Instruction k of a lent list reaches word w, in a run of what is lent.
abbrev pub reaches_at : Lent (List ℕ) → ℕ → ℕ → Bool
reaches_at l k = reaches (modes_after l.list (modes_of l.registers) k) (instruction_at l.list k)

pub record Reaching : Type 0 where
  pub meeting : (m g : ℕ) → m < 256 → Meeting m g
  -- a store, masked or not, changes no bit of a word that is not met
  pub store : (mem l : List ℕ) (m g : ℕ) (mask : ℕ → ℕ) (w : ℕ) → w < 256 → met m g w ≡ false → SameWord w mem (stored mem m g mask (bit_of l))
  -- nor does an instruction of a word that it does not reach
  pub step : (i : Instruction) (items : List ℕ) (s : State) (w : ℕ) → w < 256 → reaches s.regs.modes i w ≡ false → SameWord w s.mem (acted i items s).mem
  -- nor a run, of one that none of its instructions reaches
  pub run : (l : Lent (List ℕ)) (w : ℕ) → w < 256 → ((k : ℕ) → k < length l.list / 8 → reaches_at l k w ≡ false) → SameWord w l.memory (ran l).memory
  -- and what is answered of an instruction without a number counts the words that it reaches
  pub counts : (l : Lent (List ℕ)) → ((k : ℕ) → get_or l.registers k 0 < 256) → ((k : ℕ) → get_or l.list k 0 < 256)
      → (k : ℕ) → (fault_at (modes_of l.registers) l.list k).number ≡ 0
      → reach_at (modes_of l.registers) l.list k ≡ count (reaches_at l k) 256
