-- Document 02, Seven, on a page: a list that is accepted never uses a mode that nobody gave. The office's accident was such a mode: a store meant for word 13 went to bit 13 of every word.
-- The names are those of specs/: `modes_after list m k` are the mode registers after the first k instructions of a list, a fold from those at the start; the judge counts on them (`instruction_rows`), and here it is what a run has. It is proved in proofs/DemandModes.antt, and assumes nothing.
use Rattle.std.specs.Prelude.{◌≡◌, true, List, ◌↔◌, ◌⊎◌, ◌≢◌, ℕ, ◌/◌, ◌<◌, length}
use Rattle.registers.specs.declared.Modes.{Modes}
use Rattle.registers.specs.Modes.{modes_of}
use Rattle.registers.specs.Rows.{registers_of}
use Rattle.judge.specs.Instructions.{instruction_at, touches}
use Rattle.judge.specs.Modes.{modes_after, SetBefore, NamesSet}
use Rattle.judge.specs.Judge.{judged}
use Rattle.module.specs.Act.{State}
use Rattle.module.specs.Run.{Lent, run_lengths, begun, ran_by}

-- "In judging a list, a register counts as set if its flag is 1 at the start or an earlier kind 6 set it."
pub record CountsAsSet (list : List ℕ) (m : Modes) (k : ℕ) : Type 0 where
  pub set_a : ((modes_after list m k).a.set ≡ 1) ↔ ((m.a.set ≡ 1) ⊎ SetBefore list 2 k)
  pub set_b : ((modes_after list m k).b.set ≡ 1) ↔ ((m.b.set ≡ 1) ⊎ SetBefore list 3 k)

-- The state in which instruction k of the lent list acts.
abbrev pub acts_in : Lent (List ℕ) → ℕ → State
acts_in l k = ran_by l.list l.items (begun l (registers_of l.registers)) k

pub record DemandModes (l : Lent (List ℕ)) : Type 0 where
  pub counts_as_set : (k : ℕ) → CountsAsSet l.list (modes_of l.registers) k
  -- what the judge counts on is what the run has
  pub counted : (k : ℕ) → (acts_in l k).regs.modes ≡ modes_after l.list (modes_of l.registers) k
  -- at each instruction with tag 2 or 3 that uses the register, and does not set it, the flag is 1 in the state in which it acts
  pub never_unset : (judged (run_lengths l) (modes_of l.registers) l.list).number ≡ 0 → (k : ℕ) → k < length l.list / 8
      → (let i = instruction_at l.list k in i.kind ≢ 6 → NamesSet (acts_in l k).regs.modes i)
  -- so every access has a mode that somebody gave: in its own byte 3, or in a register that is set
  pub mode_given : (judged (run_lengths l) (modes_of l.registers) l.list).number ≡ 0 → (k : ℕ) → k < length l.list / 8
      → (let i = instruction_at l.list k in let m = (acts_in l k).regs.modes in
      touches i ≡ true → (i.tag ≡ 1) ⊎ ((i.tag ≡ 2) × (m.a.set ≡ 1)) ⊎ ((i.tag ≡ 3) × (m.b.set ≡ 1)))
