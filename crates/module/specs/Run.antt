-- What a run and a step give back and leave. Document 01, Numbers given back: judged first; "a refusal changes no buffer"; else what the instructions make of the buffers, one after the other.
use Rattle.std.specs.Prelude.{cond, List, ℕ, zero, suc, ◌/◌, eqb, length}
use Rattle.registers.specs.declared.Registers.{Registers}
use Rattle.registers.specs.Modes.{modes_of}
use Rattle.registers.specs.Rows.{registers_of, bytes_of}
use Rattle.judge.specs.declared.Lengths.{Lengths}
use Rattle.judge.specs.Answers.{Answer}
use Rattle.judge.specs.Kinds.{register_bytes}
use Rattle.judge.specs.Instructions.{instruction_at}
use Rattle.judge.specs.Judge.{judged, judged_step}
use Rattle.module.specs.Act.{State, acted}

-- ---- what is lent, and what is left: R is the register set as bytes, for a run, or as a record, for a step

-- What a run or a step is lent, in document 01's order.
pub record Lent (R : Type 0) : Type 0 where
  pub memory : List ℕ
  pub registers : R
  pub list : List ℕ
  pub items : List ℕ
  pub out : List ℕ

-- What it leaves: what was lent for writing, and the answer, as A has it.
pub record Left (R A : Type 0) : Type 0 where
  pub memory : List ℕ
  pub registers : R
  pub out : List ℕ
  pub answer : A

-- A refusal, and an empty list, leave every buffer as it was.
abbrev pub unmoved : {R : Type 0} → Lent R → Answer → Left R Answer
unmoved l a = record { memory = l.memory; registers = l.registers; out = l.out; answer = a }

-- The lengths of what a run is lent. A step's register record has no length of its own: it stands for the bytes that a run is lent.
abbrev pub run_lengths : Lent (List ℕ) → Lengths
run_lengths l = record { memory = length l.memory; registers = length l.registers; items = length l.items; out = length l.out }

abbrev pub step_lengths : Lent Registers → Lengths
step_lengths l = record { memory = length l.memory; registers = register_bytes; items = length l.items; out = length l.out }

-- ---- the instructions, one after the other

-- The state where a run begins.
abbrev pub begun : {R : Type 0} → Lent R → Registers → State
begun l r = record { mem = l.memory; out = l.out; regs = r; taken = 0; given = 0 }

-- What the first n instructions of a list make of a state.
unfoldable pub ran_by : List ℕ → List ℕ → State → ℕ → State
ran_by list items s zero = s
ran_by list items s (suc n) = acted (instruction_at list n) items (ran_by list items s n)

-- What all instructions of the lent list make of what is lent, with the registers r.
abbrev pub ran_all : {R : Type 0} → Lent R → Registers → State
ran_all l r = ran_by l.list l.items (begun l r) (length l.list / 8)

-- ---- a run, and a step

unfoldable pub ran : Lent (List ℕ) → Left (List ℕ) Answer
ran l =
    let a = judged (run_lengths l) (modes_of l.registers) l.list in
    let s = ran_all l (registers_of l.registers) in
    cond (eqb a.number 0)
    (record { memory = s.mem; registers = bytes_of s.regs; out = s.out; answer = a })
    (unmoved l a)

-- A step's list is its one instruction.
unfoldable pub stepped : Lent Registers → Left Registers Answer
stepped l =
    let a = judged_step (step_lengths l) l.registers.modes l.list in
    let s = ran_all l l.registers in
    cond (eqb a.number 0)
    (record { memory = s.mem; registers = s.regs; out = s.out; answer = a })
    (unmoved l a)

-- What is lent to a step, and what it leaves, with the record as the bytes of a run.
abbrev pub lent_bytes : Lent Registers → Lent (List ℕ)
lent_bytes l = record { memory = l.memory; registers = bytes_of l.registers; list = l.list; items = l.items; out = l.out }

abbrev pub left_bytes : Left Registers Answer → Left (List ℕ) Answer
left_bytes u = record { memory = u.memory; registers = bytes_of u.registers; out = u.out; answer = u.answer }
