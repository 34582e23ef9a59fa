-- An instruction by itself: its eight bytes, whether the judge refuses it whatever the mode registers are, and what its name says of it. docs/TEXT.md.
use Rattle.std.specs.Prelude.{Bool, not, List, [], ◌∷◌, ℕ, eqb}
use Rattle.registers.specs.declared.Modes.{Modes}
use Rattle.judge.specs.declared.Instruction.{Instruction}
use Rattle.judge.specs.Answers.{Fault}
use Rattle.judge.specs.Instructions as judge
use Rattle.judge.specs.Judge.{fault_of}

-- The eight bytes, in order.
abbrev pub bytes_of : Instruction → List ℕ
bytes_of i = i.kind ∷ i.source ∷ i.tag ∷ i.mode ∷ i.addr ∷ i.flip ∷ i.code ∷ i.logic ∷ []

-- An instruction with only its kind.
abbrev pub of_kind : ℕ → Instruction
of_kind k = record { kind = k; source = 0; tag = 0; mode = 0; addr = 0; flip = 0; code = 0; logic = 0 }

-- Instructions of this kind store.
unfoldable pub stores : ℕ → Bool
stores kind = judge.stores (of_kind kind)

-- It touches memory.
unfoldable pub touches : Instruction → Bool
touches i = judge.touches i

-- Both mode registers set: then no instruction lacks one, and what is refused is refused by its own bytes.
abbrev pub both_set : Modes
both_set = record { a = record { set = 1; mode = 0 }; b = record { set = 1; mode = 0 } }

-- The number and the byte that the judge gives an instruction by itself: 0 and 0 where it has none.
unfoldable pub fault_alone : Instruction → Fault
fault_alone i = fault_of both_set i

-- The judge refuses it, whatever the mode registers are.
abbrev pub refused : Instruction → Bool
refused i = not (eqb (fault_alone i).number 0)
