-- The two access mode registers in a list: which are set before each instruction, and the mode under which it accesses memory. Document 02, Seven; source 004.
use Rattle.std.specs.Prelude.{◌≡◌, Bool, cond, not, ◌&&◌, ◌||◌, List, ℕ, zero, suc, ◌<◌, eqb}
use Rattle.registers.specs.declared.Modes.{Modes}
use Rattle.judge.specs.declared.Instruction.{Instruction}
use Rattle.judge.specs.Kinds.{set_mode, tag_a, tag_b}
use Rattle.judge.specs.Instructions.{instruction_at}

-- "A new kind 6 with tag 2 or 3 sets that register from byte 3." No instruction unsets one.
abbrev pub modes_by : Instruction → Modes → Modes
modes_by i m =
    cond (eqb i.kind set_mode && eqb i.tag tag_a) (record { a = record { set = 1; mode = i.mode }; b = m.b })
    (cond (eqb i.kind set_mode && eqb i.tag tag_b) (record { a = m.a; b = record { set = 1; mode = i.mode } }) m)

-- The mode registers after the first k instructions of a list, from those at the start. "In judging a list, a register counts as set if its flag is 1 at the start or an earlier kind 6 set it"; and it is what a run has there (promises/specs/DemandModes).
unfoldable pub modes_after : List ℕ → Modes → ℕ → Modes
modes_after list m zero = m
modes_after list m (suc k) = modes_by (instruction_at list k) (modes_after list m k)

-- An instruction before k sets the register of this tag.
abbrev pub SetBefore : List ℕ → ℕ → ℕ → Type 0
SetBefore list tag k = (j : ℕ) × (j < k) × ((instruction_at list j).kind ≡ set_mode) × ((instruction_at list j).tag ≡ tag)

-- "Tags 2 and 3 take the mode from A or B": else it is byte 3.
abbrev pub mode_of : Modes → Instruction → ℕ
mode_of m i = cond (eqb i.tag tag_a) m.a.mode (cond (eqb i.tag tag_b) m.b.mode i.mode)

-- The register that its tag names is set; and the test that it names one which is not.
abbrev pub NamesSet : Modes → Instruction → Type 0
NamesSet m i = (i.tag ≡ tag_a → m.a.set ≡ 1) × (i.tag ≡ tag_b → m.b.set ≡ 1)

abbrev pub unset : Modes → Instruction → Bool
unset m i = (eqb i.tag tag_a && not (eqb m.a.set 1)) || (eqb i.tag tag_b && not (eqb m.b.set 1))
