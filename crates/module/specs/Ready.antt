-- What an instruction needs before it acts: the judge has seen to it; and what is passed under a mode. Only contracts of inner functions cite this file: no promise to a user rests on it.
use Rattle.std.specs.Prelude.{◌≡◌, true, false, cond, List, ℕ, ◌+◌, ◌*◌, ◌<◌, ◌≤◌, length}
use Rattle.network.specs.Shifts.{permitted}
use Rattle.network.specs.Answer.{passed_item}
use Rattle.registers.specs.declared.Registers.{Registers}
use Rattle.judge.specs.declared.Instruction.{Instruction}
use Rattle.judge.specs.Kinds.{memory_bytes}
use Rattle.judge.specs.Instructions.{takes, gives}
use Rattle.module.specs.Act.{part_at, held}

pub record Ready (mem items out : List ℕ) (i : Instruction) (taken given : ℕ) : Type 0 where
  pub memory : length mem ≡ memory_bytes
  pub kind : i.kind ≤ 6
  pub source : i.source ≤ 4
  pub untaken : 4 < i.kind → takes i ≡ false
  pub code : permitted i.code ≡ true
  pub logic : i.kind ≡ 0 → i.logic < 80
  pub supplied : takes i ≡ true → 32 * taken + 32 ≤ length items
  pub roomy : gives i ≡ true → 32 * given + 32 ≤ length out
  pub few-taken : taken ≤ 4096
  pub few-given : given ≤ 4096

-- The item that instruction i passes, where it accesses memory under this mode.
abbrev pub passed_under : ℕ → Instruction → List ℕ → List ℕ → Registers → ℕ → List ℕ
passed_under mode i mem items r taken = passed_item (cond (takes i) (part_at items taken) (held i.source mode i.addr mem r)) i.flip i.code
