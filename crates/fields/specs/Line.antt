-- The array seen at one line: line p of a state as a one-word machine, the line that an instruction's pass brings there, and the instructions that keep to their line.
use Rattle.std.specs.Prelude.{◌≡◌, true, List, ℕ, ◌/◌, ◌%◌, ◌<◌}
use Rattle.bits.specs.Bits.{bit_of}
use Rattle.memory.specs.Table.{table}
use Rattle.memory.specs.Memory.{cell}
use Rattle.network.specs.Shifts.{permitted}
use Rattle.network.specs.Pass.{source}
use Rattle.registers.specs.declared.Modes.{Modes}
use Rattle.judge.specs.declared.Instruction.{Instruction}
use Rattle.judge.specs.Modes.{mode_of}
use Rattle.module.specs.Act.{State, part_at}
use Rattle.builders.specs.Word.{Word}

-- Line p of a state is v.
pub record At (p : ℕ) (s : State) (v : Word) : Type 0 where
  pub word : (b : ℕ) → b < 256 → table (cell s.mem) p b ≡ v.bits b
  pub bit_m : bit_of s.regs.m p ≡ v.m
  pub bit_x : bit_of s.regs.x p ≡ v.x
  pub bit_y : bit_of s.regs.y p ≡ v.y
  pub count : s.taken ≡ v.taken

-- Line p of a state, and of the lent items.
abbrev pub word_of : ℕ → State → Word
word_of p s =
    record { bits = table (cell s.mem) p; m = bit_of s.regs.m p; x = bit_of s.regs.x p; y = bit_of s.regs.y p; taken = s.taken }

abbrev pub outside_at : ℕ → List ℕ → ℕ → ℕ
outside_at p items t = bit_of (part_at items t) p

-- The line that instruction i's pass brings to line p. Document 01, Network: flip F and then a shift of 2^m modulo 2^p, where byte 6 is 16p + m.
abbrev pub came_from : Instruction → ℕ → ℕ
came_from i p = source i.flip (i.code / 16) (i.code % 16) p

-- An instruction whose mode is 0 with the mode registers m, so that line p of its access is bit `addr` of word p; a flip and a shift move lines as they may.
pub record Sliced (m : Modes) (i : Instruction) : Type 0 where
  pub mode0 : mode_of m i ≡ 0
  pub inside : i.addr < 256
  pub flips : i.flip < 256
  pub shifts : permitted i.code ≡ true

-- An instruction that keeps to its line with the mode registers m: mode 0, no flip and no shift.
pub record Local (m : Modes) (i : Instruction) : Type 0 where
  pub mode0 : mode_of m i ≡ 0
  pub flip0 : i.flip ≡ 0
  pub code0 : i.code ≡ 0
  pub inside : i.addr < 256
