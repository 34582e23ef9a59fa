-- What the quick test and the searches find on the way, and what a run relies on after them. Only contracts of inner functions cite this file: no promise to a user rests on it.
use Rattle.std.specs.Prelude.{◌≡◌, Bool, true, false, cond, ◌&&◌, List, ℕ, ◌+◌, ◌*◌, ◌/◌, ◌%◌, ◌<◌, ◌≤◌, eqb, length}
use Rattle.bits.specs.Search.{first, count}
use Rattle.registers.specs.declared.Modes.{Modes}
use Rattle.judge.specs.declared.Instruction.{Instruction}
use Rattle.judge.specs.declared.Lengths.{Lengths}
use Rattle.judge.specs.declared.Tally.{Tally}
use Rattle.judge.specs.declared.modes.Settled.{Settled}
use Rattle.judge.specs.ByteRows.{ByteRow, fault_in}
use Rattle.judge.specs.Kinds.{memory_bytes, most_bytes, tag_given, tag_a, tag_b}
use Rattle.judge.specs.Instructions.{instruction_at, takes, gives}
use Rattle.judge.specs.Modes.{modes_by, modes_after, mode_of}
use Rattle.judge.specs.Judge.{access_rows, move_rows, fault_at, faulty}

-- Bytes 2, 3 and 4 are 0, as row 9 asks where memory is not touched.
abbrev pub idle : Instruction → Bool
idle i = eqb i.tag 0 && eqb i.mode 0 && eqb i.addr 0

-- The tag of an instruction that touches memory gives a mode: by byte 3, or by a register that is set, and then byte 3 is 0.
abbrev pub moded : Modes → Instruction → Bool
moded m i =
    cond (eqb i.tag tag_given) true
    (cond (eqb i.tag tag_a) (eqb i.mode 0 && eqb m.a.set 1)
    (cond (eqb i.tag tag_b) (eqb i.mode 0 && eqb m.b.set 1) false))

-- No row of a table holds.
abbrev pub clear : List ByteRow → Bool
clear rows = eqb (fault_in rows).number 0

-- None of rows 5 to 9 and 14 holds: kind, source, tag, mode and address fit together.
unfoldable pub fits : Modes → Instruction → Bool
fits m i = clear (access_rows m i)

-- None of rows 18, 16 and 17 holds: the kind may make this move, and there is such a one.
unfoldable pub passes : Instruction → Bool
passes i = clear (move_rows i)

-- What an instruction makes of the mode registers before it.
abbrev pub settled_by : Instruction → Modes → Settled
settled_by i m = record { mode = mode_of m i; modes = modes_by i m }

-- The first instruction that has a number, how many before it take an item and give one, and the mode registers before it.
unfoldable pub tally_of : Modes → List ℕ → Tally
tally_of m list =
    let bad = first (faulty m list) 0 (length list / 8) in
    record {
      place = bad;
      taken = count (λ k. takes (instruction_at list k)) bad;
      given = count (λ k. gives (instruction_at list k)) bad;
      modes = modes_after list m bad;
    }

-- What holds where the judge says done, of a run and of a step: no instruction has a number, and each finds its item and its room (proofs/Accepted.antt).
pub record Accepted (l : Lengths) (m : Modes) (list : List ℕ) : Type 0 where
  pub memory : l.memory ≡ memory_bytes
  pub whole : length list % 8 ≡ 0
  pub size : length list ≤ most_bytes
  pub formed : (k : ℕ) → k < length list / 8 → (fault_at m list k).number ≡ 0
  pub supplied : (k : ℕ) → k < length list / 8 → takes (instruction_at list k) ≡ true
      → 32 * count (λ j. takes (instruction_at list j)) k + 32 ≤ l.items
  pub roomy : (k : ℕ) → k < length list / 8 → gives (instruction_at list k) ≡ true
      → 32 * count (λ j. gives (instruction_at list j)) k + 32 ≤ l.out
