-- Lists in which one station cannot disturb another: the condition on a list, which can be computed. Document 02, Fourteen; the promise is promises/specs/DemandIsolation.
use Rattle.std.specs.Prelude.{◌≡◌, Bool, false, not, ◌&&◌, ◌||◌, List, [], ◌∷◌, ℕ, ◌/◌, ◌<◌, eqb, ltb, length}
use Rattle.bits.specs.Bits.{bit_of}
use Rattle.bits.specs.Search.{first}
use Rattle.registers.specs.declared.ModeRegister.{ModeRegister}
use Rattle.registers.specs.declared.Modes.{Modes}
use Rattle.registers.specs.Modes.{modes_of}
use Rattle.registers.specs.Rows.{registers_of}
use Rattle.judge.specs.declared.Instruction.{Instruction}
use Rattle.judge.specs.Kinds.{deliver, set_mode, tag_given, tag_a, tag_b}
use Rattle.judge.specs.Instructions.{instruction_at, touches}
use Rattle.judge.specs.Modes.{modes_after}
use Rattle.module.specs.Act.{part_at}
use Rattle.module.specs.Run.{Lent}
use Rattle.fields.specs.Value.{word_bit, run_of}

-- ---- the condition on a list

-- "Kinds 0 to 3 and 6."
abbrev pub staying_kind : ℕ → Bool
staying_kind kind = ltb kind deliver || eqb kind set_mode

-- Its flag is 1. One that nobody set holds no mode.
abbrev pub is_set : ModeRegister → Bool
is_set r = eqb r.set 1

-- A mode register holds mode 0: it is set, and to 0.
abbrev pub holds_zero : ModeRegister → Bool
holds_zero r = is_set r && eqb r.mode 0

-- An access "has mode 0": in its own byte 3, or through a mode register that then holds 0 (reading Q1). With no tag it has no mode.
abbrev pub mode_zero : Modes → Instruction → Bool
mode_zero m i =
    (eqb i.tag tag_given && eqb i.mode 0)
    || (eqb i.tag tag_a && holds_zero m.a)
    || (eqb i.tag tag_b && holds_zero m.b)

-- "No flips and no shifts": bytes 5 and 6 are 0 in every instruction (reading Q2).
abbrev pub flips : Instruction → Bool
flips i = not (eqb i.flip 0)

abbrev pub shifts : Instruction → Bool
shifts i = not (eqb i.code 0)

-- An instruction breaks the condition, by the mode registers before it: "kinds 0 to 3 and 6 in which every memory access has mode 0 and there are no flips and no shifts".
unfoldable pub breaks : Modes → Instruction → Bool
breaks m i = not (staying_kind i.kind) || (touches i && not (mode_zero m i)) || flips i || shifts i

-- Instruction k of a list does, where the list starts with these mode registers.
abbrev pub breaks_at : Modes → List ℕ → ℕ → Bool
breaks_at m list k = breaks (modes_after list m k) (instruction_at list k)

-- None of the first k does.
abbrev pub Keeps : Modes → List ℕ → ℕ → Type 0
Keeps m list k = (j : ℕ) → j < k → breaks_at m list j ≡ false

-- The first that does, or how many there are.
abbrev pub first_breaking : Modes → List ℕ → ℕ
first_breaking m list = first (breaks_at m list) 0 (length list / 8)

-- The condition: none does.
abbrev pub isolated : Modes → List ℕ → Bool
isolated m list = eqb (first_breaking m list) (length list / 8)

-- The list does not meet it, and instruction k is the first that breaks it.
abbrev pub BreaksFirst : Modes → List ℕ → ℕ → Type 0
BreaksFirst m list k = (isolated m list ≡ false) × (first_breaking m list ≡ k)

-- ---- two runs of a list that agree at a station

-- Memory and registers, and others, are the same "on word P, on bit P of M, X and Y .. and on the mode registers", whatever the other words hold.
pub record SameAt (p : ℕ) (memory registers memory' registers' : List ℕ) : Type 0 where
  pub word : (b : ℕ) → b < 256 → word_bit memory p b ≡ word_bit memory' p b
  pub bit_m : bit_of (registers_of registers).m p ≡ bit_of (registers_of registers').m p
  pub bit_x : bit_of (registers_of registers).x p ≡ bit_of (registers_of registers').x p
  pub bit_y : bit_of (registers_of registers).y p ≡ bit_of (registers_of registers').y p
  pub modes : modes_of registers ≡ modes_of registers'

-- What two runs of a list are lent agrees so, and "on bit P of each item taken" (reading Q3); both are done.
pub record Agree (p : ℕ) (list : List ℕ) (l l' : Lent (List ℕ)) : Type 0 where
  pub done : (run_of list l).answer.number ≡ 0
  pub done' : (run_of list l').answer.number ≡ 0
  pub same : SameAt p l.memory l.registers l'.memory l'.registers
  pub items : (t : ℕ) → t < (run_of list l).answer.taken → bit_of (part_at l.items t) p ≡ bit_of (part_at l'.items t) p

-- ---- accesses through a mode register, as bytes: the page has what the condition says of them

-- A store of Y to address 13 under the mode of register A, tag 2; of register B, tag 3; and with mode 0 given.
abbrev pub store_by_a : List ℕ
store_by_a = 2 ∷ 3 ∷ 2 ∷ 0 ∷ 13 ∷ 0 ∷ 0 ∷ 0 ∷ []

abbrev pub store_by_b : List ℕ
store_by_b = 2 ∷ 3 ∷ 3 ∷ 0 ∷ 13 ∷ 0 ∷ 0 ∷ 0 ∷ []

abbrev pub store_slice : List ℕ
store_slice = 2 ∷ 3 ∷ 1 ∷ 0 ∷ 13 ∷ 0 ∷ 0 ∷ 0 ∷ []

-- A kind 6 that sets A to a mode.
abbrev pub set_a : ℕ → List ℕ
set_a mode = 6 ∷ 0 ∷ 2 ∷ mode ∷ 0 ∷ 0 ∷ 0 ∷ 0 ∷ []

-- B is set to 0, and A is not set.
abbrev pub zero_in_b : Modes
zero_in_b = record { a = record { set = 0; mode = 0 }; b = record { set = 1; mode = 0 } }
