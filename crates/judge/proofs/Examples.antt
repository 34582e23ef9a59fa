-- Examples of an instruction's number and byte, computed: document 01's "a store with tag 0 and mode 255 is 7", and those of document 02, Six and Seven. Assumes nothing.
use mathlib.Core.Path.{◌≡◌, refl, ap}
use mathlib.Core.Logic.{◌⊎◌, inl, inr}
use mathlib.Core.List.{List, [], ◌∷◌, ◌++◌}
use Prim.Native.Nat.{ℕ}
use Rattle.bits.specs.Search.{first}
use Rattle.registers.specs.declared.Modes.{Modes}
use Rattle.registers.specs.Modes.{none_set}
use Rattle.judge.specs.declared.Instruction.{Instruction}
use Rattle.judge.specs.Instructions.{instruction_at}
use Rattle.judge.specs.Modes.{modes_after}
use Rattle.judge.specs.Judge.{wrong_kind, wrong_source, lacks_tag, wrong_tag, idle_tag, idle_mode, idle_address, unset_mode, barred_flip, barred_shift, wrong_logic, fault_of, refusal, judged_alone}

pub store-without-tag : (m : Modes) → fault_of m (record { kind = 2; source = 3; tag = 0; mode = 255; addr = 0; flip = 0; code = 0; logic = 0 }) ≡ record { number = 7; byte = 2 }
unfolding fault_of wrong_kind wrong_source lacks_tag
store-without-tag m = refl

pub store-shifts : (m : Modes) → fault_of m (record { kind = 2; source = 3; tag = 1; mode = 0; addr = 9; flip = 0; code = 144; logic = 0 }) ≡ record { number = 18; byte = 6 }
unfolding fault_of wrong_kind wrong_source lacks_tag wrong_tag idle_tag idle_mode idle_address unset_mode barred_flip barred_shift
store-shifts m = refl

pub resolve-moves : (m : Modes) → (fault_of m (record { kind = 5; source = 0; tag = 0; mode = 0; addr = 0; flip = 1; code = 136; logic = 0 }) ≡ record { number = 18; byte = 5 })
    × (fault_of m (record { kind = 5; source = 0; tag = 0; mode = 0; addr = 0; flip = 0; code = 136; logic = 0 }) ≡ record { number = 18; byte = 6 })
unfolding fault_of wrong_kind wrong_source lacks_tag wrong_tag idle_tag idle_mode idle_address unset_mode barred_flip barred_shift
resolve-moves m = (refl, refl)

-- set M from X with byte 6 = c
module _ where
  abbrev shifting : ℕ → Instruction
  shifting c = record { kind = 1; source = 2; tag = 0; mode = 0; addr = 0; flip = 0; code = c; logic = 0 }

  pub group-of-512 : (m : Modes) → fault_of m (shifting 159) ≡ record { number = 16; byte = 6 }
  unfolding fault_of wrong_kind wrong_source lacks_tag wrong_tag idle_tag idle_mode idle_address unset_mode barred_flip barred_shift
  group-of-512 m = refl

  pub not-below-p : (m : Modes) (c : ℕ) → (c ≡ 136) ⊎ (c ≡ 1) → fault_of m (shifting c) ≡ record { number = 17; byte = 6 }
  unfolding fault_of wrong_kind wrong_source lacks_tag wrong_tag idle_tag idle_mode idle_address unset_mode barred_flip barred_shift
  not-below-p m c (inl e) = ap (λ (x : ℕ). fault_of m (shifting x)) e
  not-below-p m c (inr e) = ap (λ (x : ℕ). fault_of m (shifting x)) e

pub mode-unused : (m : Modes) → fault_of m (record { kind = 4; source = 3; tag = 0; mode = 255; addr = 13; flip = 0; code = 0; logic = 0 }) ≡ record { number = 9; byte = 3 }
unfolding fault_of wrong_kind wrong_source lacks_tag wrong_tag idle_tag idle_mode idle_address unset_mode
mode-unused m = refl

-- ---- document 02, Seven

-- a store of Y to word 13 under the mode of register A, that nobody set; and with a mode in byte 3 beside the tag
pub nobody-set : fault_of none_set (record { kind = 2; source = 3; tag = 2; mode = 0; addr = 13; flip = 0; code = 0; logic = 0 }) ≡ record { number = 14; byte = 2 }
unfolding fault_of wrong_kind wrong_source lacks_tag wrong_tag idle_tag idle_mode idle_address unset_mode
nobody-set = refl

pub two-modes : fault_of none_set (record { kind = 2; source = 3; tag = 2; mode = 255; addr = 13; flip = 0; code = 0; logic = 0 }) ≡ record { number = 9; byte = 3 }
unfolding fault_of wrong_kind wrong_source lacks_tag wrong_tag idle_tag idle_mode unset_mode
two-modes = refl

-- register A set to 255 and then the store; and the other way round
abbrev set-A-255 : List ℕ
set-A-255 = 6 ∷ 0 ∷ 2 ∷ 255 ∷ 0 ∷ 0 ∷ 0 ∷ 0 ∷ []

abbrev store-13 : List ℕ
store-13 = 2 ∷ 3 ∷ 2 ∷ 0 ∷ 13 ∷ 0 ∷ 0 ∷ 0 ∷ []

pub set_first : judged_alone none_set (set-A-255 ++ store-13) ≡ refusal 0 0 0
unfolding judged_alone first instruction_at modes_after fault_of wrong_kind wrong_source lacks_tag wrong_tag idle_tag idle_mode idle_address unset_mode barred_flip barred_shift wrong_logic
set_first = refl

pub set-later : judged_alone none_set (store-13 ++ set-A-255) ≡ refusal 14 0 2
unfolding judged_alone first instruction_at modes_after fault_of wrong_kind wrong_source lacks_tag wrong_tag idle_tag idle_mode idle_address unset_mode
set-later = refl
