-- Accesses through a mode register, in the lists of bytes of specs/Isolation: whether they meet the condition, computed. Assumes nothing.
use mathlib.Core.Path.{◌≡◌, refl}
use mathlib.Core.Bool.{true}
use mathlib.Core.List.{◌++◌}
use Rattle.bits.specs.Search.{first}
use Rattle.registers.specs.Modes.{none_set}
use Rattle.judge.specs.Instructions.{instruction_at}
use Rattle.judge.specs.Modes.{modes_after}
use Rattle.fields.specs.Isolation.{breaks, isolated, BreaksFirst, store_by_a, store_by_b, store_slice, set_a, zero_in_b}

pub by-unset : BreaksFirst none_set store_by_a 0
unfolding first breaks modes_after instruction_at
by-unset = (refl, refl)

pub by_zero : isolated none_set (set_a 0 ++ store_by_a) ≡ true
unfolding first breaks modes_after instruction_at
by_zero = refl

pub by_word : BreaksFirst none_set (set_a 255 ++ store_by_a) 1
unfolding first breaks modes_after instruction_at
by_word = (refl, refl)

pub by-started : isolated zero_in_b store_by_b ≡ true
unfolding first breaks modes_after instruction_at
by-started = refl

pub set-unused : isolated none_set (set_a 255 ++ store_slice) ≡ true
unfolding first breaks modes_after instruction_at
set-unused = refl

pub set-later : BreaksFirst none_set (store_by_a ++ set_a 0) 0
unfolding first breaks modes_after instruction_at
set-later = (refl, refl)
