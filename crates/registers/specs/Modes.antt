-- The two access mode registers as bytes of the register set, and which bytes stand. Document 02, Seven and Eight.
use Rattle.std.specs.Prelude.{Bool, not, ◌&&◌, ◌||◌, List, [], ◌∷◌, ℕ, eqb, ltb, get_or}
use Rattle.registers.specs.declared.ModeRegister.{ModeRegister}
use Rattle.registers.specs.declared.Modes.{Modes}

-- "After M, X, Y come set-flag and mode of register A, then of B."
abbrev pub modes_of : List ℕ → Modes
modes_of l = record { a = record { set = get_or l 96 0; mode = get_or l 97 0 }; b = record { set = get_or l 98 0; mode = get_or l 99 0 } }

-- Both unset: as the program starts from a picture of kind 1.
abbrev pub none_set : Modes
none_set = record { a = record { set = 0; mode = 0 }; b = record { set = 0; mode = 0 } }

abbrev pub mode_bytes : Modes → List ℕ
mode_bytes m = m.a.set ∷ m.a.mode ∷ m.b.set ∷ m.b.mode ∷ []

-- "15, a flag over 1 or a nonzero mode with flag 0": of one register, and of either.
abbrev pub wrong_register : ModeRegister → Bool
wrong_register r = ltb 1 r.set || (eqb r.set 0 && not (eqb r.mode 0))

unfoldable pub wrong_modes : Modes → Bool
wrong_modes m = wrong_register m.a || wrong_register m.b

-- "A register set": one of the two flags is 1.
abbrev pub any_set : Modes → Bool
any_set m = eqb m.a.set 1 || eqb m.b.set 1
