-- Laws of the mode registers as bytes: where they stand, where none do, and what neither set nor wrong leaves. Assumes nothing.
use mathlib.Core.Path.{◌≡◌, refl, sym, ap, ◌∙◌}
use mathlib.Core.Bool.{Bool, false, not, ◌&&◌, false≢true}
use mathlib.Core.List.{List, [], ◌∷◌}
use Prim.Native.Nat.{ℕ, ◌+◌, ◌≤◌}
use native.Mathlib.Decide.{ℕ_discrete}
use native.Mathlib.Omega.{arith}
use lib.Dec.{eqb, ltb}
use lib.ListN.{length, get_or, drop, length-drop, get_or-eq_default}
use lib.Seq.{get_or-drop}
use borrow.Author.Tests.{eq-eqb, ne_eqb, eqb-false, ltb-false}
use Rattle.bits.proofs.Rows.{or-none}
use Rattle.registers.specs.declared.ModeRegister.{ModeRegister}
use Rattle.registers.specs.declared.Modes.{Modes}
use Rattle.registers.specs.Modes.{modes_of, mode_bytes, none_set, wrong_register, wrong_modes, any_set}

-- the modes of bytes are those at the front of what stands behind the first 96
pub modes-behind : (l z : List ℕ) → drop 96 l ≡ z
    → modes_of l ≡ record { a = record { set = get_or z 0 0; mode = get_or z 1 0 }; b = record { set = get_or z 2 0; mode = get_or z 3 0 } }
modes-behind l z e =
    let byte : (k : ℕ) → get_or l (96 + k) 0 ≡ get_or z k 0 = λ k. sym (get_or-drop 96 l k 0) ∙ ap (λ (x : List ℕ). get_or x k 0) e in
    λ j. record { a = record { set = byte 0 j; mode = byte 1 j }; b = record { set = byte 2 j; mode = byte 3 j } }

four : (z : List ℕ) → length z ≡ 4 → get_or z 0 0 ∷ get_or z 1 0 ∷ get_or z 2 0 ∷ get_or z 3 0 ∷ [] ≡ z
four [] h = absurd (omega arith)
four (a ∷ []) h = absurd (omega arith)
four (a ∷ b ∷ []) h = absurd (omega arith)
four (a ∷ b ∷ c ∷ []) h = absurd (omega arith)
four (a ∷ b ∷ c ∷ d ∷ []) h = refl
four (a ∷ b ∷ c ∷ d ∷ e ∷ z) h = absurd (omega arith)

-- and as bytes they are what stands there
pub modes-last : (l : List ℕ) → length l ≡ 100 → mode_bytes (modes_of l) ≡ drop 96 l
modes-last l h = ap mode_bytes (modes-behind l (drop 96 l) refl) ∙ four (drop 96 l) (length-drop 96 l ∙ omega arith)

-- where nothing stands there, none is set
pub modes-none : (l : List ℕ) → length l ≤ 96 → modes_of l ≡ none_set
modes-none l h = λ j. record { a = record { set = e 96 h j; mode = e 97 (omega arith) j }; b = record { set = e 98 (omega arith) j; mode = e 99 (omega arith) j } }
  where
    e : (k : ℕ) → length l ≤ k → get_or l k 0 ≡ 0
    e k n = get_or-eq_default l 0 {n = k} n

-- a register that 15 does not refuse and that is not set is all zeros
zeros : (r : ModeRegister) → wrong_register r ≡ false → eqb r.set 1 ≡ false → (r.set ≡ 0) × (r.mode ≡ 0)
zeros r w u =
    let p = or-none (ltb 1 r.set) (eqb r.set 0 && not (eqb r.mode 0)) w in
    let z : r.set ≡ 0 = omega (arith, ltb-false 1 r.set p.0, eqb-false r.set 1 u) in
    let m : not (eqb r.mode 0) ≡ false = sym (ap (λ (t : Bool). t && not (eqb r.mode 0)) (eq-eqb r.set 0 z)) ∙ p.1 in
    (z, go (ℕ_discrete r.mode 0) m)
  where
    go : Dec (r.mode ≡ 0) → not (eqb r.mode 0) ≡ false → r.mode ≡ 0
    go (yes e) m = e
    go (no n) m = absurd (false≢true (sym m ∙ ap not (ne_eqb r.mode 0 n)))

pub unset-zeros : (m : Modes) → wrong_modes m ≡ false → any_set m ≡ false → m ≡ none_set
unfolding wrong_modes
unset-zeros m w u =
    let p = or-none (wrong_register m.a) (wrong_register m.b) w in
    let q = or-none (eqb m.a.set 1) (eqb m.b.set 1) u in
    let a = zeros m.a p.0 q.0 in
    let b = zeros m.b p.1 q.1 in
    λ j. record { a = record { set = a.0 j; mode = a.1 j }; b = record { set = b.0 j; mode = b.1 j } }
