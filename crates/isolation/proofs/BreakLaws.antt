-- Whether an instruction breaks the condition, test by test as the code asks: its move, its kind, and its access. Assumes nothing.
use mathlib.Core.Path.{◌≡◌, refl, sym, ap, ap₂, ◌∙◌}
use mathlib.Core.Bool.{Bool, true, false, not, ◌&&◌, ◌||◌, true≢false, false≢true}
use Prim.Native.Nat.{ℕ, zero, suc, ◌<◌, ◌≤◌}
use native.Mathlib.Decide.{ℕ_discrete}
use native.Mathlib.Omega.{arith}
use borrow.Author.Tests.{ne_eqb, lt-ltb, le-ltb}
use lib.Dec.{eqb, ltb}
use Rattle.registers.specs.declared.Modes.{Modes}
use Rattle.judge.specs.declared.Instruction.{Instruction}
use Rattle.judge.specs.Instructions.{touches}
use Rattle.fields.specs.Isolation.{staying_kind, holds_zero, mode_zero, breaks}

-- ---- the mode

module _ (m : Modes) (i : Instruction) where
  pub zero-given : i.tag ≡ 1 → eqb i.mode 0 ≡ mode_zero m i
  zero-given e = sym (ap (λ (t : ℕ). (eqb t 1 && eqb i.mode 0) || (eqb t 2 && holds_zero m.a) || (eqb t 3 && holds_zero m.b)) e ∙ alone (eqb i.mode 0))
    where
      alone : (z : Bool) → ((z || false) || false) ≡ z
      alone true = refl
      alone false = refl

  pub zero_held : (i.tag ≡ 1 → ⊥) → (a b : Bool) → a ≡ holds_zero m.a → b ≡ holds_zero m.b → ((eqb i.tag 2 && a) || (eqb i.tag 3 && b)) ≡ mode_zero m i
  zero_held u a b ea eb =
      ap₂ (λ (x y : Bool). (eqb i.tag 2 && x) || (eqb i.tag 3 && y)) ea eb
      ∙ sym (ap (λ (g : Bool). (g && eqb i.mode 0) || (eqb i.tag 2 && holds_zero m.a) || (eqb i.tag 3 && holds_zero m.b)) (ne_eqb i.tag 1 u))

  -- ---- the move

  abbrev unmoved : Bool
  unmoved = eqb i.flip 0 && eqb i.code 0

  -- what is asked beside it
  abbrev leaves : Bool
  leaves = not (staying_kind i.kind) || (touches i && not (mode_zero m i))

  pub moved-breaks : not unmoved ≡ true → true ≡ breaks m i
  unfolding breaks
  moved-breaks e = go leaves (eqb i.flip 0) (eqb i.code 0) e
    where
      go : (p f c : Bool) → not (f && c) ≡ true → true ≡ ((p || not f) || not c)
      go true f c e = refl
      go false false c e = refl
      go false true false e = refl
      go false true true e = absurd (false≢true e)

  still : not unmoved ≡ false → leaves ≡ breaks m i
  unfolding breaks
  still e = go leaves (eqb i.flip 0) (eqb i.code 0) e
    where
      go : (p f c : Bool) → not (f && c) ≡ false → p ≡ ((p || not f) || not c)
      go p false c e = absurd (true≢false e)
      go p true false e = absurd (true≢false e)
      go true true true e = refl
      go false true true e = refl

  -- ---- the kind, and the access

  module _ (e : not unmoved ≡ false) where
    pub kind-breaks : 3 < i.kind → not (eqb i.kind 6) ≡ breaks m i
    kind-breaks h = go (ℕ_discrete i.kind 6) ∙ still e
      where
        none : (s z : Bool) → false ≡ ((s && false) && z)
        none true z = refl
        none false z = refl

        go : Dec (i.kind ≡ 6) → not (eqb i.kind 6) ≡ leaves
        go (yes q) =
            ap (λ (k : ℕ). not (eqb k 6)) q
            ∙ none (eqb i.source 0) (not (mode_zero m i))
            ∙ sym (ap (λ (k : ℕ). not (staying_kind k) || (((eqb k 2 || eqb k 3) || (eqb i.source 0 && (eqb k 0 || eqb k 1 || eqb k 4))) && not (mode_zero m i))) q)
        go (no u) =
            ap not (ne_eqb i.kind 6 u)
            ∙ sym (ap₂ (λ (x y : Bool). not (x || y) || (touches i && not (mode_zero m i))) (le-ltb i.kind 4 (omega arith)) (ne_eqb i.kind 6 u))

    -- kinds 0 to 3 stay, so that the access decides
    stays : i.kind ≤ 3 → (touches i && not (mode_zero m i)) ≡ breaks m i
    stays h = sym (ap (λ (x : Bool). not (x || eqb i.kind 6) || (touches i && not (mode_zero m i))) (lt-ltb i.kind 4 (omega arith))) ∙ still e

    -- logic and set M from a register have none
    abbrev idle : Bool
    idle = ltb i.kind 2 && not (eqb i.source 0)

    touching : i.kind ≤ 3 → touches i ≡ not idle
    touching h = go i.kind (eqb i.source 0) h
      where
        go : (k : ℕ) (s : Bool) → k ≤ 3 → ((eqb k 2 || eqb k 3) || (s && (eqb k 0 || eqb k 1 || eqb k 4))) ≡ not (ltb k 2 && not s)
        go zero true h = refl
        go zero false h = refl
        go (suc zero) true h = refl
        go (suc zero) false h = refl
        go (suc (suc zero)) s h = refl
        go (suc (suc (suc zero))) s h = refl
        go (suc (suc (suc (suc k)))) s h = absurd (omega arith)

    pub idle-keeps : i.kind ≤ 3 → idle ≡ true → false ≡ breaks m i
    idle-keeps h t = sym (ap (λ (x : Bool). x && not (mode_zero m i)) (touching h ∙ ap not t)) ∙ stays h

    pub access-breaks : i.kind ≤ 3 → idle ≡ false → (z : Bool) → z ≡ mode_zero m i → not z ≡ breaks m i
    access-breaks h t z e = ap not e ∙ sym (ap (λ (x : Bool). x && not (mode_zero m i)) (touching h ∙ ap not t)) ∙ stays h
