-- The mode registers in a list: which count as set, that an instruction without a number uses none that is not, and that those which 15 does not refuse stay so. Assumes nothing.
use mathlib.Core.Path.{◌≡◌, refl, sym, ap, ◌∙◌}
use mathlib.Core.Bool.{Bool, true, false, cond, not, ◌&&◌, ◌||◌}
use mathlib.Core.List.{List}
use mathlib.Core.Logic.{◌↔◌, ◌⊎◌, inl, inr}
use Prim.Native.Nat.{ℕ, zero, suc, ◌<◌, ◌≤◌}
use native.Mathlib.Decide.{ℕ_discrete}
use native.Mathlib.Omega.{arith}
use lib.Dec.{eqb}
use borrow.Author.Tests.{eqb-true, eqb-false, eq-eqb, ne_eqb, ltb-false, not-false}
use Rattle.bits.proofs.Rows.{taken, or-none, and_none}
use Rattle.registers.specs.declared.ModeRegister.{ModeRegister}
use Rattle.registers.specs.declared.Modes.{Modes}
use Rattle.registers.specs.Modes.{wrong_register, wrong_modes}
use Rattle.judge.specs.declared.Instruction.{Instruction}
use Rattle.judge.specs.declared.modes.Settled.{Settled}
use Rattle.judge.specs.Instructions.{instruction_at, touches}
use Rattle.judge.specs.Modes.{modes_by, modes_after, SetBefore, mode_of, NamesSet}
use Rattle.judge.specs.Judge.{lacks_tag, wrong_tag, idle_tag, unset_mode, instruction_rows, fault_of}
use Rattle.judge.specs.Steps.{settled_by}
use Rattle.judge.proofs.ByteRowLaws.{condition_at, condition-off}
use Rattle.judge.proofs.Numbers.{unfaulted}

-- ---- which count as set

-- the register of a tag, where kind 6 with that tag sets it and no other instruction changes it
module _ (register : Modes → ModeRegister) (tag : ℕ)
    (sets : (i : Instruction) (m : Modes) → i.kind ≡ 6 → i.tag ≡ tag → (register (modes_by i m)).set ≡ 1)
    (keeps : (i : Instruction) (m : Modes) → (i.kind ≡ 6 → i.tag ≡ tag → ⊥) → register (modes_by i m) ≡ register m)
    (list : List ℕ) (m : Modes) where
  abbrev Before : ℕ → Type 0
  Before = SetBefore list tag

  later : (k : ℕ) → ((register m).set ≡ 1) ⊎ Before k → ((register m).set ≡ 1) ⊎ Before (suc k)
  later k (inl e) = inl e
  later k (inr (j, h, f, t)) = inr (j, omega arith, f, t)

  -- whether an instruction sets it
  either : (i : Instruction) → Dec ((i.kind ≡ 6) × (i.tag ≡ tag))
  either i = go (ℕ_discrete i.kind 6) (ℕ_discrete i.tag tag)
    where
      go : Dec (i.kind ≡ 6) → Dec (i.tag ≡ tag) → Dec ((i.kind ≡ 6) × (i.tag ≡ tag))
      go (yes e) (yes f) = yes (e, f)
      go (yes e) (no v) = no (λ p. v p.1)
      go (no u) d = no (λ p. u p.0)

  why : (k : ℕ) → (register (modes_after list m k)).set ≡ 1 → ((register m).set ≡ 1) ⊎ Before k
  unfolding modes_after
  why zero e = inl e
  why (suc k) e = go (either (instruction_at list k)) (why k)
    where
      go : Dec (((instruction_at list k).kind ≡ 6) × ((instruction_at list k).tag ≡ tag))
          → ((register (modes_after list m k)).set ≡ 1 → ((register m).set ≡ 1) ⊎ Before k) → ((register m).set ≡ 1) ⊎ Before (suc k)
      go (yes (f, t)) ih = inr (k, omega arith, f, t)
      go (no u) ih =
          later k (ih (sym (ap (λ (r : ModeRegister). r.set) (keeps (instruction_at list k) (modes_after list m k) (λ f t. u (f, t)))) ∙ e))

  stays : (k : ℕ) → (register (modes_after list m k)).set ≡ 1 → (register (modes_after list m (suc k))).set ≡ 1
  unfolding modes_after
  stays k e = go (either (instruction_at list k))
    where
      go : Dec (((instruction_at list k).kind ≡ 6) × ((instruction_at list k).tag ≡ tag)) → (register (modes_by (instruction_at list k) (modes_after list m k))).set ≡ 1
      go (yes (f, t)) = sets (instruction_at list k) (modes_after list m k) f t
      go (no u) = ap (λ (r : ModeRegister). r.set) (keeps (instruction_at list k) (modes_after list m k) (λ f t. u (f, t))) ∙ e

  from : (k : ℕ) → ((register m).set ≡ 1) ⊎ Before k → (register (modes_after list m k)).set ≡ 1
  unfolding modes_after
  from zero (inl e) = e
  from zero (inr (j, h, f, t)) = absurd (omega arith)
  from (suc k) (inl e) = stays k (from k (inl e))
  from (suc k) (inr (j, h, f, t)) = go (ℕ_discrete j k) (λ l. from k (inr (j, l, f, t)))
    where
      go : Dec (j ≡ k) → (j < k → (register (modes_after list m k)).set ≡ 1) → (register (modes_after list m (suc k))).set ≡ 1
      go (yes e) ih =
          sets (instruction_at list k) (modes_after list m k) (ap (λ (x : ℕ). (instruction_at list x).kind) (sym e) ∙ f) (ap (λ (x : ℕ). (instruction_at list x).tag) (sym e) ∙ t)
      go (no u) ih = stays k (ih (omega arith))

  counts : (k : ℕ) → ((register (modes_after list m k)).set ≡ 1) ↔ (((register m).set ≡ 1) ⊎ Before k)
  counts k = (why k, from k)

sets-A : (i : Instruction) (m : Modes) → i.kind ≡ 6 → i.tag ≡ 2 → (modes_by i m).a.set ≡ 1
sets-A i m e t = simp (eq-eqb i.kind 6 e, eq-eqb i.tag 2 t)

sets-B : (i : Instruction) (m : Modes) → i.kind ≡ 6 → i.tag ≡ 3 → (modes_by i m).b.set ≡ 1
sets-B i m e t = simp (eq-eqb i.kind 6 e, ap (λ (x : ℕ). eqb x 2) t, ap (λ (x : ℕ). eqb x 3) t)

-- what kind 6 with a tag leaves of the other register, and any other instruction of both
module _ (i : Instruction) (m : Modes) where
  abbrev by_tests : Bool → Bool → Bool → Modes
  by_tests six two three =
      cond (six && two) (record { a = record { set = 1; mode = i.mode }; b = m.b }) (cond (six && three) (record { a = m.a; b = record { set = 1; mode = i.mode } }) m)

  keeps-A : (i.kind ≡ 6 → i.tag ≡ 2 → ⊥) → (modes_by i m).a ≡ m.a
  keeps-A u = go (eqb i.kind 6) (eqb i.tag 2) (eqb i.tag 3) refl refl
    where
      go : (six two three : Bool) → eqb i.kind 6 ≡ six → eqb i.tag 2 ≡ two → (by_tests six two three).a ≡ m.a
      go true true three e f = absurd (u (eqb-true i.kind 6 e) (eqb-true i.tag 2 f))
      go true false true e f = refl
      go true false false e f = refl
      go false two three e f = refl

  keeps-B : (i.kind ≡ 6 → i.tag ≡ 3 → ⊥) → (modes_by i m).b ≡ m.b
  keeps-B u = go (eqb i.kind 6) (eqb i.tag 2) (eqb i.tag 3) refl refl
    where
      go : (six two three : Bool) → eqb i.kind 6 ≡ six → eqb i.tag 3 ≡ three → (by_tests six two three).b ≡ m.b
      go true true three e f = refl
      go true false true e f = absurd (u (eqb-true i.kind 6 e) (eqb-true i.tag 3 f))
      go true false false e f = refl
      go false two three e f = refl

-- an instruction that is not of kind 6 leaves both
pub other-kind : (i : Instruction) (m : Modes) → (i.kind ≡ 6 → ⊥) → modes_by i m ≡ m
other-kind i m u = λ j. record { a = keeps-A i m (λ e t. u e) j; b = keeps-B i m (λ e t. u e) j }

-- so does one whose tag is at most 1, and its mode is its byte 3
pub untagged : (i : Instruction) (m : Modes) → i.tag ≤ 1 → ◌≡◌ {A = Settled} (record { mode = i.mode; modes = m }) (settled_by i m)
untagged i m h = λ j. record { mode = given j; modes = record { a = sym (keeps-A i m (λ e t. omega arith)) j; b = sym (keeps-B i m (λ e t. omega arith)) j } }
  where
    given : i.mode ≡ mode_of m i
    given = sym (simp (ne_eqb i.tag 2 (λ e. omega arith), ne_eqb i.tag 3 (λ e. omega arith)))

module _ (list : List ℕ) (m : Modes) where
  pub counts-A : (k : ℕ) → ((modes_after list m k).a.set ≡ 1) ↔ ((m.a.set ≡ 1) ⊎ SetBefore list 2 k)
  counts-A = counts (λ x. x.a) 2 sets-A keeps-A list m

  pub counts-B : (k : ℕ) → ((modes_after list m k).b.set ≡ 1) ↔ ((m.b.set ≡ 1) ⊎ SetBefore list 3 k)
  counts-B = counts (λ x. x.b) 3 sets-B keeps-B list m

-- ---- an instruction without a number uses a register that is set

module _ (m : Modes) (i : Instruction) (good : (fault_of m i).number ≡ 0) where
  off : (n b : ℕ) → condition_at (instruction_rows m i) n b ≡ false
  off = condition-off (instruction_rows m i) ((unfaulted m i).0 good)

  -- where it touches memory
  touching : touches i ≡ true → NamesSet m i
  unfolding unset_mode
  touching t =
      let none = or-none _ _ (and_none _ _ (off 14 2) t) in (
        λ e. eqb-true m.a.set 1 (not-false _ (and_none _ _ none.0 (eq-eqb i.tag 2 e))),
        λ e. eqb-true m.b.set 1 (not-false _ (and_none _ _ none.1 (eq-eqb i.tag 3 e))),
      )

  -- one that has a tag touches memory, or is of kind 6
  tag-touches : (i.kind ≡ 6 → ⊥) → (i.tag ≡ 0 → ⊥) → touches i ≡ true
  unfolding idle_tag
  tag-touches u v = go (touches i) refl (off 9 2)
    where
      go : (b : Bool) → touches i ≡ b → (not (b || eqb i.kind 6) && not (eqb i.tag 0)) ≡ false → touches i ≡ true
      go true e q = e
      go false e q = absurd (v (eqb-true i.tag 0 (not-false _ (and_none _ _ q (ap not (ne_eqb i.kind 6 u))))))

  pub uses-set : (i.kind ≡ 6 → ⊥) → NamesSet m i
  uses-set u = (
    λ e. (touching (tag-touches u (λ z. omega arith))).0 e,
    λ e. (touching (tag-touches u (λ z. omega arith))).1 e,
  )

  -- and every access has a mode that somebody gave
  pub mode-given : touches i ≡ true → (i.tag ≡ 1) ⊎ ((i.tag ≡ 2) × (m.a.set ≡ 1)) ⊎ ((i.tag ≡ 3) × (m.b.set ≡ 1))
  unfolding lacks_tag wrong_tag
  mode-given t = go (ℕ_discrete i.tag 1) (ℕ_discrete i.tag 2) (ℕ_discrete i.tag 3)
    where
      needs : (touches i || eqb i.kind 6) ≡ true
      needs = ap (λ (b : Bool). b || eqb i.kind 6) t

      some : i.tag ≡ 0 → ⊥
      some = eqb-false i.tag 0 (and_none _ _ (off 7 2) needs)

      few : i.tag ≤ 3
      few = ltb-false 3 i.tag (and_none _ _ (or-none _ _ (off 8 2)).0 needs)

      go : Dec (i.tag ≡ 1) → Dec (i.tag ≡ 2) → Dec (i.tag ≡ 3) → (i.tag ≡ 1) ⊎ ((i.tag ≡ 2) × (m.a.set ≡ 1)) ⊎ ((i.tag ≡ 3) × (m.b.set ≡ 1))
      go (yes e) d f = inl e
      go (no u) (yes e) f = inr (inl (e, (touching t).0 e))
      go (no u) (no v) (yes e) = inr (inr (e, (touching t).1 e))
      go (no u) (no v) (no w) = absurd (some (omega (arith, few)))

-- ---- those that 15 does not refuse stay so

right_by : (i : Instruction) (m : Modes) → wrong_modes m ≡ false → wrong_modes (modes_by i m) ≡ false
unfolding wrong_modes
right_by i m e =
    taken (λ (x : Modes). wrong_modes x ≡ false) _ _ (eqb i.kind 6 && eqb i.tag 2) (or-none (wrong_register m.a) (wrong_register m.b) e).1
    (taken (λ (x : Modes). wrong_modes x ≡ false) _ m (eqb i.kind 6 && eqb i.tag 3) (ap (λ (b : Bool). b || false) (or-none (wrong_register m.a) (wrong_register m.b) e).0) e)

pub right-after : (list : List ℕ) (m : Modes) (k : ℕ) → wrong_modes m ≡ false → wrong_modes (modes_after list m k) ≡ false
unfolding modes_after
right-after list m zero e = e
right-after list m (suc k) e = right_by (instruction_at list k) (modes_after list m k) (right-after list m k e)
