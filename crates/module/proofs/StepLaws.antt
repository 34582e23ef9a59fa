-- A step, from what its parts leave; and the theorem that a step is a run of its one instruction. Assumes nothing.
use mathlib.Core.Path.{◌≡◌, refl, sym, ap, ap₂, ◌∙◌}
use mathlib.Core.Bool.{Bool, true, false, cond}
use mathlib.Core.List.{List}
use Prim.Native.Nat.{ℕ}
use native.Mathlib.Decide.{ℕ_discrete}
use native.Mathlib.Omega.{arith}
use lib.Dec.{eqb}
use lib.ListN.{length}
use borrow.Author.Tests.{eq-eqb, ne_eqb}
use Rattle.registers.specs.declared.Registers.{Registers}
use Rattle.registers.specs.Rows.{bytes_of}
use Rattle.std.specs.Prelude.{Result, Ok, Err}
use Rattle.std.specs.Result.{IsErrAnd}
use Rattle.judge.specs.declared.Refused.{Refused}
use Rattle.judge.specs.Answers.{Answer, answer_of}
use Rattle.module.specs.declared.Stepped.{Stepped}
use Rattle.module.specs.Left.{left_by}
use Rattle.judge.specs.Judge.{refusal, judged, judged_step}
use Rattle.judge.specs.Steps.{Accepted}
use Rattle.judge.proofs.Accepted.{step-accepted, step-as-run, step-unlike}
use Rattle.module.specs.Act.{State}
use Rattle.module.specs.Run.{Lent, Left, unmoved, step_lengths, ran_all, ran, stepped, lent_bytes, left_bytes}
use Rattle.registers.proofs.RowLaws.{registers-bytes, length-bytes}

module _ (l : Lent Registers) (a : Answer) (judge : a ≡ judged_step (step_lengths l) l.registers.modes l.list) where
  pub instruction-accepted : a.number ≡ 0 → Accepted (step_lengths l) l.registers.modes l.list
  instruction-accepted h = step-accepted (step_lengths l) l.registers.modes l.list (sym (ap (λ (x : Answer). x.number) judge) ∙ h)

  pub stepped-done : a.number ≡ 0 → (s : State) → s ≡ ran_all l l.registers
      → ◌≡◌ {A = Left Registers Answer} (record { memory = s.mem; registers = s.regs; out = s.out; answer = a }) (stepped l)
  unfolding stepped
  stepped-done h s e =
      ap₂ (λ (x : State) (b : Answer). record { memory = x.mem; registers = x.regs; out = x.out; answer = b }) e judge
      ∙ simp (eq-eqb _ _ (sym (ap (λ (x : Answer). x.number) judge) ∙ h))

  pub stepped-refused : (a.number ≡ 0 → ⊥) → unmoved l a ≡ stepped l
  unfolding stepped
  stepped-refused h = ap (unmoved l) judge ∙ simp (ne_eqb _ _ (λ q. h (ap (λ (x : Answer). x.number) judge ∙ q)))

-- the answer is the judge's, of the lengths, the mode registers and the instruction alone
pub stepped-answer : (l : Lent Registers) → (stepped l).answer ≡ judged_step (step_lengths l) l.registers.modes l.list
stepped-answer l = go (ℕ_discrete a.number 0)
  where
    a : Answer
    a = judged_step (step_lengths l) l.registers.modes l.list

    go : Dec (a.number ≡ 0) → (stepped l).answer ≡ a
    go (yes z) = sym (ap (λ (x : Left Registers Answer). x.answer) (stepped-done l a refl z (ran_all l l.registers) refl))
    go (no u) = sym (ap (λ (x : Left Registers Answer). x.answer) (stepped-refused l a refl u))

-- a record that is stored only where the answer is done is the step's: a refused step leaves it
pub stored-if-done : (l : Lent Registers) (u : Left Registers Answer) → u ≡ stepped l
    → ◌≡◌ {A = Left Registers Answer}
    (record { memory = u.memory; registers = cond (eqb u.answer.number 0) u.registers l.registers; out = u.out; answer = u.answer })
    (stepped l)
stored-if-done l u e =
    ap (λ (q : Registers). record { memory = u.memory; registers = q; out = u.out; answer = u.answer }) (sym (go (ℕ_discrete u.answer.number 0))) ∙ e
  where
    same : u.answer ≡ judged_step (step_lengths l) l.registers.modes l.list
    same = ap (λ (x : Left Registers Answer). x.answer) e ∙ stepped-answer l

    go : Dec (u.answer.number ≡ 0) → u.registers ≡ cond (eqb u.answer.number 0) u.registers l.registers
    go (yes z) = simp (eq-eqb _ _ z)
    go (no n) =
        ap (λ (x : Left Registers Answer). x.registers) (e ∙ sym (stepped-refused l u.answer same n))
        ∙ simp (ne_eqb _ _ n)

-- ---- "A step answers, refuses and leaves its buffers as a run of a list of that one instruction does."

module _ (l : Lent Registers) where
  -- an instruction of 8 bytes
  pub step-is-run : length l.registers.m ≡ 32 → length l.registers.x ≡ 32 → length l.registers.y ≡ 32 → length l.list ≡ 8
      → ran (lent_bytes l) ≡ left_bytes (stepped l)
  unfolding ran stepped
  step-is-run hm hx hy h =
      ap₂ (λ (a : Answer) (q : Registers). left (eqb a.number 0) a q)
      (ap₂ (λ (n : ℕ) (q : Registers). judged (record { memory = length l.memory; registers = n; items = length l.items; out = length l.out }) q.modes l.list)
      (length-bytes l.registers hm hx hy) (registers-bytes l.registers hm hx hy)
      ∙ sym (step-as-run (step_lengths l) l.registers.modes l.list refl h))
      (registers-bytes l.registers hm hx hy)
      ∙ split (eqb b.number 0) b
    where
      b : Answer
      b = judged_step (step_lengths l) l.registers.modes l.list

      left : Bool → Answer → Registers → Left (List ℕ) Answer
      left t a q =
          cond t (record { memory = (ran_all l q).mem; registers = bytes_of (ran_all l q).regs; out = (ran_all l q).out; answer = a })
          (unmoved (lent_bytes l) a)

      split : (t : Bool) (a : Answer) → left t a l.registers
          ≡ left_bytes (cond t
          (record { memory = (ran_all l l.registers).mem; registers = (ran_all l l.registers).regs; out = (ran_all l l.registers).out; answer = a })
          (unmoved l a))
      split true a = refl
      split false a = refl

  -- an instruction of any other length is 3, unless the memory is wrong, which is 1; nothing changes
  pub step-not-eight : length l.memory ≡ 8192 → (length l.list ≡ 8 → ⊥) → stepped l ≡ unmoved l (refusal 3 0 0)
  step-not-eight e u =
      sym (stepped-refused l (refusal 3 0 0) (sym (step-unlike (step_lengths l) l.registers.modes l.list e u)) (λ z. omega arith))

-- ---- what a step by value leaves, where it is refused

pub left-refused : (r : Registers) (u : Result Stepped Refused) (e : Refused) (mem out : List ℕ) → IsErrAnd u (λ x. x ≡ e)
    → left_by r u mem out ≡ record { memory = mem; registers = r; out = out; answer = answer_of (Err e) }
left-refused r (Ok s) e mem out h = absurd h
left-refused r (Err x) e mem out h = ap (λ (y : Refused). record { memory = mem; registers = r; out = out; answer = answer_of (Err y) }) h
