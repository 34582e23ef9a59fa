-- A run, from what its parts leave: one instruction more, the two ends of a judged list, and the mode registers that are left. Assumes nothing.
use mathlib.Core.Path.{◌≡◌, refl, sym, ap, ap₂, subst, ◌∙◌}
use mathlib.Core.Bool.{Bool, false, cond}
use mathlib.Core.List.{List}
use Prim.Native.Nat.{ℕ, zero, suc, ◌+◌, ◌/◌, ◌<◌}
use native.Mathlib.Numerals.{add-one}
use native.Mathlib.Decide.{ℕ_discrete}
use native.Mathlib.Omega.{arith}
use lib.ListN.{length}
use borrow.Author.Tests.{eq-eqb, ne_eqb}
use Rattle.bits.specs.Search.{count}
use Rattle.bits.proofs.Search.{count-more, count-le}
use Rattle.registers.specs.declared.Modes.{Modes}
use Rattle.registers.specs.declared.Registers.{Registers}
use Rattle.registers.specs.Modes.{modes_of, wrong_modes}
use Rattle.registers.specs.Rows.{registers_of, bytes_of}
use Rattle.judge.specs.declared.Instruction.{Instruction}
use Rattle.judge.specs.Answers.{Answer}
use Rattle.judge.specs.Instructions.{instruction_at, takes, gives}
use Rattle.judge.specs.Modes.{modes_by, modes_after}
use Rattle.judge.specs.Judge.{fault_of, run_rows, judged}
use Rattle.judge.specs.Steps.{Accepted}
use Rattle.judge.proofs.Accepted.{well-formed, run-accepted, run-registers, run-modes, run-done}
use Rattle.judge.proofs.Numbers.{refusal-counts}
use Rattle.judge.proofs.ModeLaws.{right-after}
use Rattle.module.specs.Act.{State, acted}
use Rattle.module.specs.Ready.{Ready}
use Rattle.module.specs.Run.{Lent, Left, unmoved, run_lengths, step_lengths, begun, ran_by, ran_all, ran}
use Rattle.module.proofs.ActLaws.{modes-acted}
use Rattle.registers.proofs.RowLaws.{modes-bytes, bytes-registers}

-- how many of the first k instructions want one
abbrev pub used_by : (Instruction → Bool) → List ℕ → ℕ → ℕ
used_by wants list k = count (λ j. wants (instruction_at list j)) k

-- ---- one instruction more

module _ (list items : List ℕ) (k : ℕ) (i : Instruction) (decoded : i ≡ instruction_at list k) (s t : State) (done : t ≡ acted i items s) where
  pub more-run : (start : State) → s ≡ ran_by list items start k → t ≡ ran_by list items start (k + 1)
  unfolding ran_by
  more-run start e = done ∙ ap₂ (λ (j : Instruction) (x : State). acted j items x) decoded e ∙ sym (ap (ran_by list items start) (add-one k))

  pub more-taken : s.taken ≡ used_by takes list k → t.taken ≡ used_by takes list (k + 1)
  unfolding acted
  more-taken e =
      ap (λ (x : State). x.taken) done
      ∙ ap₂ (λ (n : ℕ) (j : Instruction). n + cond (takes j) 1 0) e decoded
      ∙ sym (count-more (λ j. takes (instruction_at list j)) k)

  pub more_given : s.given ≡ used_by gives list k → t.given ≡ used_by gives list (k + 1)
  unfolding acted
  more_given e =
      ap (λ (x : State). x.given) done
      ∙ ap₂ (λ (n : ℕ) (j : Instruction). n + cond (gives j) 1 0) e decoded
      ∙ sym (count-more (λ j. gives (instruction_at list j)) k)

-- ---- the mode registers

-- after k instructions a run has those of the list's fold
pub modes-ran : (list items : List ℕ) (s : State) (k : ℕ) → (ran_by list items s k).regs.modes ≡ modes_after list s.regs.modes k
unfolding ran_by modes_after
modes-ran list items s zero = refl
modes-ran list items s (suc k) = modes-acted (instruction_at list k) items (ran_by list items s k) ∙ ap (modes_by (instruction_at list k)) (modes-ran list items s k)

-- the judge has seen to what instruction k needs
pub ready_at : (l : Lent Registers) (mem out : List ℕ) (k : ℕ) (m : Modes) (i : Instruction) (taken given : ℕ)
    → Accepted (step_lengths l) l.registers.modes l.list → k < length l.list / 8 → i ≡ instruction_at l.list k
    → length mem ≡ length l.memory → length out ≡ length l.out → taken ≡ used_by takes l.list k → given ≡ used_by gives l.list k
    → m ≡ modes_after l.list l.registers.modes k
    → Ready mem l.items out i taken given
ready_at l mem out k m i taken given fit h e em eo et eg er =
    let list = l.list in
    let size = fit.size in
    let w = well-formed m i (ap₂ (λ (x : Modes) (y : Instruction). (fault_of x y).number) er e ∙ fit.formed k h) in
    record {
      memory = em ∙ fit.memory;
      kind = w.kind;
      source = w.source;
      untaken = w.untaken;
      code = w.code;
      logic = w.logic;
      supplied = λ t. let r = fit.supplied k h (sym (ap takes e) ∙ t) in omega arith;
      roomy = λ t. let r = fit.roomy k h (sym (ap gives e) ∙ t) in omega arith;
      few-taken = let n = count-le (λ j. takes (instruction_at list j)) k in omega arith;
      few-given = let n = count-le (λ j. gives (instruction_at list j)) k in omega arith;
    }

-- ---- a run

module _ (l : Lent (List ℕ)) (a : Answer) (judge : a ≡ judged (run_lengths l) (modes_of l.registers) l.list) where
  number_is : a.number ≡ 0 → (judged (run_lengths l) (modes_of l.registers) l.list).number ≡ 0
  number_is h = sym (ap (λ (x : Answer). x.number) judge) ∙ h

  pub registers-long : a.number ≡ 0 → length l.registers ≡ 100
  registers-long h = run-registers (run_lengths l) (modes_of l.registers) l.list (number_is h)

  -- the list is accepted with a record in the place of the bytes
  pub list-accepted : a.number ≡ 0 → (r : Registers) → r ≡ registers_of l.registers
      → Accepted (step_lengths (record { memory = l.memory; registers = r; list = l.list; items = l.items; out = l.out })) r.modes l.list
  list-accepted h r e =
      subst (λ (q : Registers). Accepted (step_lengths (record { memory = l.memory; registers = r; list = l.list; items = l.items; out = l.out })) q.modes l.list) (sym e)
      (subst (λ (n : ℕ). Accepted (record { memory = length l.memory; registers = n; items = length l.items; out = length l.out }) (modes_of l.registers) l.list)
      (registers-long h) (run-accepted (run_lengths l) (modes_of l.registers) l.list (number_is h)))

  pub ran-done : a.number ≡ 0 → (r : Registers) (s : State) (w : List ℕ) → r ≡ registers_of l.registers → s ≡ ran_all l r → w ≡ bytes_of s.regs
      → ◌≡◌ {A = Left (List ℕ) Answer} (record { memory = s.mem; registers = w; out = s.out; answer = a }) (ran l)
  unfolding ran
  ran-done h r s w er es ew =
      ap (λ (z : List ℕ). record { memory = s.mem; registers = z; out = s.out; answer = a }) ew
      ∙ ap₂ (λ (x : State) (b : Answer). record { memory = x.mem; registers = bytes_of x.regs; out = x.out; answer = b })
      (es ∙ ap (ran_all l) er) judge
      ∙ simp (eq-eqb _ _ (number_is h))

  pub ran-refused : (a.number ≡ 0 → ⊥) → unmoved l a ≡ ran l
  unfolding ran
  ran-refused h = ap (unmoved l) judge ∙ simp (ne_eqb _ _ (λ q. h (ap (λ (x : Answer). x.number) judge ∙ q)))

  -- a run that has steps is done
  pub steps-done : (a.steps ≡ 0 → ⊥) → a.number ≡ 0
  steps-done u = go (ℕ_discrete a.number 0)
    where
      go : Dec (a.number ≡ 0) → a.number ≡ 0
      go (yes z) = z
      go (no v) =
          absurd (u (ap (λ (x : Answer). x.steps) (judge
          ∙ refusal-counts (run_rows (run_lengths l) (modes_of l.registers) l.list) (run_lengths l) (modes_of l.registers) l.list refl (λ z. v (ap (λ (x : Answer). x.number) judge ∙ z)))))

  -- and one that has none leaves every buffer: it is refused, or its list is empty
  pub ran-still : a.steps ≡ 0 → unmoved l a ≡ ran l
  unfolding ran_by
  ran-still z = go (ℕ_discrete a.number 0)
    where
      go : Dec (a.number ≡ 0) → unmoved l a ≡ ran l
      go (no u) = ran-refused u
      go (yes e) =
          let none : 0 ≡ length l.list / 8 = sym z ∙ ap (λ (x : Answer). x.steps) (judge ∙ run-done (run_lengths l) (modes_of l.registers) l.list (number_is e)) in
          let start : State = begun l (registers_of l.registers) in
          ran-done e (registers_of l.registers) start l.registers refl (ap (ran_by l.list l.items start) none)
          (sym (bytes-registers l.registers (registers-long e)))

-- the answer is the judge's, of the lengths, the mode registers and the list alone
pub ran-answer : (l : Lent (List ℕ)) → (ran l).answer ≡ judged (run_lengths l) (modes_of l.registers) l.list
ran-answer l = go (ℕ_discrete a.number 0)
  where
    a : Answer
    a = judged (run_lengths l) (modes_of l.registers) l.list

    s : State
    s = ran_all l (registers_of l.registers)

    go : Dec (a.number ≡ 0) → (ran l).answer ≡ a
    go (yes z) =
        sym (ap (λ (x : Left (List ℕ) Answer). x.answer) (ran-done l a refl z (registers_of l.registers) s (bytes_of s.regs) refl refl refl))
    go (no u) = sym (ap (λ (x : Left (List ℕ) Answer). x.answer) (ran-refused l a refl u))

-- ---- a run that is done, by its answer

module _ (l : Lent (List ℕ)) (z : (ran l).answer.number ≡ 0) where
  -- the state that it ends in
  abbrev pub ended : State
  ended = ran_all l (registers_of l.registers)

  pub judged-done : (judged (run_lengths l) (modes_of l.registers) l.list).number ≡ 0
  judged-done = sym (ap (λ (a : Answer). a.number) (ran-answer l)) ∙ z

  pub ran-ended : ◌≡◌ {A = Left (List ℕ) Answer}
      (record { memory = ended.mem; registers = bytes_of ended.regs; out = ended.out; answer = judged (run_lengths l) (modes_of l.registers) l.list }) (ran l)
  ran-ended = ran-done l (judged (run_lengths l) (modes_of l.registers) l.list) refl judged-done (registers_of l.registers) ended (bytes_of ended.regs) refl refl refl

  -- the mode registers that it leaves are never such as 15 refuses
  pub modes-right : length (ran l).registers ≡ 100 → wrong_modes (modes_of (ran l).registers) ≡ false
  modes-right n =
      let left : bytes_of ended.regs ≡ (ran l).registers = ap (λ (x : Left (List ℕ) Answer). x.registers) ran-ended in
      let k = length l.list / 8 in
      sym (ap (λ (x : List ℕ). wrong_modes (modes_of x)) left)
      ∙ ap wrong_modes (modes-bytes ended.regs (ap length left ∙ n) ∙ modes-ran l.list l.items (begun l (registers_of l.registers)) k)
      ∙ right-after l.list (modes_of l.registers) k (run-modes (run_lengths l) (modes_of l.registers) l.list judged-done)
