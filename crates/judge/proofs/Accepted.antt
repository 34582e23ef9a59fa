-- What a run may rely on where the judge says done: an accepted list always finds its items and its room. Assumes nothing.
use mathlib.Core.Path.{◌≡◌, refl, ap, ◌∙◌}
use mathlib.Core.Bool.{Bool, true, false, cond, not, ◌&&◌, ◌||◌}
use mathlib.Core.List.{List}
use Prim.Native.Nat.{ℕ, zero, suc, ◌+◌, ◌*◌, ◌/◌, ◌<◌, ◌≤◌}
use native.Mathlib.Decide.{ℕ_discrete}
use native.Mathlib.Omega.{arith}
use lib.Dec.{eqb, ltb}
use lib.ListN.{length}
use borrow.Author.Tests.{eqb-true, eq-eqb, ne_eqb, ltb-false, not-false}
use Rattle.bits.specs.Rows.{Row, number_of, NoRow}
use Rattle.bits.proofs.Rows.{row-off, or-none, and_none}
use Rattle.bits.specs.Search.{count}
use Rattle.network.specs.Shifts.{permitted}
use Rattle.network.proofs.TableRules.{listed-none}
use Rattle.registers.specs.declared.Modes.{Modes}
use Rattle.registers.specs.Modes.{wrong_modes}
use Rattle.judge.specs.declared.Instruction.{Instruction}
use Rattle.judge.specs.declared.Lengths.{Lengths}
use Rattle.judge.specs.Instructions.{instruction_at, stores, takes, gives}
use Rattle.judge.specs.Modes.{modes_after}
use Rattle.judge.specs.Judge.{wrong_memory, wrong_registers, unfit, wrong_kind, wrong_source, barred_shift, wrong_logic, run_rows, step_rows, instruction_rows, fault_of, fault_at, refusal, done, or_else, judged_list, judged_by, judged, judged_step}
use Rattle.judge.specs.Steps.{Accepted}
use Rattle.judge.specs.Numbers.{Served, Unrefused}
use Rattle.judge.proofs.ByteRowLaws.{condition-off}
use Rattle.judge.proofs.RowLaws.{fit-whole, fit-size}
use Rattle.judge.proofs.Numbers.{unfaulted, done-is, unrefused}

-- ---- what a list relies on, from what is not refused

module _ (rows : List Row) (l : Lengths) (modes : Modes) (list : List ℕ) (memory : l.memory ≡ 8192) (fit : unfit 8 (length list) ≡ false) where
  accepted : Unrefused rows l modes list → Accepted l modes list
  accepted a =
      record {
        memory = memory;
        whole = fit-whole 8 (length list) fit;
        size = fit-size 8 (length list) fit;
        formed = λ k h. (unfaulted (modes_after list modes k) (instruction_at list k)).1 (a.formed k h);
        supplied = a.items;
        roomy = a.room;
      }

right-memory : (n : ℕ) → wrong_memory n ≡ false → n ≡ 8192
right-memory n e = eqb-true n 8192 (not-false (eqb n 8192) e)

-- ---- a run

module _ (l : Lengths) (modes : Modes) (list : List ℕ) where
  pub run-fit : NoRow (run_rows l modes list) → length list ≤ 32768
  run-fit r = fit-size 8 (length list) (row-off (run_rows l modes list) r 3)

  module _ (done0 : (judged l modes list).number ≡ 0) where
    why : Unrefused (run_rows l modes list) l modes list
    why = (unrefused (run_rows l modes list) l modes list refl).0 done0

    pub run-accepted : Accepted l modes list
    run-accepted =
        let off = row-off (run_rows l modes list) why.lent in
        accepted (run_rows l modes list) l modes list (right-memory l.memory (off 1)) (off 3) why

    pub run-registers : l.registers ≡ 100
    run-registers = eqb-true l.registers 100 (not-false (eqb l.registers 100) (row-off (run_rows l modes list) why.lent 2))

    pub run-modes : wrong_modes modes ≡ false
    run-modes = row-off (run_rows l modes list) why.lent 15

    pub run-done : judged l modes list ≡ done list
    run-done = done-is (run_rows l modes list) l modes list why

  -- and the other way: a list of which all this holds is done
  pub run-of : l.memory ≡ 8192 → l.registers ≡ 100 → unfit 8 (length list) ≡ false → unfit 32 l.items ≡ false → wrong_modes modes ≡ false
      → ((k : ℕ) → k < length list / 8 → (fault_at modes list k).number ≡ 0)
      → Served takes list l.items (length list / 8) → Served gives list l.out (length list / 8)
      → judged l modes list ≡ done list
  unfolding fault_of
  run-of m r fit items stands formed supplied roomy =
      done-is (run_rows l modes list) l modes list
      (record {
        lent = (ap (λ (n : ℕ). wrong_memory n) m, (ap (λ (n : ℕ). wrong_registers n) r, (fit, (items, (stands, tt)))));
        formed = λ k h. (unfaulted (modes_after list modes k) (instruction_at list k)).0 (formed k h);
        items = supplied;
        room = roomy;
      })

-- ---- a step: its instruction is 8 bytes, and accepted as a list of one

module _ (l : Lengths) (modes : Modes) (instruction : List ℕ) where
  step-eight-of : not (eqb (length instruction) 8) ≡ false → length instruction ≡ 8
  step-eight-of e = eqb-true (length instruction) 8 (not-false (eqb (length instruction) 8) e)

  pub step-fit : NoRow (step_rows l modes instruction) → length instruction ≤ 32768
  step-fit r = let e = step-eight-of (row-off (step_rows l modes instruction) r 3) in omega arith

  -- one of 8 bytes is judged as a run's list, where the register set is 100 bytes
  pub step-as-run : l.registers ≡ 100 → length instruction ≡ 8 → judged_step l modes instruction ≡ judged l modes instruction
  unfolding judged_by
  step-as-run r h =
      let same : number_of (step_rows l modes instruction) ≡ number_of (run_rows l modes instruction) =
      simp (eq-eqb (length instruction) 8 h, eq-eqb l.registers 100 r, ap (unfit 8) h) in
      ap (λ (n : ℕ). or_else (refusal n 0 0) (judged_list l modes instruction)) same

  -- one of another length is 3, after 1
  pub step-unlike : l.memory ≡ 8192 → (length instruction ≡ 8 → ⊥) → judged_step l modes instruction ≡ refusal 3 0 0
  unfolding judged_by
  step-unlike e u = simp (eq-eqb l.memory 8192 e, ne_eqb (length instruction) 8 u)

  module _ (done0 : (judged_step l modes instruction).number ≡ 0) where
    step-why : Unrefused (step_rows l modes instruction) l modes instruction
    step-why = (unrefused (step_rows l modes instruction) l modes instruction refl).0 done0

    pub step-eight : length instruction ≡ 8
    step-eight = step-eight-of (row-off (step_rows l modes instruction) step-why.lent 3)

    pub step-accepted : Accepted l modes instruction
    step-accepted =
        accepted (step_rows l modes instruction) l modes instruction (right-memory l.memory (row-off (step_rows l modes instruction) step-why.lent 1))
        (ap (unfit 8) step-eight) step-why

-- what the first k instructions use is there
pub count_fits : (wants : Instruction → Bool) (list : List ℕ) (have n : ℕ) → Served wants list have n
    → (k : ℕ) → k ≤ n → 32 * count (λ j. wants (instruction_at list j)) k ≤ have
unfolding count
count_fits wants list have n h zero l = omega arith
count_fits wants list have n h (suc k) l = go (wants (instruction_at list k)) refl (count_fits wants list have n h k (omega arith))
  where
    go : (w : Bool) → wants (instruction_at list k) ≡ w → 32 * count (λ j. wants (instruction_at list j)) k ≤ have
        → 32 * (count (λ j. wants (instruction_at list j)) k + cond w 1 0) ≤ have
    go true e ih = let f = h k (omega arith) e in omega arith
    go false e ih = omega arith

-- and so is what the whole list uses
pub items-fit : (l : Lengths) (modes : Modes) (list : List ℕ) → Accepted l modes list → 32 * (done list).taken ≤ l.items
items-fit l modes list a = count_fits takes list l.items (length list / 8) a.supplied (length list / 8) (omega arith)

pub room_fits : (l : Lengths) (modes : Modes) (list : List ℕ) → Accepted l modes list → 32 * (done list).given ≤ l.out
room_fits l modes list a = count_fits gives list l.out (length list / 8) a.roomy (length list / 8) (omega arith)

-- ---- an instruction without a number

pub record WellFormed (i : Instruction) : Type 0 where
  pub kind : i.kind ≤ 6
  pub source : i.source ≤ 4
  pub untaken : 4 < i.kind → takes i ≡ false
  pub code : permitted i.code ≡ true
  pub unshifted : stores i ≡ true → i.code ≡ 0
  pub logic : i.kind ≡ 0 → i.logic < 80

pub well-formed : (m : Modes) (i : Instruction) → (fault_of m i).number ≡ 0 → WellFormed i
unfolding wrong_kind wrong_source barred_shift wrong_logic
well-formed m i e =
    let off = condition-off (instruction_rows m i) ((unfaulted m i).0 e) in
    record {
      kind = ltb-false 6 i.kind (off 5 0);
      source = ltb-false 4 i.source (or-none _ _ (or-none _ _ (off 6 1)).0).0;
      untaken = none-taken i.kind i.source (ltb-false 6 i.kind (off 5 0)) (or-none (ltb 4 i.source || (stores i && eqb i.source 0)) _ (off 6 1)).1;
      code = (listed-none i.code).0 (off 16 6, (off 17 6, tt));
      unshifted = λ t. eqb-true i.code 0 (not-false (eqb i.code 0) (and_none _ _ (off 18 6) (ap (λ (b : Bool). b || eqb i.kind 5 || eqb i.kind 6) t)));
      logic = λ z. choice i.kind i.logic z (or-none _ _ (off 11 7)).0;
    }
  where
    -- kinds 5 and 6 have source 0
    none-taken : (k s : ℕ) → k ≤ 6 → ((eqb k 5 || eqb k 6) && not (eqb s 0)) ≡ false → 4 < k → eqb s 4 ≡ false
    none-taken k s most t h = go (ℕ_discrete k 5)
      where
        by : (n : ℕ) → k ≡ n → (eqb n 5 || eqb n 6) ≡ true → eqb s 4 ≡ false
        by n e q = ap (λ (x : ℕ). eqb x 4) (eqb-true s 0 (not-false (eqb s 0) (and_none _ _ t (ap (λ (x : ℕ). eqb x 5 || eqb x 6) e ∙ q))))

        go : Dec (k ≡ 5) → eqb s 4 ≡ false
        go (yes e) = by 5 e refl
        go (no u) = by 6 (omega arith) refl

    choice : (k l : ℕ) → k ≡ 0 → (eqb k 0 && ltb 4 (l / 16)) ≡ false → l < 80
    choice k l z t = let h = ltb-false 4 (l / 16) (and_none (eqb k 0) (ltb 4 (l / 16)) t (eq-eqb k 0 z)) in omega arith
