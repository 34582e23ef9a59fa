-- The run of a list of quiet instructions, which may take items, and of plain ones, which take none: the judge accepts it, and what it leaves is the fold of its instructions. Assumes nothing.
use mathlib.Core.Path.{◌≡◌, refl, sym, ap, ap₂, subst, ◌∙◌}
use mathlib.Core.Bool.{Bool, true, false, cond, not, ◌||◌, true≢false}
use mathlib.Core.List.{List, [], ◌∷◌, append-nil}
use Prim.Native.Nat.{ℕ, zero, suc, ◌+◌, ◌*◌, ◌/◌, ◌%◌, ◌<◌, ◌≤◌}
use native.Mathlib.Decide.{ℕ_discrete}
use native.Mathlib.Omega.{arith}
use borrow.Author.Tests.{eqb-true, eq-eqb, ltb-false, le-ltb, not-false}
use lib.Dec.{eqb, ltb}
use lib.ListN.{length}
use Rattle.bits.specs.Search.{count}
use Rattle.bits.proofs.Search.{count_none}
use Rattle.registers.specs.declared.Modes.{Modes}
use Rattle.registers.specs.Modes.{modes_of, wrong_modes}
use Rattle.registers.specs.Rows.{registers_of, bytes_of}
use Rattle.judge.specs.declared.Instruction.{Instruction}
use Rattle.judge.specs.declared.Lengths.{Lengths}
use Rattle.judge.specs.Answers.{Answer}
use Rattle.judge.specs.Instructions.{instruction_at, takes, gives}
use Rattle.judge.specs.Modes.{modes_by, modes_after}
use Rattle.judge.specs.Judge.{unfit, fault_of, judged}
use Rattle.judge.proofs.Accepted.{run-of}
use Rattle.bits.proofs.Rows.{or-none}
use Rattle.module.specs.Act.{State, passed_by, acted}
use Rattle.module.specs.Run.{Lent, Left, run_lengths, begun}
use Rattle.module.proofs.ActLaws.{no-out, modes-acted}
use Rattle.module.proofs.RunLaws.{ran-done}
use Rattle.builders.specs.Lists.{encoded, decoded, Each, none, more}
use Rattle.builders.proofs.ListLaws.{length-encoded, decoded-encoded}
use Rattle.builders.specs.Word.{folded, taken_by}
use Rattle.builders.proofs.Takes.{taken-decoded}
use Rattle.fields.specs.Line.{Local}
use Rattle.fields.specs.Value.{run_of}
use Rattle.builders.proofs.Folds.{each_at, each_map}
use Rattle.fields.proofs.LineLaws.{ran-folded}

-- An instruction that gives nothing and, whatever the mode registers hold, is not refused and leaves them.
pub record Quiet (i : Instruction) : Type 0 where
  pub gives_none : gives i ≡ false
  pub formed : (m : Modes) → (fault_of m i).number ≡ 0
  pub keeps-modes : (m : Modes) → modes_by i m ≡ m

-- One that also keeps to its line and takes nothing.
pub record Plain (i : Instruction) : Type 0 where
  pub local : (m : Modes) → Local m i
  pub takes_none : takes i ≡ false
  pub quiet : Quiet i

-- ---- counts

-- what holds at k is counted beyond those before it
count-beyond : (f : ℕ → Bool) (k n : ℕ) → k < n → f k ≡ true → count f k + 1 ≤ count f n
unfolding count
count-beyond f k zero h t = absurd (omega arith)
count-beyond f k (suc n) h t = go (ℕ_discrete k n) (λ l. count-beyond f k n l t)
  where
    go : Dec (k ≡ n) → (k < n → count f k + 1 ≤ count f n) → count f k + 1 ≤ count f n + cond (f n) 1 0
    go (yes e) ih =
        let q : cond {A = ℕ} (f n) 1 0 ≡ 1 = ap (λ (b : Bool). cond {A = ℕ} b 1 0) (ap f (sym e) ∙ t) in
        omega (arith, ap (count f) e)
    go (no u) ih = let r = ih (omega arith) in omega arith

-- ---- lengths that are not refused

fits : (unit n : ℕ) → n % unit ≡ 0 → n ≤ 32768 → unfit unit n ≡ false
fits unit n e h = ap₂ (λ (x y : Bool). not x || y) (eq-eqb (n % unit) 0 e) (le-ltb 32768 n h)

-- of items that stand behind n others
pub fits-behind : (n k : ℕ) → unfit 32 (32 * n + k) ≡ false → unfit 32 k ≡ false
fits-behind n k e =
    let h = or-none (not (eqb ((32 * n + k) % 32) 0)) (ltb 32768 (32 * n + k)) e in
    let whole = eqb-true ((32 * n + k) % 32) 0 (not-false (eqb ((32 * n + k) % 32) 0) h.0) in
    let small = ltb-false 32768 (32 * n + k) h.1 in
    fits 32 k (omega arith) (omega arith)

-- ---- a quiet list

-- what a run that gives nothing leaves, from the state at its end
abbrev pub left_by : Lent (List ℕ) → State → ℕ → ℕ → Left (List ℕ) Answer
left_by lent s steps taken =
    record {
      memory = s.mem;
      registers = bytes_of s.regs;
      out = lent.out;
      answer = record { number = 0; place = 0; byte = 0; steps = steps; taken = taken; given = 0 };
    }

-- nothing is put out
folded-out : (l : List Instruction) (items : List ℕ) (s : State) → Each Quiet l → (folded (λ i. acted i items) l s).out ≡ s.out
unfolding folded acted
folded-out [] items s none = refl
folded-out (i ∷ l) items s (more h e) =
    folded-out l items (acted i items s) e
    ∙ sym (no-out i s.out s.given (passed_by i s.mem items s.regs s.taken) s.regs.y h.gives_none)

-- and the mode registers are as before
pub folded-modes : (l : List Instruction) (items : List ℕ) (s : State) → Each Quiet l → (folded (λ i. acted i items) l s).regs.modes ≡ s.regs.modes
unfolding folded
folded-modes [] items s none = refl
folded-modes (i ∷ l) items s (more h e) = folded-modes l items (acted i items s) e ∙ modes-acted i items s ∙ h.keeps-modes s.regs.modes

module _ (l : List Instruction) where
  pub eighth : length (encoded l) / 8 ≡ length l
  eighth = omega (arith, length-encoded l)

  back : decoded (encoded l) (length (encoded l) / 8) ≡ l
  back =
      ap (decoded (encoded l)) eighth
      ∙ ap (λ (z : List ℕ). decoded z (length l)) (sym (append-nil (encoded l)))
      ∙ decoded-encoded l []

  -- what each instruction has, each has that is read from the bytes
  pub each_read : {P : Instruction → Type 0} → Each P l → (j : ℕ) → j < length (encoded l) / 8 → P (instruction_at (encoded l) j)
  each_read e = each_at (encoded l) (length (encoded l) / 8) (subst (Each _) (sym back) e)

module _ (l : List Instruction) (quiet : Each Quiet l) (few : length l ≤ 4096) where
  quiet_at : (j : ℕ) → j < length (encoded l) / 8 → Quiet (instruction_at (encoded l) j)
  quiet_at = each_read l quiet

  taken-all : count (λ k. takes (instruction_at (encoded l) k)) (length (encoded l) / 8) ≡ taken_by l
  taken-all = sym (taken-decoded (encoded l) (length (encoded l) / 8)) ∙ ap taken_by (back l)

  -- number 0, as many steps as instructions, as many taken as take one, and nothing given
  pub judged-quiet : (lengths : Lengths) (m : Modes) → lengths.memory ≡ 8192 → lengths.registers ≡ 100 → wrong_modes m ≡ false
      → unfit 32 lengths.items ≡ false → 32 * taken_by l ≤ lengths.items
      → judged lengths m (encoded l) ≡ record { number = 0; place = 0; byte = 0; steps = length l; taken = taken_by l; given = 0 }
  judged-quiet lengths m hm hr stands hi enough =
      run-of lengths m (encoded l) hm hr (fits 8 (length (encoded l)) (omega (arith, length-encoded l)) (omega (arith, length-encoded l))) hi stands
      (λ j h. (quiet_at j h).formed (modes_after (encoded l) m j))
      (λ j h t. let c = count-beyond (λ k. takes (instruction_at (encoded l) k)) j (length (encoded l) / 8) h t in omega (arith, taken-all))
      (λ j h t. absurd (true≢false (sym t ∙ (quiet_at j h).gives_none)))
      ∙ (λ t. record { number = 0; place = 0; byte = 0; steps = eighth l t; taken = taken-all t; given = no_room t })
    where
      no_room : count (λ k. gives (instruction_at (encoded l) k)) (length (encoded l) / 8) ≡ 0
      no_room = count_none (λ k. gives (instruction_at (encoded l) k)) (length (encoded l) / 8) (λ k h. (quiet_at k h).gives_none)

  -- ItemLaws says what each instruction of the fold takes
  pub ran-quiet : (lent : Lent (List ℕ)) → length lent.memory ≡ 8192 → length lent.registers ≡ 100 → wrong_modes (modes_of lent.registers) ≡ false
      → unfit 32 (length lent.items) ≡ false → 32 * taken_by l ≤ length lent.items
      → run_of (encoded l) lent ≡ left_by lent (folded (λ i. acted i lent.items) l (begun lent (registers_of lent.registers))) (length l) (taken_by l)
  ran-quiet lent hm hr stands hi enough =
      let start = begun lent (registers_of lent.registers) in
      let s = folded (λ i. acted i lent.items) l start in
      let a : Answer = record { number = 0; place = 0; byte = 0; steps = length l; taken = taken_by l; given = 0 } in
      let given : Lent (List ℕ) = record { memory = lent.memory; registers = lent.registers; list = encoded l; items = lent.items; out = lent.out } in
      sym (ran-done given a (sym (judged-quiet (run_lengths given) (modes_of lent.registers) hm hr stands hi enough)) refl (registers_of lent.registers) s (bytes_of s.regs) refl
      (sym (ran-folded (encoded l) lent.items start (length (encoded l) / 8) ∙ ap (λ (z : List Instruction). folded (λ i. acted i lent.items) z start) (back l)))
      refl)
      ∙ ap (λ (z : List ℕ). record { memory = s.mem; registers = bytes_of s.regs; out = z; answer = a }) (folded-out l lent.items start quiet)

-- ---- a list that takes nothing

pub taken_none : {l : List Instruction} → Each (λ i. takes i ≡ false) l → taken_by l ≡ 0
unfolding taken_by
taken_none none = refl
taken_none (more h e) = ap₂ (λ (t : Bool) (n : ℕ). cond t 1 0 + n) h (taken_none e)

-- ---- a plain list

module _ (l : List Instruction) (plain : Each Plain l) (few : length l ≤ 4096) where
  -- nothing is taken either
  pub ran-plain : (lent : Lent (List ℕ)) → length lent.memory ≡ 8192 → length lent.registers ≡ 100 → wrong_modes (modes_of lent.registers) ≡ false
      → unfit 32 (length lent.items) ≡ false
      → run_of (encoded l) lent ≡ left_by lent (folded (λ i. acted i lent.items) l (begun lent (registers_of lent.registers))) (length l) 0
  ran-plain lent hm hr stands hi =
      let s = folded (λ i. acted i lent.items) l (begun lent (registers_of lent.registers)) in
      let none = taken_none (each_map (λ i h. h.takes_none) plain) in
      ran-quiet l (each_map (λ i h. h.quiet) plain) few lent hm hr stands hi (omega arith)
      ∙ ap (left_by lent s (length l)) none
