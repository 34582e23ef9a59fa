-- What runs keep: those of quiet lists the mode registers and the lengths, and those of lists that have logic instructions alone the memory and M too, so that what is marked is what Y says at the end. Assumes nothing.
use mathlib.Core.Path.{◌≡◌, refl, sym, ap, subst, ◌∙◌}
use mathlib.Core.Bool.{false, cond}
use mathlib.Core.List.{List, [], ◌∷◌}
use mathlib.Core.Logic.{◌↔◌}
use Prim.Native.Nat.{ℕ, ◌*◌, ◌<◌, ◌≤◌}
use lib.Dec.{eqb}
use lib.ListN.{length}
use Rattle.bits.specs.Bits.{Bytes, bit_of}
use Rattle.memory.specs.Memory.{stored, every}
use Rattle.registers.specs.declared.Registers.{Registers}
use Rattle.registers.specs.Logic.{logic_of}
use Rattle.registers.specs.Modes.{modes_of, wrong_modes}
use Rattle.registers.specs.Rows.{registers_of, bytes_of, with_m, with_modes}
use Rattle.registers.proofs.RowLaws.{registers-bytes}
use Rattle.judge.specs.declared.Instruction.{Instruction}
use Rattle.judge.specs.Answers.{Answer}
use Rattle.judge.specs.Modes.{modes_by, mode_of}
use Rattle.judge.specs.Judge.{unfit}
use Rattle.module.specs.Act.{State, passed_by, regs_after, mem_after, acted}
use Rattle.module.specs.Run.{Lent, Left, begun}
use Rattle.module.proofs.Good.{Good, begun-good, registers-ok}
use Rattle.builders.specs.Lists.{encoded, Each, none, more}
use Rattle.builders.specs.Word.{folded, taken_by}
use Rattle.fields.specs.Value.{run_of}
use Rattle.fields.specs.Marks.{lent_with, Marks}
use Rattle.fields.proofs.Whole.{folded-good}
use Rattle.fields.proofs.Runs.{Quiet, folded-modes, ran-quiet}

-- ---- what is kept

memory_kept : (i : Instruction) (mode : ℕ) (mem m f : List ℕ) → i.kind ≡ 0 → mem_after i mode mem m f ≡ mem
unfolding mem_after
memory_kept i mode mem m f e =
    ap (λ (k : ℕ). cond (eqb k 2) (stored mem mode i.addr every (bit_of f))
    (cond (eqb k 3) (stored mem mode i.addr (bit_of m) (bit_of f)) mem)) e

m-kept : (i : Instruction) (r : Registers) (f : List ℕ) → i.kind ≡ 0 → (regs_after i r f).m ≡ r.m
unfolding regs_after logic_of
m-kept i r f e = ap (λ (k : ℕ). (cond (eqb k 0) (logic_of r f i.logic) (cond (eqb k 1) (with_m r f) (cond (eqb k 6) (with_modes r (modes_by i r.modes)) r))).m) e

-- every byte of the memory
pub folded_keeps : (l : List Instruction) (items : List ℕ) (s : State) → Each (λ i. i.kind ≡ 0) l → (folded (λ i. acted i items) l s).mem ≡ s.mem
unfolding folded acted
folded_keeps [] items s none = refl
folded_keeps (i ∷ l) items s (more h e) =
    folded_keeps l items (acted i items s) e
    ∙ memory_kept i (mode_of s.regs.modes i) s.mem s.regs.m (passed_by i s.mem items s.regs s.taken) h

-- and M
pub folded-keeps_m : (l : List Instruction) (items : List ℕ) (s : State) → Each (λ i. i.kind ≡ 0) l → (folded (λ i. acted i items) l s).regs.m ≡ s.regs.m
unfolding folded acted
folded-keeps_m [] items s none = refl
folded-keeps_m (i ∷ l) items s (more h e) =
    folded-keeps_m l items (acted i items s) e ∙ m-kept i s.regs (passed_by i s.mem items s.regs s.taken) h

-- ---- what a run leaves, by X and Y at its end

module _ (l : List Instruction) (lent : Lent (List ℕ)) (memory : Bytes lent.memory 8192) (registers : Bytes lent.registers 100) (items : List ℕ) where
  abbrev begin : State
  begin = begun lent (registers_of lent.registers)

  abbrev end : State
  end = folded (λ i. acted i items) l begin

  pub end-good : Good end
  end-good = folded-good l items begin (begun-good lent memory registers)

  pub rows : registers_of (bytes_of end.regs) ≡ end.regs
  rows = registers-bytes end.regs end-good.m-ok.size end-good.x-ok.size end-good.y-ok.size

  module _ (quiet : Each Quiet l) where
    -- both mode registers are those that were lent
    pub modes-end : (registers_of (bytes_of end.regs)).modes ≡ (registers_of lent.registers).modes
    modes-end = ap (λ (r : Registers). r.modes) rows ∙ folded-modes l items begin quiet

    pub registers-end : Bytes (bytes_of end.regs) 100
    registers-end = registers-ok end lent.registers end-good registers (folded-modes l items begin quiet)

  -- with the items that it is lent in the place of the lender's
  pub marks-logic : wrong_modes (modes_of lent.registers) ≡ false → Each Quiet l → Each (λ i. i.kind ≡ 0) l → length l ≤ 4096
      → unfit 32 (length items) ≡ false → 32 * taken_by l ≤ length items
      → (P : ℕ → Type 0) (x : List ℕ → List ℕ)
      → ((w : ℕ) → w < 256 → (bit_of end.regs.y w ≡ 1) ↔ P w) → end.regs.x ≡ x end.regs.y
      → Marks (length l) (taken_by l) P x lent (run_of (encoded l) (lent_with items lent))
  marks-logic stands quiet logic few supplied enough P x marks after_x =
      subst (Marks (length l) (taken_by l) P x lent) (sym (ran-quiet l quiet few (lent_with items lent) memory.size registers.size stands supplied enough))
      (record {
        done = refl;
        marks = λ w h. subst (λ (r : Registers). (bit_of r.y w ≡ 1) ↔ P w) (sym rows) (marks w h);
        after_x = subst (λ (r : Registers). r.x ≡ x r.y) (sym rows) after_x;
        keeps_m = ap (λ (r : Registers). r.m) rows ∙ folded-keeps_m l items begin logic;
        keeps_modes = modes-end quiet;
        keeps = folded_keeps l items begin logic;
        quiet = refl;
        registers = registers-end quiet;
      })

-- the same marks, by a claim that holds of the same words
pub marks-map : {steps taken : ℕ} {P Q : ℕ → Type 0} {x : List ℕ → List ℕ} {lent : Lent (List ℕ)} {r : Left (List ℕ) Answer}
    → ((w : ℕ) → w < 256 → P w ↔ Q w) → Marks steps taken P x lent r → Marks steps taken Q x lent r
marks-map same m =
    record {
      done = m.done;
      marks = λ w h. (λ q. (same w h).0 ((m.marks w h).0 q), λ q. (m.marks w h).1 ((same w h).1 q));
      after_x = m.after_x;
      keeps_m = m.keeps_m;
      keeps_modes = m.keeps_modes;
      keeps = m.keeps;
      quiet = m.quiet;
      registers = m.registers;
    }
