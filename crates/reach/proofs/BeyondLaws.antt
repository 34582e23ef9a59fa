-- An instruction and a run leave every word that they do not reach, and the answer counts those that an instruction does. Assumes nothing.
use mathlib.Core.Path.{◌≡◌, refl, sym, ap, ◌∙◌}
use mathlib.Core.Bool.{Bool, true, false, cond, ◌&&◌, ◌||◌}
use mathlib.Core.List.{List}
use Prim.Native.Nat.{ℕ, zero, suc, ◌+◌, ◌*◌, ◌/◌, ◌<◌}
use native.Mathlib.Decide.{ℕ_discrete}
use native.Mathlib.Omega.{arith}
use lib.Dec.{eqb}
use lib.ListN.{length, get_or}
use borrow.Author.Tests.{eq-eqb}
use Rattle.bits.specs.Bits.{bit_of}
use Rattle.bits.specs.Search.{count}
use Rattle.bits.proofs.Items.{bit_of-bit}
use Rattle.bits.proofs.Rows.{taken}
use Rattle.bits.proofs.Search.{count_none}
use Rattle.memory.specs.Table.{table}
use Rattle.memory.specs.Memory.{cell, stored, every}
use Rattle.registers.specs.declared.Modes.{Modes}
use Rattle.registers.specs.Rows.{registers_of}
use Rattle.judge.specs.declared.Instruction.{Instruction}
use Rattle.judge.specs.Answers.{Answer}
use Rattle.judge.specs.Instructions.{instruction_at, stores}
use Rattle.judge.specs.Modes.{modes_after, mode_of}
use Rattle.judge.specs.Judge.{fault_of}
use Rattle.module.specs.Act.{State, passed_by, mem_after, acted}
use Rattle.module.specs.Run.{Lent, Left, begun, ran_by, ran}
use Rattle.module.proofs.RunLaws.{modes-ran, ran-answer, ran-refused, ran-ended}
use Rattle.reach.specs.Reach.{met, reaches, reach_of, reach_by}
use Rattle.reach.specs.Reaching.{SameWord, reaches_at}
use Rattle.reach.proofs.MeetingLaws.{store-leaves}
use Rattle.reach.proofs.CountLaws.{met-count}

-- ---- an instruction

module _ (w : ℕ) (hw : w < 256) where
  pub step-leaves : (i : Instruction) (items : List ℕ) (s : State) → reaches s.regs.modes i w ≡ false → SameWord w s.mem (acted i items s).mem
  unfolding acted mem_after
  step-leaves i items s = go (eqb i.kind 2) (eqb i.kind 3)
    where
      mode : ℕ
      mode = mode_of s.regs.modes i

      item : List ℕ
      item = passed_by i s.mem items s.regs s.taken

      left : (mask : ℕ → ℕ) → met mode i.addr w ≡ false → SameWord w s.mem (stored s.mem mode i.addr mask (bit_of item))
      left mask u b hb = store-leaves mode i.addr mask (bit_of item) s.mem (bit_of-bit item) w b hw hb u

      go : (two three : Bool) → ((two || three) && met mode i.addr w) ≡ false
          → SameWord w s.mem (cond two (stored s.mem mode i.addr every (bit_of item))
          (cond three (stored s.mem mode i.addr (bit_of s.regs.m) (bit_of item)) s.mem))
      go true three u = left every u
      go false true u = left (bit_of s.regs.m) u
      go false false u = λ b hb. refl

  -- ---- a run

  ran-leaves : (list items : List ℕ) (s : State) (n : ℕ) → ((k : ℕ) → k < n → reaches (modes_after list s.regs.modes k) (instruction_at list k) w ≡ false)
      → SameWord w s.mem (ran_by list items s n).mem
  unfolding ran_by
  ran-leaves list items s zero u b hb = refl
  ran-leaves list items s (suc n) u b hb =
      step-leaves (instruction_at list n) items (ran_by list items s n)
      (ap (λ (m : Modes). reaches m (instruction_at list n) w) (modes-ran list items s n) ∙ u n (omega arith)) b hb
      ∙ ran-leaves list items s n (λ k h. u k (omega arith)) b hb

  pub run-leaves : (l : Lent (List ℕ)) → ((k : ℕ) → k < length l.list / 8 → reaches_at l k w ≡ false) → SameWord w l.memory (ran l).memory
  run-leaves l u b hb = go (ℕ_discrete (ran l).answer.number 0)
    where
      bit : Left (List ℕ) Answer → ℕ
      bit x = table (cell x.memory) w b

      go : Dec ((ran l).answer.number ≡ 0) → bit (ran l) ≡ table (cell l.memory) w b
      go (yes z) = sym (ap bit (ran-ended l z)) ∙ ran-leaves l.list l.items (begun l (registers_of l.registers)) (length l.list / 8) u b hb
      go (no v) = sym (ap bit (ran-refused l (ran l).answer (ran-answer l) v))

-- ---- the count

-- a list of bytes, in a run that starts with modes that are bytes
module _ (list : List ℕ) (low : (k : ℕ) → get_or list k 0 < 256) where
  abbrev Low : Modes → Type 0
  Low m = (m.a.mode < 256) × (m.b.mode < 256)

  given-low : (k : ℕ) → (instruction_at list k).mode < 256
  unfolding instruction_at
  given-low k = low (8 * k + 3)

  modes-low : (m : Modes) → Low m → (k : ℕ) → Low (modes_after list m k)
  unfolding modes_after
  modes-low m h zero = h
  modes-low m h (suc k) =
      let i = instruction_at list k in
      let before = modes-low m h k in
      taken Low _ _ (eqb i.kind 6 && eqb i.tag 2) (given-low k, before.1)
      (taken Low _ _ (eqb i.kind 6 && eqb i.tag 3) (before.0, given-low k) before)

  pub mode-low : (m : Modes) → Low m → (k : ℕ) → mode_of (modes_after list m k) (instruction_at list k) < 256
  mode-low m h k =
      let i = instruction_at list k in
      let before = modes-low m h k in
      taken (λ (n : ℕ). n < 256) _ _ (eqb i.tag 2) before.0 (taken (λ (n : ℕ). n < 256) _ _ (eqb i.tag 3) before.1 (given-low k))

-- an instruction without a number
pub reach-counts : (m : Modes) (i : Instruction) → mode_of m i < 256 → (fault_of m i).number ≡ 0 → reach_by m i ≡ count (reaches m i) 256
unfolding reach_by
reach-counts m i h z = ap (λ (b : Bool). cond (stores i && b) (reach_of (mode_of m i)) 0) (eq-eqb (fault_of m i).number 0 z) ∙ go (stores i)
  where
    go : (storing : Bool) → cond (storing && true) (reach_of (mode_of m i)) 0 ≡ count (λ w. storing && met (mode_of m i) i.addr w) 256
    go true = sym (met-count (mode_of m i) i.addr h)
    go false = sym (count_none (λ w. false) 256 (λ j l. refl))
