-- Runs of lists that take items: which item each instruction takes, the run as a fold where each sees its own, and that no other byte of the items matters. Assumes nothing.
use mathlib.Core.Path.{◌≡◌, refl, sym, ap, ◌∙◌}
use mathlib.Core.Bool.{Bool, true, false, cond}
use mathlib.Core.List.{List, ◌++◌}
use Prim.Native.Nat.{ℕ, zero, suc, ◌+◌, ◌/◌, ◌<◌, ◌≤◌}
use native.Mathlib.Nat.{add-zero, zero-add}
use native.Mathlib.Omega.{arith}
use lib.ListN.{length, length-take, length-drop}
use Rattle.bits.specs.Bits.{item}
use Rattle.bits.specs.Search.{count}
use Rattle.network.specs.Answer.{passed_item}
use Rattle.registers.specs.declared.Modes.{Modes}
use Rattle.registers.specs.declared.Registers.{Registers}
use Rattle.judge.specs.declared.Instruction.{Instruction}
use Rattle.judge.specs.declared.Lengths.{Lengths}
use Rattle.judge.specs.Instructions.{instruction_at, takes}
use Rattle.judge.specs.Steps.{Accepted}
use Rattle.module.specs.Act.{State, part_at, held_item, source_item, passed_by, after, acted}
use Rattle.module.specs.Run.{Lent, begun, ran_by}
use Rattle.builders.specs.Lists.{decoded, items_of}
use Rattle.builders.specs.Word.{folded, taken_by, folded_on}
use Rattle.builders.proofs.ListLaws.{items_at}
use Rattle.builders.proofs.Takes.{folded-on, on-ext, folded_ext}
use Rattle.fields.specs.Items.{acted_on}
use Rattle.fields.proofs.LineLaws.{ran-folded}

-- ---- one instruction

counts-on : (i : Instruction) (x : List ℕ) (s : State) → (acted_on i x s).taken ≡ s.taken + cond (takes i) 1 0
unfolding acted_on
counts-on i x s = refl

idle-on : (i : Instruction) (x y : List ℕ) (s : State) → takes i ≡ false → acted_on i x s ≡ acted_on i y s
unfolding acted_on
idle-on i x y s e =
    ap (λ (t : Bool). after i (passed_item (cond t x (held_item i s.mem s.regs)) i.flip i.code) s) e
    ∙ sym (ap (λ (t : Bool). after i (passed_item (cond t y (held_item i s.mem s.regs)) i.flip i.code) s) e)

-- ---- a list

-- each instruction sees its own item
pub folded-items : (items : List ℕ) (l : List Instruction) (s : State) → folded (λ i. acted i items) l s ≡ folded_on acted_on (part_at items) l s.taken s
unfolding acted passed_by source_item acted_on
folded-items items = folded-on acted_on (part_at items) (λ s. s.taken) counts-on

pub ran-items : (list items : List ℕ) (s : State) (n : ℕ) → ran_by list items s n ≡ folded_on acted_on (part_at items) (decoded list n) s.taken s
ran-items list items s n = ran-folded list items s n ∙ folded-items items (decoded list n) s

-- items that have the same parts where some are taken leave the same
pub folded-same : (items items' : List ℕ) (l : List Instruction) (s : State)
    → ((j : ℕ) → s.taken ≤ j → j < s.taken + taken_by l → part_at items j ≡ part_at items' j)
    → folded (λ i. acted i items) l s ≡ folded (λ i. acted i items') l s
unfolding acted passed_by source_item acted_on
folded-same items items' = folded_ext acted_on idle-on (part_at items) (part_at items') (λ s. s.taken) counts-on

-- a buffer that begins with the items of a list
pub folded-built : (g : ℕ → ℕ → ℕ) (n : ℕ) (rest : List ℕ) (l : List Instruction) (s : State) → s.taken + taken_by l ≤ n
    → folded (λ i. acted i (items_of g n ++ rest)) l s ≡ folded_on acted_on (λ k. item (g k)) l s.taken s
folded-built g n rest l s h =
    folded-items (items_of g n ++ rest) l s
    ∙ on-ext acted_on idle-on (part_at (items_of g n ++ rest)) (λ k. item (g k)) l s.taken s (λ j a b. items_at g n j rest (omega arith))

-- ---- instruction k of a run

-- so many were taken before it
pub ran-taken : (list items : List ℕ) (s : State) (k : ℕ) → (ran_by list items s k).taken ≡ s.taken + count (λ j. takes (instruction_at list j)) k
unfolding ran_by count acted
ran-taken list items s zero = sym (add-zero s.taken)
ran-taken list items s (suc k) = omega (arith, ran-taken list items s k)

module _ (lengths : Lengths) (modes : Modes) (lent : Lent Registers) (fit : Accepted lengths modes lent.list) (have : lengths.items ≡ length lent.items)
    (k : ℕ) (there : k < length lent.list / 8) (outside : takes (instruction_at lent.list k) ≡ true) where
  -- an outside source is the part of the items whose number is the count of those taken before
  pub takes_part : (r : Registers)
      → (let s = ran_by lent.list lent.items (begun lent r) k in source_item (instruction_at lent.list k) s.mem lent.items s.regs s.taken)
      ≡ part_at lent.items (count (λ j. takes (instruction_at lent.list j)) k)
  unfolding source_item
  takes_part r =
      let s = ran_by lent.list lent.items (begun lent r) k in
      ap (λ (t : Bool). cond t (part_at lent.items s.taken) (held_item (instruction_at lent.list k) s.mem s.regs)) outside
      ∙ ap (part_at lent.items) (ran-taken lent.list lent.items (begun lent r) k ∙ zero-add _)

  -- and in an accepted list it is there
  pub part-there : length (part_at lent.items (count (λ j. takes (instruction_at lent.list j)) k)) ≡ 32
  part-there =
      let room = fit.supplied k there outside in
      simp (length-take, length-drop) (omega arith)
