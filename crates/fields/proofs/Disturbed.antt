-- A list with a flip in which one station disturbs another: whatever the memory holds, bit 1 of word 0 becomes bit 0 of word 1. Assumes nothing.
use mathlib.Core.Path.{◌≡◌, refl, ap, ◌∙◌}
use mathlib.Core.Bool.{false}
use mathlib.Core.List.{List, [], ◌∷◌}
use Prim.Native.Nat.{ℕ, ◌*◌, ◌+◌}
use native.Mathlib.Omega.{arith}
use lib.ListN.{length}
use Rattle.bits.proofs.Binary.{Bit, off, on}
use Rattle.bits.proofs.Items.{bit_of-bit}
use Rattle.network.proofs.TableRules.{none-permitted}
use Rattle.registers.specs.Logic.{new_y}
use Rattle.registers.specs.Modes.{modes_of, wrong_modes}
use Rattle.registers.specs.Rows.{registers_of}
use Rattle.judge.specs.declared.Instruction.{Instruction}
use Rattle.judge.specs.Answers.{Answer}
use Rattle.judge.specs.Judge.{unfit}
use Rattle.judge.proofs.FormLaws.{formed-by}
use Rattle.module.specs.Act.{State, acted}
use Rattle.module.specs.Run.{Lent, Left, begun}
use Rattle.builders.specs.Lists.{instruction, store_at, encoded, Each, none, more}
use Rattle.builders.specs.Word.{source_bit, after_bit, acted_word, folded, taken_by}
use Rattle.fields.specs.Line.{At, word_of, outside_at, came_from}
use Rattle.fields.specs.Value.{word_bit, run_of}
use Rattle.fields.proofs.LineLaws.{came-flipped, acted-from, acted-at, at_self}
use Rattle.fields.proofs.Runs.{Quiet, Plain, left_by, ran-quiet}
use Rattle.fields.proofs.Plain.{plain-store}

-- Y takes bit 0 of the word across flip 1,
abbrev take_across : Instruction
take_across = instruction 0 0 1 0 0 1 0 (16 * 1 + 10)

-- and is stored to bit 1 of every word
abbrev pub across_list : List Instruction
across_list = take_across ∷ store_at 3 1 ∷ []

store-plain : Plain (store_at 3 1)
store-plain = plain-store 1 (omega arith)

quiet : Each Quiet across_list
quiet =
    more (record { gives_none = refl; formed = λ m. formed-by m take_across refl refl refl; keeps-modes = λ m. refl })
    (more store-plain.quiet none)

-- byte 7 = 16 + 10: Y takes the item
takes-item : {y f : ℕ} → Bit y → Bit f → new_y 26 y f ≡ f
unfolding new_y
takes-item off off = refl
takes-item off on = refl
takes-item on off = refl
takes-item on on = refl

module _ (lent : Lent (List ℕ)) (memory : length lent.memory ≡ 8192) (registers : length lent.registers ≡ 100)
    (stands : wrong_modes (modes_of lent.registers) ≡ false) (supplied : unfit 32 (length lent.items) ≡ false) where
  abbrev start : State
  start = begun lent (registers_of lent.registers)

  abbrev end : State
  end = folded (λ i. acted i lent.items) across_list start

  across-ran : run_of (encoded across_list) lent ≡ left_by lent end 2 0
  unfolding taken_by
  across-ran = ran-quiet across_list quiet (omega arith) lent memory registers stands supplied (omega arith)

  pub across-done : (run_of (encoded across_list) lent).answer.number ≡ 0
  across-done = ap (λ (x : Left (List ℕ) Answer). x.answer.number) across-ran

  pub across-left : word_bit (run_of (encoded across_list) lent).memory 0 1 ≡ word_bit lent.memory 1 0
  unfolding folded after_bit acted_word source_bit
  across-left =
      let items = lent.items in
      let from = came_from take_across 0 in
      let v = word_of 0 start in
      let w = word_of from start in
      let taken : At 0 (acted take_across items start) (after_bit take_across (source_bit take_across (outside_at from items) w) v) =
      acted-from 0 (omega arith) take_across items start v w (record { mode0 = refl; inside = omega arith; flips = omega arith; shifts = none-permitted })
      (at_self 0 start) (at_self from start) in
      ap (λ (x : Left (List ℕ) Answer). word_bit x.memory 0 1) across-ran
      ∙ (acted-at 0 (omega arith) (store_at 3 1) items (acted take_across items start) _
      (store-plain.local (acted take_across items start).regs.modes) taken).word 1 (omega arith)
      ∙ takes-item (bit_of-bit (registers_of lent.registers).y 0) (bit_of-bit lent.memory _)
      ∙ ap (λ (q : ℕ). word_bit lent.memory q 0) (came-flipped take_across 0 refl)
