-- `run`: judged first; then either nothing moves, or the record goes through the list and back. Assumes nothing.
use mathlib.Core.Path.{◌≡◌, refl, ap, ◌∙◌}
use mathlib.Core.List.{List}
use Prim.Native.Nat.{ℕ}
use borrow.Author.Tests.{eqb-false}
use Rattle.bits.specs.Refusals.{number_of_refusal}
use Rattle.bits.proofs.RefusalLaws.{number-never-zero}
use Rattle.registers.specs.declared.Modes.{Modes}
use Rattle.registers.specs.Modes.{modes_of}
use Rattle.judge.specs.Answers.{Answer}
use Rattle.judge.specs.Judge.{judged}
use Rattle.judge.proofs.Given.{answer-err}
use Rattle.module.specs.Run.{Lent, unmoved, run_lengths}
use Rattle.module.proofs.RunLaws.{registers-long, list-accepted, ran-done, ran-refused, ran-still}
use Rattle.module.proofs.run.Goals as goal

-- what is lent
abbrev lent : List ℕ → List ℕ → List ℕ → List ℕ → List ℕ → Lent (List ℕ)
lent mem regs list items out = record { memory = mem; registers = regs; list = list; items = items; out = out }

-- what is judged by the mode registers that were read is judged by those that are lent
read : (l : Lent (List ℕ)) (m : Modes) (a : Answer) → m ≡ modes_of l.registers → a ≡ judged (run_lengths l) m l.list → a ≡ judged (run_lengths l) (modes_of l.registers) l.list
read l m a em e = e ∙ ap (λ (x : Modes). judged (run_lengths l) x l.list) em

pub returns-in_err-done : goal.returns-in_err-done
returns-in_err-done c =
    let a = c.args in
    let l = lent a.mem.now a.regs.now a.list.now a.items.now a.out.now in
    ap (unmoved l) (answer-err _ _ c.from_residual.ensures.1)
    ∙ ran-refused l _ (read l _ _ c.modes_of-modes.ensures c.in_err-done.ensures) (λ z. eqb-false (number_of_refusal _) 0 (number-never-zero _) z)

pub registers_of-r-requires : goal.registers_of-r-requires
registers_of-r-requires c =
    let a = c.args in
    let l = lent a.mem.now a.regs.now a.list.now a.items.now a.out.now in
    registers-long l _ (read l _ _ c.modes_of-modes.ensures c.in_ok-done.ensures) refl

pub run_list-left-requires : goal.run_list-left-requires
run_list-left-requires c =
    let a = c.args in
    let l = lent a.mem.now a.regs.now a.list.now a.items.now a.out.now in
    list-accepted l _ (read l _ _ c.modes_of-modes.ensures c.in_ok-done.ensures) refl c.registers_of-r.result c.registers_of-r.ensures

pub write_registers-requires : goal.write_registers-requires
write_registers-requires c =
    let a = c.args in
    let l = lent a.mem.now a.regs.now a.list.now a.items.now a.out.now in
    registers-long l _ (read l _ _ c.modes_of-modes.ensures c.in_ok-done.ensures) refl

pub returns-then-done-ne0 : goal.returns-then-done-ne0
returns-then-done-ne0 c =
    let a = c.args in
    let l = lent a.mem.now a.regs.now a.list.now a.items.now a.out.now in
    ran-done l _ (read l _ _ c.modes_of-modes.ensures c.in_ok-done.ensures) refl c.registers_of-r.result _ _ c.registers_of-r.ensures c.run_list-left.ensures
    c.write_registers.ensures

pub returns-else-done-ne0 : goal.returns-else-done-ne0
returns-else-done-ne0 c =
    let a = c.args in
    let l = lent a.mem.now a.regs.now a.list.now a.items.now a.out.now in
    ran-still l _ (read l _ _ c.modes_of-modes.ensures c.in_ok-done.ensures) c.if-done-ne0.false
