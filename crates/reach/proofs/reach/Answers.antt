-- `reach::reach`: what is lent first, and then the bytes of each instruction. Assumes nothing.
use mathlib.Core.Path.{refl, ◌∙◌}
use borrow.Author.Tests.{eqb-false}
use Rattle.bits.specs.Refusals.{number_of_refusal}
use Rattle.bits.proofs.RefusalLaws.{number-never-zero}
use Rattle.reach.proofs.Answers.{reached-err, lent-refused, lent-roomy, lent-done}
use Rattle.reach.proofs.reach.Goals as goal

pub returns-in_err-ask_lent : goal.returns-in_err-ask_lent
returns-in_err-ask_lent c =
    let m = c.modes_of-m in
    let a = c.args in
    let p = lent-refused a.registers.now a.list.now a.out.now m.result m.ensures _ c.in_err-ask_lent.ensures
    (λ z. eqb-false (number_of_refusal _) 0 (number-never-zero _) z) in
    record { answer = reached-err _ _ c.from_residual.ensures.1 ∙ p.0; bytes = p.1 }

pub put_all-requires : goal.put_all-requires
put_all-requires c =
    let m = c.modes_of-m in
    let a = c.args in
    lent-roomy a.registers.now a.list.now a.out.now m.result m.ensures 0 c.in_ok-ask_lent.ensures refl

pub returns : goal.returns
returns c =
    let m = c.modes_of-m in
    let a = c.args in
    let p = lent-done a.registers.now a.list.now a.out.now m.result m.ensures 0 c.in_ok-ask_lent.ensures refl _ c.put_all.ensures in
    record { answer = p.0; bytes = p.1 }
