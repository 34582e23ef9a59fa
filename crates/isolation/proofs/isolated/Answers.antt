-- `isolation::isolated`: what is lent first, and then the first instruction that breaks the condition. Assumes nothing.
use mathlib.Core.Path.{◌≡◌, refl, ap, ◌∙◌}
use mathlib.Core.List.{List}
use Prim.Native.Nat.{ℕ}
use lib.ListN.{length}
use borrow.Author.Tests.{eqb-false}
use Rattle.bits.specs.Refusals.{number_of_refusal}
use Rattle.bits.specs.Rows.{number_of}
use Rattle.bits.proofs.RefusalLaws.{number-never-zero}
use Rattle.registers.specs.declared.Modes.{Modes}
use Rattle.registers.specs.Modes.{modes_of}
use Rattle.fields.specs.Isolation.{first_breaking}
use Rattle.isolation.specs.Isolation.{ask_rows}
use Rattle.isolation.proofs.Answers.{given-err, refused-is, broken-is, kept-is}
use Rattle.isolation.proofs.isolated.Goals as goal

-- what is lent is judged by the mode registers that were read
lent : (list registers : List ℕ) (m : Modes) (wrong : ℕ) → m ≡ modes_of registers → wrong ≡ number_of (ask_rows (length registers) m list)
    → wrong ≡ number_of (ask_rows (length registers) (modes_of registers) list)
lent list registers m wrong em ew = ew ∙ ap (λ (m : Modes). number_of (ask_rows (length registers) m list)) em

pub returns-in_err-ask_lent : goal.returns-in_err-ask_lent
returns-in_err-ask_lent c =
    let a = c.args in
    given-err _ _ c.from_residual.ensures.1
    ∙ refused-is a.list.now a.registers.now _ (lent a.list.now a.registers.now _ _ c.modes_of-m.ensures c.in_err-ask_lent.ensures)
    (λ z. eqb-false (number_of_refusal _) 0 (number-never-zero _) z)

pub returns-then-place-list : goal.returns-then-place-list
returns-then-place-list c =
    let a = c.args in
    let m = c.modes_of-m.ensures in
    broken-is a.list.now a.registers.now 0 (lent a.list.now a.registers.now _ 0 m c.in_ok-ask_lent.ensures) refl _
    (c.first_breaking-place.ensures ∙ ap (λ (m : Modes). first_breaking m a.list.now) m) c.if-place-list.true

pub returns : goal.returns
returns c =
    let a = c.args in
    let m = c.modes_of-m.ensures in
    kept-is a.list.now a.registers.now 0 (lent a.list.now a.registers.now _ 0 m c.in_ok-ask_lent.ensures) refl _
    (c.first_breaking-place.ensures ∙ ap (λ (m : Modes). first_breaking m a.list.now) m) c.if-place-list.false
