-- `advance`: judged first; then either nothing moves, or the instruction acts as a list of one. Assumes nothing.
use mathlib.Core.Path.{refl, ◌∙◌}
use mathlib.Core.List.{List}
use Prim.Native.Nat.{ℕ}
use borrow.Author.Tests.{eqb-false}
use Rattle.bits.specs.Refusals.{number_of_refusal}
use Rattle.bits.proofs.RefusalLaws.{number-never-zero}
use Rattle.registers.specs.declared.Registers.{Registers}
use Rattle.module.specs.Run.{Lent}
use Rattle.module.proofs.StepLaws.{instruction-accepted, stepped-done, stepped-refused, left-refused}
use Rattle.module.proofs.advance.Goals as goal

-- what is lent
abbrev lent : List ℕ → Registers → List ℕ → List ℕ → List ℕ → Lent Registers
lent mem r list items out = record { memory = mem; registers = r; list = list; items = items; out = out }

pub returns-in_err-done : goal.returns-in_err-done
returns-in_err-done c =
    let a = c.args in
    left-refused a.r _ _ a.mem.now a.out.now c.from_residual.ensures.1
    ∙ stepped-refused (lent a.mem.now a.r a.instruction.now a.items.now a.out.now) _ c.in_err-done.ensures
    (λ z. eqb-false (number_of_refusal _) 0 (number-never-zero _) z)

pub run_list-left-requires : goal.run_list-left-requires
run_list-left-requires c =
    let a = c.args in
    instruction-accepted (lent a.mem.now a.r a.instruction.now a.items.now a.out.now) _ c.in_ok-done.ensures refl

pub returns : goal.returns
returns c =
    let a = c.args in
    stepped-done (lent a.mem.now a.r a.instruction.now a.items.now a.out.now) _ c.in_ok-done.ensures refl _ c.run_list-left.ensures
