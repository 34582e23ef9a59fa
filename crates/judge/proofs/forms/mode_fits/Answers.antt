-- `judge::forms::mode_fits`: by the tag. Assumes nothing.
use borrow.Author.Tests.{eq-eqb, ne_eqb}
use native.Mathlib.Omega.{arith}
use Rattle.judge.specs.Instructions.{instruction_at}
use Rattle.judge.proofs.forms.mode_fits.Goals as goal

pub returns-in-1 : goal.returns-in-1
unfolding instruction_at
returns-in-1 c = simp (eq-eqb _ 1 c.in-1.is)

pub returns-in-2 : goal.returns-in-2
unfolding instruction_at
returns-in-2 c = simp c.in-2.is

pub returns-in-3 : goal.returns-in-3
unfolding instruction_at
returns-in-3 c = simp c.in-3.is

pub returns-in_default : goal.returns-in_default
unfolding instruction_at
returns-in_default c =
    let t = (instruction_at c.args.list.now c.args.k).tag in
    simp (ne_eqb t 1 (λ e. omega arith), ne_eqb t 2 (λ e. omega arith), ne_eqb t 3 (λ e. omega arith))
