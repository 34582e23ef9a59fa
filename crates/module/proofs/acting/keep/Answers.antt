-- `acting::keep`: by its kind. Assumes nothing.
use mathlib.Core.Path.{◌∙◌}
use borrow.Author.Tests.{eq-eqb, ne_eqb}
use native.Mathlib.Omega.{arith}
use Rattle.module.specs.Act.{mem_after}
use Rattle.module.proofs.acting.keep.Goals as goal

pub returns-in-2 : goal.returns-in-2
unfolding mem_after
returns-in-2 c = c.store.ensures ∙ simp (eq-eqb _ _ c.in-2.is)

pub returns-in-3 : goal.returns-in-3
unfolding mem_after
returns-in-3 c = c.store_masked.ensures ∙ simp (ne_eqb c.args.i.kind 2 (λ e. omega arith), eq-eqb _ _ c.in-3.is)

pub returns-in_default : goal.returns-in_default
unfolding mem_after
returns-in_default c = simp (ne_eqb c.args.i.kind 2 (λ e. omega arith), ne_eqb c.args.i.kind 3 (λ e. omega arith))
