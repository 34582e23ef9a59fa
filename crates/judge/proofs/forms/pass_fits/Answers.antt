-- `judge::forms::pass_fits`: rows 18, 16 and 17, by whether there is a shift and by kind. Assumes nothing.
use mathlib.Core.Path.{◌∙◌}
use borrow.Author.Tests.{eq-eqb, ne_eqb}
use Rattle.judge.specs.Instructions.{instruction_at}
use Rattle.judge.proofs.FormLaws.{pass_fits}
use Rattle.judge.proofs.forms.pass_fits.Goals as goal

pub returns-then-code-eq0 : goal.returns-then-code-eq0
unfolding instruction_at
returns-then-code-eq0 c =
    let s = c in
    let i = instruction_at s.args.list.now s.args.k in
    simp (eq-eqb i.code 0 c.if-code-eq0.true) at (pass_fits i s.requires.k_bound)

pub returns-then-kind : goal.returns-then-kind
unfolding instruction_at
returns-then-kind c =
    let s = c in
    let i = instruction_at s.args.list.now s.args.k in
    simp (ne_eqb i.code 0 c.if-code-eq0.false, c.if-kind.true) at (pass_fits i s.requires.k_bound)

pub returns : goal.returns
unfolding instruction_at
returns c =
    let d = c in
    let s = d in
    let i = instruction_at s.args.list.now s.args.k in
    c.is_code.ensures ∙ (simp (ne_eqb i.code 0 d.if-code-eq0.false, d.if-kind.false) at (pass_fits i s.requires.k_bound))
