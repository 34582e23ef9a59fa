-- `judge::forms::source_fits`: rows 5 to 9 and 14 of a kind that may read memory, by its source. Assumes nothing.
use mathlib.Core.Path.{ap, ◌∙◌}
use mathlib.Core.Bool.{Bool, not, ◌&&◌}
use lib.Dec.{ltb}
use borrow.Author.Tests.{eq-eqb, ne_eqb}
use Rattle.judge.specs.Instructions.{instruction_at}
use Rattle.judge.proofs.FormLaws.{source_fits}
use Rattle.judge.proofs.forms.source_fits.Goals as goal

pub returns-then-source-eq-MEMORY : goal.returns-then-source-eq-MEMORY
unfolding instruction_at
returns-then-source-eq-MEMORY c =
    let s = c in
    let i = instruction_at s.args.list.now s.args.k in
    c.mode_fits.ensures
    ∙ (simp (eq-eqb i.source 0 c.if-source-eq-MEMORY.true) at (source_fits s.args.m i s.requires.k_value s.requires.k_bound))

pub returns : goal.returns
unfolding instruction_at
returns c =
    let s = c in
    let i = instruction_at s.args.list.now s.args.k in
    ap (λ (b : Bool). not (ltb 4 i.source) && b) c.idle.ensures
    ∙ (simp (ne_eqb i.source 0 c.if-source-eq-MEMORY.false) at (source_fits s.args.m i s.requires.k_value s.requires.k_bound))
