-- `length_right`: each branch is a test of the definition.
use mathlib.Core.Path.{sym, ◌∙◌}
use borrow.Author.Tests.{lt-ltb, le-ltb}
use Rattle.std.proofs.lemmas.Bool.{false≢true}
use Rattle.contents.specs.File.{length_right}
use Rattle.contents.proofs.length_right.Goals as goal
use Rattle.contents.proofs.length_right.Goals.{then-n-gt0, else-n-gt0}

pub returns-then-n-eq0 : goal.returns-then-n-eq0
unfolding length_right
returns-then-n-eq0 c =
    elim c.if-n-gt0.branch [
      | then-n-gt0 w ↦ simp (lt-ltb _ _ w.if-n-gt0.true, sym w.value-is ∙ c.if-n-eq0.true)
      | else-n-gt0 w ↦ absurd (false≢true (sym (le-ltb _ _ w.if-n-gt0.false) ∙ sym w.value-is ∙ c.if-n-eq0.true))
    ]

pub returns-else-n-eq0 : goal.returns-else-n-eq0
unfolding length_right
returns-else-n-eq0 c =
    elim c.if-n-gt0.branch [
      | then-n-gt0 w ↦ simp (lt-ltb _ _ w.if-n-gt0.true, c.if-n-eq0.false, sym w.value-is ∙ c.if-n-eq0.false)
      | else-n-gt0 w ↦ simp (le-ltb _ _ w.if-n-gt0.false, c.if-n-eq0.false)
    ]
