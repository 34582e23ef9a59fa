-- `words::with_digit`: one answer for each branch.
use Rattle.std.proofs.Common.{sym, ap, ◌∙◌, arith}
use Rattle.assembly.specs.Steps.{value_given}
use Rattle.assembly.proofs.WordLaws.{digit-bad, digit-large, digit-added}
use Rattle.assembly.proofs.words.with_digit.Goals as goal

pub returns-then-d-gt9 : goal.returns-then-d-gt9
returns-then-d-gt9 c = sym (digit-bad _ _ (omega (arith, c.number-d.ensures)))

pub returns-in_err-checked_mul : goal.returns-in_err-checked_mul
returns-in_err-checked_mul c = ap value_given c.from_residual.ensures ∙ sym (digit-large c.args.v c.args.c (omega arith) (omega arith))

pub returns : goal.returns
returns c = digit-added c.args.v c.args.c c.number-d.ensures (omega arith) c.in_ok-checked_mul.ensures.1 _ c.checked_add.ensures
