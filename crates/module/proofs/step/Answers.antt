-- `step`: what the step by value leaves, whose record is stored where it is done. Assumes nothing.
use mathlib.Core.Path.{ap, ◌∙◌}
use Rattle.judge.specs.Answers.{Answer}
use Rattle.judge.proofs.Given.{answer-err}
use Rattle.module.proofs.step.Goals as goal

pub returns-in_err-stepped : goal.returns-in_err-stepped
returns-in_err-stepped c =
    ap (λ (a : Answer). record { memory = c.advance.new.mem; registers = c.args.r.now; out = c.advance.new.out; answer = a }) (answer-err _ _ c.from_residual.ensures.1)
    ∙ c.in_err-stepped.ensures
