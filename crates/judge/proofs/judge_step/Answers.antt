-- `judge::judge_step`: what is lent, then the list. Assumes nothing.
use mathlib.Core.Path.{◌∙◌}
use Rattle.judge.specs.Judge.{step_rows}
use Rattle.judge.proofs.Given.{lent-refused, lent-stands}
use Rattle.judge.proofs.judge_step.Goals as goal

pub returns-in_err-step_lent : goal.returns-in_err-step_lent
returns-in_err-step_lent c =
    let a = c.args in
    lent-refused (step_rows a.l a.m a.instruction.now) a.l a.m a.instruction.now _ _ c.from_residual.ensures.1 c.in_err-step_lent.ensures

pub returns : goal.returns
returns c = let a = c.args in c.judge_list.ensures ∙ lent-stands (step_rows a.l a.m a.instruction.now) a.l a.m a.instruction.now c.in_ok-step_lent.ensures
