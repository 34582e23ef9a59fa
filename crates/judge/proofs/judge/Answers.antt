-- `judge::judge`: what is lent, then the list. Assumes nothing.
use mathlib.Core.Path.{◌∙◌}
use Rattle.judge.specs.Judge.{run_rows}
use Rattle.judge.proofs.Given.{lent-refused, lent-stands}
use Rattle.judge.proofs.judge.Goals as goal

pub returns-in_err-run_lent : goal.returns-in_err-run_lent
returns-in_err-run_lent c =
    let a = c.args in
    lent-refused (run_rows a.l a.m a.list.now) a.l a.m a.list.now _ _ c.from_residual.ensures.1 c.in_err-run_lent.ensures

pub returns : goal.returns
returns c = let a = c.args in c.judge_list.ensures ∙ lent-stands (run_rows a.l a.m a.list.now) a.l a.m a.list.now c.in_ok-run_lent.ensures
