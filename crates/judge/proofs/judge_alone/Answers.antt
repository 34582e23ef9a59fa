-- `judge::judge_alone`: what the walk counts, where it stops and where it ends. Assumes nothing.
use mathlib.Core.Path.{sym, ap, ◌∙◌}
use native.Mathlib.Omega.{arith}
use Rattle.std.specs.Prelude.{Err}
use Rattle.judge.specs.declared.Refused.{Refused}
use Rattle.judge.specs.Answers.{fault_given, answer_of}
use Rattle.judge.proofs.Shortage.{tally-faulty, tally-stops, tally-ends}
use Rattle.judge.proofs.judge_alone.Goals as goal

pub unwrap_err-fault-requires : goal.unwrap_err-fault-requires
unwrap_err-fault-requires c =
    let a = c.args in
    tally-faulty a.m a.list.now _ c.tally-tally.ensures (omega arith) _ c.fault_at.ensures

pub returns-then-bad-n : goal.returns-then-bad-n
returns-then-bad-n c =
    let a = c.args in
    ap (λ (r : Refused). answer_of (Err r)) c.at.ensures
    ∙ tally-stops a.m a.list.now _ c.tally-tally.ensures (omega arith) _ _ (sym (ap fault_given c.unwrap_err-fault.ensures) ∙ c.fault_at.ensures)

pub returns : goal.returns
returns c = let a = c.args in tally-ends a.m a.list.now _ c.tally-tally.ensures (omega arith)
