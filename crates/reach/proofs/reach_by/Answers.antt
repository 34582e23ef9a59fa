-- `reach::reach_by`: whether it stores, whether it has a number, and then its mode. Assumes nothing.
use mathlib.Core.Path.{sym, ap, ◌∙◌}
use mathlib.Core.Bool.{not}
use Rattle.judge.specs.declared.modes.Settled.{Settled}
use Rattle.judge.specs.Answers.{fault_given}
use Rattle.judge.proofs.Given.{fault-numbered, fault-numberless}
use Rattle.reach.specs.Reach.{reach_of}
use Rattle.reach.proofs.Answers.{idle-is, refused-is, reached-is}
use Rattle.reach.proofs.reach_by.Goals as goal

pub returns-then-not-stores : goal.returns-then-not-stores
returns-then-not-stores c = idle-is c.args.m c.args.i _ c.stores.ensures (ap not c.if-not-stores.true)

pub returns-then-is_err : goal.returns-then-is_err
returns-then-is_err c =
    let a = c.args in
    refused-is a.m a.i _ c.stores.ensures (ap not c.if-not-stores.false) (fault_given c.fault.result) c.fault.ensures (fault-numbered c.fault.result (sym c.is_err.ensures.value ∙ c.if-is_err.true))

pub returns : goal.returns
returns c =
    let a = c.args in
    c.reach_of.ensures
    ∙ ap (λ (x : Settled). reach_of x.mode) c.settle.ensures
    ∙ reached-is a.m a.i _ c.stores.ensures (ap not c.if-not-stores.false) (fault_given c.fault.result) c.fault.ensures (fault-numberless c.fault.result (sym c.is_err.ensures.value ∙ c.if-is_err.false))
