-- `acting::act`: what its parts leave, put together by `act-is`. Assumes nothing.
use mathlib.Core.Path.{ap, ◌∙◌}
use mathlib.Core.Bool.{Bool, cond}
use Rattle.judge.proofs.Shortage.{counts}
use Rattle.module.proofs.ActLaws.{act-is}
use Rattle.module.proofs.acting.act.Goals as goal

pub returns : goal.returns
returns c m e =
    let a = c.args in
    act-is a.i a.mode a.mem.now a.items.now a.out.now a.r a.taken a.given c.if-i-gt-DELIVER.false _ _ _ _ _ _
    c.passed_item-f.ensures c.keep.ensures c.deliver.ensures c.turn.ensures
    (c.from.ensures ∙ counts _ ∙ ap (λ (b : Bool). cond b 1 0) c.takes.ensures)
    (c.from-2.ensures ∙ counts _ ∙ ap (λ (b : Bool). cond b 1 0) c.gives.ensures)
    m e
