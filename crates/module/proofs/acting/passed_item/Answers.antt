-- `acting::passed_item`: by where the source item stands, and whether a line moves. Assumes nothing.
use mathlib.Core.Path.{◌≡◌, sym, ◌∙◌}
use mathlib.Core.Bool.{false}
use Rattle.network.proofs.AnswerLaws.{none-moved}
use Rattle.judge.specs.Instructions.{takes}
use Rattle.module.proofs.ActLaws.{passed-held}
use Rattle.module.proofs.acting.passed_item.Goals as goal
use Rattle.module.proofs.acting.passed_item.Goals.{Then-takes}

pub returns-then-i-eq0 : goal.returns-then-i-eq0
returns-then-i-eq0 c =
    let untaken : takes c.args.i ≡ false = sym c.takes.ensures ∙ c.if-takes.false in
    let a = c.args in
    c.copied.ensures
    ∙ none-moved c.held_item-s.result a.i.flip a.i.code c.if-i-eq0.true
    ∙ passed-held a.i a.mode a.mem.now a.items.now a.r a.taken untaken _ c.held_item-s.ensures
