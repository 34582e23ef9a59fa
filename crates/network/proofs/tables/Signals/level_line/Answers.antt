-- `tables::Signals::level_line`: a level by what the line obeys.
use Rattle.network.proofs.WireLaws.{level-off, level-on}
use Rattle.network.proofs.tables.Signals.level_line.Goals as goal

pub returns-then-g-f-eq0 : goal.returns-then-g-f-eq0
returns-then-g-f-eq0 c =
    let a = c.args in
    level-off a.f _ _ a.j a.line _ _ c.group-k.ensures.0 c.at-g.ensures c.if-g-f-eq0.true

pub returns-else-g-f-eq0 : goal.returns-else-g-f-eq0
returns-else-g-f-eq0 c =
    let a = c.args in
    level-on a.f _ _ a.j a.line _ _ c.group-k.ensures.0 c.at-g.ensures c.requires c.if-g-f-eq0.false
