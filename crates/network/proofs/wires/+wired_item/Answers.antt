-- `wires::wired_item`: no levels, or one more than one fewer.
use Rattle.network.proofs.WireLaws.{wired-none, wired-more}
use Rattle.network.proofs.wires.+wired_item.Goals as goal

pub returns-then-n-ne0 : goal.returns-then-n-ne0
returns-then-n-ne0 t c = wired-more _ _ _ _ _ _ _ c.if-n-ne0.true c.wired_item.ensures c.level_item.ensures

pub returns-else-n-ne0 : goal.returns-else-n-ne0
returns-else-n-ne0 t c = wired-none _ _ _ _ _ c.if-n-ne0.false
