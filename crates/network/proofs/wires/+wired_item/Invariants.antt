-- `wires::wired_item`: the number of levels falls.
use Rattle.network.proofs.wires.+wired_item.Given as goal

abbrev pub decreases-wired_item : goal.decreases-wired_item
decreases-wired_item l = l.n
