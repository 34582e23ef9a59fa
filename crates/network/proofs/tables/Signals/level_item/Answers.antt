-- `tables::Signals::level_item`: the bytes so far are the first of the item after the level.
use mathlib.Core.Path.{refl}
use borrow.Author.Rules.{rules}
use native.Mathlib.Omega.{arith}
use lib.ListN.{length-set}
use Rattle.bits.specs.Bits.{listed}
use Rattle.bits.proofs.Items.{fill_more, fill_done}
use Rattle.network.specs.Wired.{levelled}
use Rattle.network.proofs.tables.Signals.level_item.Goals as goal

pub loop-i-init : goal.loop-i-init
unfolding listed
loop-i-init c = (search rules, refl)

pub loop-i-preserved : goal.loop-i-preserved
loop-i-preserved c =
    let l = c.loop-i in
    (simp length-set l.invariant.0, fill_more _ l.lines l.i _ (omega arith) l.invariant.1 c.level_byte.ensures)

pub returns : goal.returns
unfolding levelled
returns c =
    let l = c.loop-i in
    fill_done _ l.lines 32 _ l.invariant.0 (omega arith) l.invariant.1
