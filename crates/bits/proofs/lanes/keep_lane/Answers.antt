-- `keep_lane`: the bytes so far are the first of the list.
use mathlib.Core.Path.{refl, ap}
use lib.ListN.{length-set}
use lib.Bits.{bit_or}
use lib.ListN.{get_or}
use Rattle.bits.specs.Bits.{listed}
use Rattle.bits.proofs.Items.{fill_more}
use native.Mathlib.Omega.{arith}
use Rattle.bits.proofs.lanes.keep_lane.Goals as goal

pub loop-i-init : goal.loop-i-init
unfolding listed
loop-i-init c = (refl, refl)

pub loop-i-preserved : goal.loop-i-preserved
loop-i-preserved c =
    let a = c.args in
    let l = c.loop-i in
    (simp length-set l.invariant.0, fill_more _ l.out l.i _ (omega arith) l.invariant.1 (ap (bit_or (get_or a.acc.now l.i 0)) c.moved_digit.ensures))
