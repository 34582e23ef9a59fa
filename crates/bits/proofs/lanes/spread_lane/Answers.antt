-- `spread_lane`: the bytes so far are the first of the lane.
use mathlib.Core.Path.{refl, ap}
use Prim.Native.Nat.{ℕ}
use lib.Bits.{bit_xor}
use lib.ListN.{length-set}
use Rattle.bits.specs.Bits.{listed}
use Rattle.bits.proofs.Items.{fill_more, bit_of-moved}
use native.Mathlib.Omega.{arith}
use Rattle.bits.proofs.lanes.spread_lane.Goals as goal

pub loop-i-init : goal.loop-i-init
unfolding listed
loop-i-init g c = (refl, refl)

pub loop-i-preserved : goal.loop-i-preserved
loop-i-preserved g c =
    let a = c.args in
    let l = c.loop-i in
    let v = bit_of-moved a.item.now l.i a.j a.s _ (omega arith) (omega arith) c.moved_digit.ensures in
    (simp length-set l.invariant.0, fill_more _ l.out l.i _ (omega arith) l.invariant.1 (ap (λ (x : ℕ). bit_xor x g.row.TURNED) v))
