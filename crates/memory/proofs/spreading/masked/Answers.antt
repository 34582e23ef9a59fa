-- `masked`: the bytes so far are the first of the item.
use mathlib.Core.Path.{refl}
use lib.ListN.{length-set}
use Rattle.bits.specs.Bits.{listed}
use Rattle.bits.proofs.Items.{fill_more}
use native.Mathlib.Omega.{arith}
use Rattle.memory.proofs.spreading.masked.Goals as goal

pub loop-i-init : goal.loop-i-init
unfolding listed
loop-i-init c = (refl, refl)

pub loop-i-preserved : goal.loop-i-preserved
loop-i-preserved c =
    let l = c.loop-i in
    (simp length-set l.invariant.0, fill_more _ l.out l.i _ (omega arith) l.invariant.1 refl)
