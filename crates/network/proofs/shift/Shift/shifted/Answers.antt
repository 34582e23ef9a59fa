-- `shift::Shift::shifted`: the quarters so far are the first of the shifted ones; each is the law `joined_is`.
use mathlib.Core.Path.{refl}
use native.Mathlib.Omega.{arith}
use lib.ListN.{length-set}
use Rattle.bits.specs.Bits.{listed}
use Rattle.bits.specs.Quarters.{quarter_of, line_at}
use Rattle.bits.proofs.Items.{fill_more, fill_done}
use Rattle.network.specs.Pass.{unshifted}
use Rattle.network.proofs.TurnLaws.{reach-le, reach-pos, reach-most, joined_is}
use Rattle.network.proofs.shift.Shift.shifted.Goals as goal

pub overflow_sub-down : goal.overflow_sub-down
overflow_sub-down c = omega (arith, c.places-up.ensures, c.places.ensures, reach-le c.args.self.p c.args.self.m c.args.self.ordered c.args.self.within)

pub loop-i-init : goal.loop-i-init
unfolding listed
loop-i-init c = (refl, refl)

pub overflow_shr-q : goal.overflow_shr-q
overflow_shr-q c = omega (arith, c.places.ensures, c.places-up.ensures, reach-pos c.args.self.m (omega arith), reach-most c.args.self.p c.args.self.within)

pub loop-i-preserved : goal.loop-i-preserved
loop-i-preserved c =
    let w = c.wrapped-k in
    let l = c.loop-i in
    let a = c.args in (
      simp length-set l.invariant.0,
      fill_more (quarter_of (λ k. line_at a.q (unshifted a.self.p a.self.m k))) l.out l.i _ (omega arith) l.invariant.1
          (joined_is a.q a.self.p a.self.m l.i w.result c.places.result c.places-up.result c.mask-which.result
          c.mix.result c.args.self.ordered (omega arith) w.ensures.0 c.places.ensures c.places-up.ensures c.mask-which.ensures c.mix.ensures),
    )

pub returns : goal.returns
returns c = fill_done _ c.loop-i.out 4 _ c.loop-i.invariant.0 (omega arith) c.loop-i.invariant.1
