-- `registers::resolver::count_responders`: after some bytes it is the count of their lines that are 1. Assumes nothing.
use mathlib.Core.Path.{refl, ap₂, ◌∙◌}
use Prim.Native.Nat.{ℕ, ◌+◌}
use Rattle.bits.specs.Search.{count}
use Rattle.registers.proofs.ResolverLaws.{count-byte, all-counted}
use native.Mathlib.Omega.{arith}
use Rattle.registers.proofs.resolver.count_responders.Goals as goal

pub loop-x-init : goal.loop-x-init
unfolding count
loop-x-init c = (omega arith, refl)

pub loop-x-preserved : goal.loop-x-preserved
loop-x-preserved c =
    let l = c.loop-x in
    let e = c.ones_of-n.ensures in
    (omega (arith, e.1), ap₂ (λ (a b : ℕ). a + b) l.invariant.1 e.0 ∙ count-byte c.args.y.now l.x-index (c.fits-y l.x-index))

pub returns : goal.returns
returns c =
    let l = c.loop-x in
    (all-counted c.args.y.now l.x-index l.n (omega arith) l.invariant.1, omega arith)
