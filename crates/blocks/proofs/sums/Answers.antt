-- `sums`: the weighted sum grows by the plain sum at each turn, as `weighted-more` says; the bounds keep both below 2^64.
use mathlib.Core.Path.{◌≡◌, refl, ap, ◌∙◌}
use Prim.Native.Nat.{ℕ, ◌%◌, ◌<◌}
use native.Mathlib.Omega.{arith}
use lib.Seq.{get_or-take, length-take-le}
use Rattle.blocks.specs.Sums.{at, total, s1, s2}
use Rattle.blocks.proofs.SumLaws.{plain, weighted, plain_more, weighted-more}
use Rattle.blocks.proofs.sums.Goals as goal
use Rattle.blocks.proofs.sums.Goals.{After-from-a}

summed : (c : After-from-a) → c.loop-x.x-index < 508
summed c = omega (arith, length-take-le 508 c.args.block.now (omega arith))

byte_is : (c : After-from-a) → c.from-a.result ≡ at c.args.block.now c.loop-x.x-index
byte_is c = c.from-a.ensures ∙ get_or-take 508 c.args.block.now c.loop-x.x-index 0 (summed c)

pub slice_bounds-x-items-end : goal.slice_bounds-x-items-end
slice_bounds-x-items-end c = omega (arith, length-take-le 508 c.args.block.now (omega arith))

pub loop-x-init : goal.loop-x-init
unfolding total
loop-x-init c = (refl, refl, omega arith, omega arith)

pub overflow_add-a : goal.overflow_add-a
overflow_add-a c = omega (arith, summed c, byte_is c)

pub overflow_add-b : goal.overflow_add-b
overflow_add-b c = omega (arith, summed c, byte_is c)

pub loop-x-preserved : goal.loop-x-preserved
loop-x-preserved c =
    let b = c.args.block.now in
    let i = c.loop-x.x-index in
    omega (arith, summed c, byte_is c, plain_more b i, weighted-more b i)

pub returns : goal.returns
unfolding s1 s2
returns c =
    let l = c.loop-x in
    let b = c.args.block.now in
    let e : l.x-index ≡ 508 = omega (arith, length-take-le 508 b (omega arith)) in
    (ap (λ (x : ℕ). x % 65535) (l.invariant.0 ∙ ap (plain b) e), ap (λ (x : ℕ). x % 65535) (l.invariant.1 ∙ ap (weighted b) e))
