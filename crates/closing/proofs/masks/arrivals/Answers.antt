-- `closing::masks::arrivals`: after w words the mask is `SoFar`, by `mask-more` where word w's value arrives. Assumes nothing.
use mathlib.Core.Path.{◌≡◌, refl, sym, ap, ◌∙◌}
use mathlib.Core.Bool.{true, false}
use Prim.Native.Nat.{ℕ, ◌<◌}
use native.Mathlib.Nat.{add-zero}
use native.Mathlib.Omega.{arith}
use Rattle.bits.specs.Bits.{listed, digits_of, byte_of, item}
use Rattle.bits.specs.Search.{count}
use Rattle.closing.specs.Closing.{marked, arrivals}
use Rattle.closing.proofs.MaskLaws.{landed, mask_fits, mask-more, mask-stays, mask-unmarked, so_far}
use Rattle.closing.proofs.masks.arrivals.Goals as goal
use Rattle.closing.proofs.masks.arrivals.Goals.{then-is_marked, else-is_marked, then-has_weight, else-has_weight}

pub loop-w-init : goal.loop-w-init
unfolding count listed byte_of digits_of
loop-w-init c = record { words = omega arith; below = omega arith; ranked = refl; filled = refl }

pub add_line-requires : goal.add_line-requires
add_line-requires c =
    let l = c.loop-w in
    let x = sym c.is_marked.ensures ∙ c.if-is_marked.true in
    let y = sym c.has_weight.ensures ∙ c.if-has_weight.true in
    (omega arith, mask_fits l.invariant (omega arith) x y c.rest.result c.rest.ensures.0)

pub loop-w-preserved : goal.loop-w-preserved
loop-w-preserved c =
    let l = c.loop-w in
    let h : l.w < 256 = omega arith in
    let i = sym c.is_marked.ensures in
    elim c.if-is_marked.branch [
      -- word w is marked, and its value arrives or stays
      | then-is_marked z ↦
          so_far l.invariant h true (i ∙ z.if-is_marked.true) z.rank-is
          (z.out-is
          ∙ elim z.if-has_weight.branch [
            | then-has_weight v ↦
                v.out-is ∙ v.add_line.ensures ∙ mask-more l.invariant h (i ∙ z.if-is_marked.true) (sym z.has_weight.ensures ∙ v.if-has_weight.true) v.rest.result v.rest.ensures.0
            | else-has_weight v ↦ v.out-is ∙ mask-stays l.invariant h (i ∙ z.if-is_marked.true) (sym z.has_weight.ensures ∙ v.if-has_weight.false)
          ])
      -- it is not
      | else-is_marked z ↦
          so_far l.invariant h false (i ∙ z.if-is_marked.false) (z.rank-is ∙ sym (add-zero l.rank)) (z.out-is ∙ mask-unmarked l.invariant h (i ∙ z.if-is_marked.false))
    ]

pub returns : goal.returns
unfolding arrivals
returns c =
    let a = c.args in
    let l = c.loop-w in
    let e : l.w ≡ 256 = omega arith in
    l.invariant.filled ∙ ap (λ (w : ℕ). item (landed (marked a.marks.now) a.t a.u w)) e
