-- `put_item`: each turn is one byte more; then the line feed.
use mathlib.Core.Path.{refl, ap, ◌∙◌}
use mathlib.Core.List.{List, [], ◌∷◌, ◌++◌}
use Prim.Native.Nat.{ℕ}
use lib.Seq.{take_all}
use Rattle.report.specs.Report.{hexed}
use Rattle.bits.proofs.Puts.{none-put, then-put}
use Rattle.report.proofs.ReportLaws.{hexed-more}
use native.Mathlib.Omega.{arith}
use Rattle.report.proofs.put_item.Goals as goal

pub loop-x-init : goal.loop-x-init
unfolding hexed
loop-x-init c = (refl, omega arith, none-put _ _)

pub loop-x-preserved : goal.loop-x-preserved
loop-x-preserved c =
    let a = c.args in
    let l = c.loop-x in
    let r = c.put_byte-next in (
      r.auto.text ∙ l.invariant.0,
      omega (arith, r.ensures.0),
      then-put (omega arith) l.invariant.2 r.ensures.1 (hexed-more a.item.now l.x-index (omega arith)),
    )

pub returns : goal.returns
returns c =
    let a = c.args in
    let l = c.loop-x in
    let p = c.put in (
      omega (arith, p.ensures.behind),
      then-put (omega arith) l.invariant.2 p.ensures
          (ap (λ (x : List ℕ). hexed x ++ (10 ∷ [])) (take_all l.x-index a.item.now (omega arith))),
    )
