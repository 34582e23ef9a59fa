-- `put_items`: each turn is one item more.
use mathlib.Core.Path.{refl, ◌∙◌}
use Rattle.report.specs.Report.{item_lines}
use Rattle.bits.proofs.Puts.{none-put, then-put}
use Rattle.report.proofs.ReportLaws.{lines_more}
use native.Mathlib.Omega.{arith}
use Rattle.report.proofs.put_items.Goals as goal

pub loop-k-init : goal.loop-k-init
unfolding item_lines
loop-k-init c = (refl, omega arith, none-put _ _)

pub loop-k-preserved : goal.loop-k-preserved
loop-k-preserved c =
    let a = c.args in
    let l = c.loop-k in
    let r = c.put_item-next in (
      r.auto.text ∙ l.invariant.0,
      omega (arith, r.ensures.0),
      then-put (omega arith) l.invariant.2 r.ensures.1 (lines_more a.out.now l.k),
    )
