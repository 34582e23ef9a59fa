-- `making::place_of`: each turn is one character more.
use mathlib.Core.Path.{refl}
use native.Mathlib.Omega.{arith}
use Rattle.std.proofs.lemmas.Grind.{common_steps}
use Rattle.text.specs.Make.{line_at, column_at}
use Rattle.text.proofs.ScanLaws.{line-more, column-more}
use Rattle.text.proofs.making.place_of.Goals as goal
use Rattle.text.proofs.making.place_of.Goals.{then-text-k-eq10, else-text-k-eq10}

pub loop-k-init : goal.loop-k-init
unfolding line_at column_at
loop-k-init c = (omega arith, omega arith, refl, refl)

pub loop-k-preserved : goal.loop-k-preserved
loop-k-preserved c =
    let text = c.args.text.now in
    let k = c.loop-k.k in
    elim c.if-text-k-eq10.branch [
      | then-text-k-eq10 w ↦ grind (arith, common_steps, line-more text k, column-more text k)
      | else-text-k-eq10 w ↦ grind (arith, common_steps, line-more text k, column-more text k)
    ]
