-- `report`: the line, and the items behind it.
use mathlib.Core.Path.{refl}
use Rattle.report.specs.Report.{printed}
use Rattle.bits.proofs.Puts.{then-put, put_whole}
use native.Mathlib.Omega.{arith}
use Rattle.report.proofs.report.Goals as goal

pub returns : goal.returns
unfolding printed
returns c =
    let first = c.put_line-next in
    let rest = c.put_items in
    let whole = put_whole (then-put (omega arith) first.ensures.1 rest.ensures.1 refl) in
    record { room = omega (arith, rest.ensures.0, first.ensures.0, rest.auto.text, first.auto.text); count = whole.0; text = whole.1 }
