-- `put_spaced`: the space, and the number behind it; a 32-bit number has at most ten digits.
use mathlib.Core.Path.{refl}
use Rattle.bits.proofs.Puts.{then-put}
use Rattle.report.proofs.ReportLaws.{length-decimal}
use native.Mathlib.Omega.{arith}
use Rattle.report.proofs.put_spaced.Goals as goal

pub put_decimal-requires : goal.put_decimal-requires
put_decimal-requires c =
    let a = c.args in
    omega (arith, c.put-next.ensures.behind, length-decimal 9 a.n (omega arith))

pub returns : goal.returns
returns c =
    let a = c.args in
    let s = c.put-next in
    let d = c.put_decimal in (
      omega (arith, s.ensures.behind, d.ensures.behind, length-decimal 9 a.n (omega arith)),
      then-put (omega arith) s.ensures d.ensures refl,
    )
