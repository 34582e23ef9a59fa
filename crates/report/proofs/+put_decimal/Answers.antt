-- `put_decimal`: the digits of the tenth and then the last digit are the number.
use mathlib.Core.Path.{sym, ap, subst, ◌∙◌}
use mathlib.Core.List.{List, [], ◌∷◌}
use Prim.Native.Nat.{ℕ, ◌+◌, ◌%◌, ◌/◌}
use lib.ListN.{length, length-append}
use native.Mathlib.Omega.{arith}
use Rattle.report.specs.Report.{decimal}
use Rattle.bits.specs.Steps.{Put}
use Rattle.bits.proofs.Puts.{then-put}
use Rattle.report.proofs.ReportLaws.{decimal-small, decimal-more}
use Rattle.report.proofs.+put_decimal.Goals as goal

pub put-requires : goal.put-requires
put-requires t c = omega (arith, ap length (decimal-small c.args.n (omega arith)))

pub returns-then-n-lt10 : goal.returns-then-n-lt10
returns-then-n-lt10 t c =
    let a = c.args in
    let p = c.put in
    subst (λ (l : List ℕ). Put a.at l a.text.now p.result p.new.buffer) (sym (decimal-small a.n (omega arith))) p.ensures

pub put_decimal-next-requires : goal.put_decimal-next-requires
put_decimal-next-requires t c =
    let a = c.args in
    (omega arith, omega (arith, ap length (decimal-more a.n (omega arith)) ∙ length-append (decimal (a.n / 10)) ((48 + a.n % 10) ∷ [])))

pub put-requires-2 : goal.put-requires-2
put-requires-2 t c =
    let a = c.args in
    omega (arith, c.put_decimal-next.ensures.behind, ap length (decimal-more a.n (omega arith)) ∙ length-append (decimal (a.n / 10)) ((48 + a.n % 10) ∷ []))

pub returns : goal.returns
returns t c = then-put (omega arith) c.put_decimal-next.ensures c.put-2.ensures (sym (decimal-more c.args.n (omega arith)))
