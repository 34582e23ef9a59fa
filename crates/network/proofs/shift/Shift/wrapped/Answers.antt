-- `shift::Shift::wrapped`: on or back, by the computed test.
use mathlib.Core.Path.{sym, ap, ap₂}
use mathlib.Core.Bool.{Bool, cond}
use Prim.Native.Nat.{◌+◌, ◌-◌}
use native.Mathlib.Omega.{arith}
use lib.Bits.{bit_and}
use borrow.Author.Tests.{eq-eqb, ne_eqb}
use Rattle.network.proofs.TurnLaws.{spans, back-le, wrapped-is}
use Rattle.network.proofs.shift.Shift.wrapped.Goals as goal

pub overflow_sub-ahead : goal.overflow_sub-ahead
overflow_sub-ahead c = omega (arith, (spans c.args.self.p c.args.self.m _ _ c.args.self.ordered c.args.self.within c.span.ensures c.span-back.ensures).0)

pub overflow_add-result : goal.overflow_add-result
overflow_add-result c = omega (arith, (spans c.args.self.p c.args.self.m _ _ c.args.self.ordered c.args.self.within c.span.ensures c.span-back.ensures).1)

pub overflow_sub-result : goal.overflow_sub-result
overflow_sub-result c =
    back-le c.args.self.p c.args.self.m _ _ c.args.i c.args.self.ordered c.args.self.within c.requires (ap₂ ◌-◌ c.span.ensures c.span-back.ensures) c.span-back.ensures c.if-i-ahead-eq0.false

pub returns-then-i-ahead-eq0 : goal.returns-then-i-ahead-eq0
returns-then-i-ahead-eq0 c =
    let i = c.args.i in
    let back = c.span-back.result in
    let on = c.span.result - back in
    wrapped-is c.args.self.p c.args.self.m on back i _ c.args.self.ordered c.args.self.within c.requires (ap₂ ◌-◌ c.span.ensures c.span-back.ensures) c.span-back.ensures
    (sym (ap (λ (t : Bool). cond t (i + on) (i - back)) (eq-eqb (bit_and i on) 0 c.if-i-ahead-eq0.true)))

pub returns-else-i-ahead-eq0 : goal.returns-else-i-ahead-eq0
returns-else-i-ahead-eq0 c =
    let i = c.args.i in
    let back = c.span-back.result in
    let on = c.span.result - back in
    wrapped-is c.args.self.p c.args.self.m on back i _ c.args.self.ordered c.args.self.within c.requires (ap₂ ◌-◌ c.span.ensures c.span-back.ensures) c.span-back.ensures
    (sym (ap (λ (t : Bool). cond t (i + on) (i - back)) (ne_eqb (bit_and i on) 0 c.if-i-ahead-eq0.false)))
