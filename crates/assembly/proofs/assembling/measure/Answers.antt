-- `assembling::measure`: each line in turn leads on to the outcome.
use Rattle.std.proofs.Common.{ℕ, ◌+◌, length, sym, ap, subst, ◌∙◌, rules, of_calls, tests, arith}
use Rattle.std.proofs.lemmas.Iterator.Splits.{YieldsList-from_slice_split}
use Rattle.std.proofs.lemmas.Iterator.Consumers.{YieldsList-at, YieldsList-from_enumerate}
use Rattle.std.proofs.lemmas.List.{length_push}
use Rattle.assembly.specs.declared.assembling.Standing.{Standing}
use Rattle.bits.proofs.RefusalLaws.{number-positive}
use Rattle.assembly.specs.Steps.{made}
use Rattle.assembly.specs.Assembly.{begin, applied, Outcome}
use Rattle.assembly.proofs.ActLaws.{made-stands}
use Rattle.assembly.proofs.LinesLaws.{numbered-turn, numbered-end, lines-most}
use Rattle.assembly.proofs.WalkLaws.{Walking, walk-begin, walk_refused, walk-fit, walk-next, walk-end}
use Rattle.assembly.proofs.assembling.measure.Goals as goal

pub loop-k-init : goal.loop-k-init
loop-k-init c =
    let e = c.begin-s.ensures in
    (search (rules, of_calls), search (rules, of_calls), omega (arith, ap (λ (s : Standing). s.list) e), omega (arith, ap (λ (s : Standing). s.items) e), (begin, walk-begin c.args.text.now c.requires.1 e))

pub put_name-requires : goal.put_name-requires
put_name-requires c =
    let at = numbered-turn c.args.text.now _ _ c.loop-k.yielded_by _ _ c.next.ensures.steps c.in-Some.k c.in-Some.line c.in-Some.is (YieldsList-at c.into_iter-k-iterator.ensures.into_iter_gives (YieldsList-from_enumerate (YieldsList-at c.enumerate-k-items.ensures.source (YieldsList-from_slice_split _ _ c.args.text.now c.split.ensures.rest c.split.ensures.done c.split.ensures.closure (λ x b q k. search (rules, tests)))) c.enumerate-k-items.ensures.count)) in
    (walk-fit c.loop-k.invariant.4.1 at.0 at.2 c.in-Ok.ensures).0

pub advance-s-requires : goal.advance-s-requires
advance-s-requires c =
    let at = numbered-turn c.args.text.now _ _ c.loop-k.yielded_by _ _ c.next.ensures.steps c.in-Some.k c.in-Some.line c.in-Some.is (YieldsList-at c.into_iter-k-iterator.ensures.into_iter_gives (YieldsList-from_enumerate (YieldsList-at c.enumerate-k-items.ensures.source (YieldsList-from_slice_split _ _ c.args.text.now c.split.ensures.rest c.split.ensures.done c.split.ensures.closure (λ x b q k. search (rules, tests)))) c.enumerate-k-items.ensures.count)) in
    let most = lines-most c.args.text.now in
    (omega (arith, at.0, most, c.requires.0, c.loop-k.invariant.2), omega (arith, at.0, most, c.requires.0, c.loop-k.invariant.3))

pub returns-in-Err : goal.returns-in-Err
returns-in-Err c =
    let at = numbered-turn c.args.text.now _ _ c.loop-k.yielded_by _ _ c.next.ensures.steps c.in-Some.k c.in-Some.line c.in-Some.is (YieldsList-at c.into_iter-k-iterator.ensures.into_iter_gives (YieldsList-from_enumerate (YieldsList-at c.enumerate-k-items.ensures.source (YieldsList-from_slice_split _ _ c.args.text.now c.split.ensures.rest c.split.ensures.done c.split.ensures.closure (λ x b q k. search (rules, tests)))) c.enumerate-k-items.ensures.count)) in
    let o = walk_refused c.loop-k.invariant.4.1 at.0 at.2 c.in-Err.ensures (λ z. omega (arith, z, number-positive c.in-Err.fault.why)) in
    (ap (λ (x : Outcome). x.number) o, ap (λ (x : Outcome). x.line) o ∙ ap (λ (n : ℕ). n + 1) (sym at.1), ap (λ (x : Outcome). x.column) o)

pub loop-k-preserved : goal.loop-k-preserved
loop-k-preserved c =
    let at = numbered-turn c.args.text.now _ _ c.loop-k.yielded_by _ _ c.next.ensures.steps c.in-Some.k c.in-Some.line c.in-Some.is (YieldsList-at c.into_iter-k-iterator.ensures.into_iter_gives (YieldsList-from_enumerate (YieldsList-at c.enumerate-k-items.ensures.source (YieldsList-from_slice_split _ _ c.args.text.now c.split.ensures.rest c.split.ensures.done c.split.ensures.closure (λ x b q k. search (rules, tests)))) c.enumerate-k-items.ensures.count)) in
    let more = length_push c.loop-k.yielded (c.in-Some.k, c.in-Some.line) in
    let v = c.advance-s.ensures in
    let next = walk-next c.loop-k.invariant.4.1 at.0 at.2 c.in-Ok.ensures (made-stands c.in-Ok.act) c.put_name.ensures v.2 in (
      search (rules, of_calls),
      search (rules, of_calls),
      omega (arith, more, c.loop-k.invariant.2, v.0),
      omega (arith, more, c.loop-k.invariant.3, v.1),
      (_, subst (λ (n : ℕ). Walking c.args.text.now c.put_name.new.fields c.advance-s.result n (applied (made c.in-Ok.act) c.loop-k.invariant.4.0)) (sym more) next),
    )

pub returns : goal.returns
returns c =
    let end = numbered-end c.args.text.now _ _ c.loop-k.yielded_by _ _ c.next.ensures.steps c.in-None.is (YieldsList-at c.into_iter-k-iterator.ensures.into_iter_gives (YieldsList-from_enumerate (YieldsList-at c.enumerate-k-items.ensures.source (YieldsList-from_slice_split _ _ c.args.text.now c.split.ensures.rest c.split.ensures.done c.split.ensures.closure (λ x b q k. search (rules, tests)))) c.enumerate-k-items.ensures.count)) in
    let w = c.loop-k.invariant.4.1 in
    let o = walk-end w end in
    (ap (λ (x : Outcome). x.number) o, sym w.list ∙ ap (λ (x : Outcome). length x.state.list) (sym o), sym w.items ∙ ap (λ (x : Outcome). length x.state.items) (sym o))
