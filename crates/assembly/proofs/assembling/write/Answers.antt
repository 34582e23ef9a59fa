-- `assembling::write`: each line in turn puts what it makes behind what stands there.
use Rattle.std.proofs.Common.{ℕ, sym, ap, subst, ◌∙◌, rules, of_calls, tests, arith}
use Rattle.std.proofs.lemmas.Iterator.Splits.{YieldsList-from_slice_split}
use Rattle.std.proofs.lemmas.Iterator.Consumers.{YieldsList-at}
use Rattle.std.proofs.lemmas.List.{length_push}
use Rattle.bits.specs.Steps.{put_at}
use Rattle.bits.proofs.Puts.{put-nil}
use Rattle.assembly.specs.declared.assembling.Standing.{Standing}
use Rattle.bits.proofs.RefusalLaws.{number-positive}
use Rattle.assembly.specs.Steps.{made}
use Rattle.assembly.specs.Assembly.{begin, applied, Outcome}
use Rattle.assembly.proofs.ActLaws.{made-stands}
use Rattle.assembly.proofs.LinesLaws.{line-turn, line-end, lines-most}
use Rattle.assembly.proofs.WalkLaws.{Walking, walk-begin, walk_refused, walk-fit, walk-room, walk-next, put_next, put-next-items, walk-end}
use Rattle.assembly.proofs.assembling.write.Goals as goal

pub loop-line-init : goal.loop-line-init
loop-line-init c =
    let e = c.begin-s.ensures in
    let a = c.args in (
      search (rules, of_calls),
      search (rules, of_calls),
      omega (arith, ap (λ (s : Standing). s.list) e),
      omega (arith, ap (λ (s : Standing). s.items) e),
      (begin, walk-begin a.text.now c.requires.1 e, sym (put-nil 0 a.list.now), sym (put-nil 0 a.items.now)),
    )

pub place-requires : goal.place-requires
place-requires c =
    let at = line-turn c.args.text.now _ _ c.loop-line.yielded_by _ _ c.next.ensures.steps c.in-Some.line c.in-Some.is (YieldsList-at c.into_iter-line-iterator.ensures.into_iter_gives (YieldsList-from_slice_split _ _ c.args.text.now c.split-line-items.ensures.rest c.split-line-items.ensures.done c.split-line-items.ensures.closure (λ x b q k. search (rules, tests)))) in
    let w = c.loop-line.invariant.4.1 in
    let a = c.in-Ok.ensures in
    let room = walk-room w at.0 at.1 a (made-stands c.in-Ok.act) in
    ((walk-fit w at.0 at.1 a).1, omega (arith, room.0, c.requires.3, c.loop-line.auto.list), omega (arith, room.1, c.requires.4, c.loop-line.auto.items))

pub put_name-requires : goal.put_name-requires
put_name-requires c =
    let at = line-turn c.args.text.now _ _ c.loop-line.yielded_by _ _ c.next.ensures.steps c.in-Some.line c.in-Some.is (YieldsList-at c.into_iter-line-iterator.ensures.into_iter_gives (YieldsList-from_slice_split _ _ c.args.text.now c.split-line-items.ensures.rest c.split-line-items.ensures.done c.split-line-items.ensures.closure (λ x b q k. search (rules, tests)))) in
    let w = c.loop-line.invariant.4.1 in
    (walk-fit w at.0 at.1 c.in-Ok.ensures).0

pub advance-s-requires : goal.advance-s-requires
advance-s-requires c =
    let at = line-turn c.args.text.now _ _ c.loop-line.yielded_by _ _ c.next.ensures.steps c.in-Some.line c.in-Some.is (YieldsList-at c.into_iter-line-iterator.ensures.into_iter_gives (YieldsList-from_slice_split _ _ c.args.text.now c.split-line-items.ensures.rest c.split-line-items.ensures.done c.split-line-items.ensures.closure (λ x b q k. search (rules, tests)))) in
    let w = c.loop-line.invariant.4.1 in
    let most = lines-most c.args.text.now in
    (omega (arith, at.0, most, c.requires.0, c.loop-line.invariant.2), omega (arith, at.0, most, c.requires.0, c.loop-line.invariant.3))

pub loop-line-preserved-in-Ok : goal.loop-line-preserved-in-Ok
loop-line-preserved-in-Ok c =
    let at = line-turn c.args.text.now _ _ c.loop-line.yielded_by _ _ c.next.ensures.steps c.in-Some.line c.in-Some.is (YieldsList-at c.into_iter-line-iterator.ensures.into_iter_gives (YieldsList-from_slice_split _ _ c.args.text.now c.split-line-items.ensures.rest c.split-line-items.ensures.done c.split-line-items.ensures.closure (λ x b q k. search (rules, tests)))) in
    let w = c.loop-line.invariant.4.1 in
    let more = length_push c.loop-line.yielded c.in-Some.line in
    let a = c.in-Ok.ensures in
    let v = c.advance-s.ensures in
    let p = c.place.ensures in
    let next = walk-next w at.0 at.1 a (made-stands c.in-Ok.act) c.put_name.ensures v.2 in (
      search (rules, of_calls),
      search (rules, of_calls),
      omega (arith, more, c.loop-line.invariant.2, v.0),
      omega (arith, more, c.loop-line.invariant.3, v.1),
      (
        _,
        subst (λ (n : ℕ). Walking c.args.text.now c.put_name.new.fields c.advance-s.result n (applied (made c.in-Ok.act) c.loop-line.invariant.4.0)) (sym more) next,
        put_next w at.0 at.1 a c.args.list.now c.loop-line.invariant.4.2 p.0,
        put-next-items w at.0 at.1 a c.args.items.now c.loop-line.invariant.4.3 p.1,
      ),
    )

pub loop-line-preserved : goal.loop-line-preserved
loop-line-preserved c =
    let at = line-turn c.args.text.now _ _ c.loop-line.yielded_by _ _ c.next.ensures.steps c.in-Some.line c.in-Some.is (YieldsList-at c.into_iter-line-iterator.ensures.into_iter_gives (YieldsList-from_slice_split _ _ c.args.text.now c.split-line-items.ensures.rest c.split-line-items.ensures.done c.split-line-items.ensures.closure (λ x b q k. search (rules, tests)))) in
    let w = c.loop-line.invariant.4.1 in
    let some = number-positive c.in_default.field-0.why in
    let o = walk_refused w at.0 at.1 c.in_default.ensures (λ z. omega (arith, z, some)) in
    absurd (omega (arith, some, c.requires.2, ap (λ (x : Outcome). x.number) o))

pub returns : goal.returns
returns c =
    let end = line-end c.args.text.now _ _ c.loop-line.yielded_by _ _ c.next.ensures.steps c.in-None.is (YieldsList-at c.into_iter-line-iterator.ensures.into_iter_gives (YieldsList-from_slice_split _ _ c.args.text.now c.split-line-items.ensures.rest c.split-line-items.ensures.done c.split-line-items.ensures.closure (λ x b q k. search (rules, tests)))) in
    let w = c.loop-line.invariant.4.1 in
    let o = walk-end w end in
    let a = c.args in (
      c.loop-line.invariant.4.2 ∙ ap (λ (x : Outcome). put_at 0 x.state.list a.list.now) (sym o),
      c.loop-line.invariant.4.3 ∙ ap (λ (x : Outcome). put_at 0 x.state.items a.items.now) (sym o),
    )
