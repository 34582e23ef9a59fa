-- `reach::put_all`: the buffer has the bytes of the instructions passed, and the mode registers are as they leave them. Assumes nothing.
use mathlib.Core.Path.{◌≡◌, refl, sym, ap, ap₂, ◌∙◌}
use Prim.Native.Nat.{ℕ, ◌/◌}
use native.Mathlib.Numerals.{add-one}
use native.Mathlib.Omega.{arith}
use lib.ListN.{length}
use Rattle.bits.specs.Steps.{put_at}
use Rattle.bits.proofs.Puts.{put-nil}
use Rattle.judge.specs.declared.modes.Settled.{Settled}
use Rattle.judge.specs.Modes.{modes_by, modes_after}
use Rattle.reach.specs.Reach.{reach_bytes}
use Rattle.reach.proofs.Answers.{by_le, bytes-more}
use Rattle.reach.proofs.put_all.Goals as goal

pub loop-k-init : goal.loop-k-init
unfolding modes_after
loop-k-init c = (refl, refl, unfold reach_bytes in sym (put-nil _ _))

pub put_two-requires : goal.put_two-requires
put_two-requires c =
    let l = c.loop-k in
    let i = c.decode-i.result in
    (omega arith, omega (arith, c.reach_by.ensures, by_le l.modes i))

pub loop-k-preserved : goal.loop-k-preserved
unfolding modes_after
loop-k-preserved c =
    let p = c in
    let d = p in
    let l = d.loop-k in
    let a = d.args in
    let i = d.decode-i.ensures in
    let o = p.put_two in (
      o.auto.out ∙ l.invariant.0,
      ap (λ (x : Settled). x.modes) c.settle.ensures ∙ ap₂ modes_by i l.invariant.1 ∙ sym (ap (modes_after a.list.now a.m) (add-one l.k)),
      bytes-more a.m a.list.now l.k _ l.modes d.decode-i.result a.out.now l.out o.new.out l.invariant.1 i p.reach_by.ensures
          l.invariant.2 o.ensures,
    )

pub returns : goal.returns
returns c =
    let l = c.loop-k in
    let a = c.args in
    let e : l.k ≡ length a.list.now / 8 = omega arith in
    l.invariant.2 ∙ ap (λ (n : ℕ). put_at 0 (reach_bytes a.m a.list.now n) a.out.now) e
