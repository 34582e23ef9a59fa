-- `making::write`: what is left to read brings what is left to put.
use mathlib.Core.Path.{◌≡◌, refl, sym, ap, subst, ◌∙◌}
use mathlib.Core.List.{List}
use Prim.Native.Nat.{ℕ, ◌+◌, ◌≤◌}
use native.Mathlib.Omega.{arith}
use lib.ListN.{length}
use Rattle.bits.specs.Steps.{Put}
use Rattle.bits.proofs.Puts.{then-put}
use Rattle.text.specs.declared.Reading.{Reading}
use Rattle.text.specs.Make.{stepped, emitted, made_bytes}
use Rattle.text.proofs.ScanLaws.{left}
use Rattle.text.proofs.PutLaws.{turn, last, turn-room, last-room}
use Rattle.text.proofs.making.write.Goals as goal

pub loop-i-init : goal.loop-i-init
unfolding made_bytes
loop-i-init c =
    let a = c.args in
    let e = ap (λ (z : Reading). emitted z 0 (left a.text.now 0)) c.begin-s.ensures in
    (refl, omega (arith, ap length e), λ last final q. subst (λ (x : List ℕ). Put 0 x a.out.now last final) e q)

pub put_brought-next-requires : goal.put_brought-next-requires
put_brought-next-requires c =
    let text = c.args.text.now in
    let l = c.loop-i in
    let st = c.step-s in
    omega (arith, turn-room text l.i l.s st.result (omega arith) st.ensures)

pub loop-i-preserved : goal.loop-i-preserved
loop-i-preserved c =
    let text = c.args.text.now in
    let l = c.loop-i in
    let st = c.step-s in
    let p = c.put_brought-next in
    let h : l.i + 1 ≤ length text = omega arith in
    let room = turn-room text l.i l.s st.result (omega arith) st.ensures in (
      p.auto.out ∙ l.invariant.0,
      omega (arith, room, p.ensures.behind, p.auto.out),
      λ e final q. l.invariant.2 e final (then-put (omega arith) p.ensures q (sym (turn text l.i l.s st.result (omega arith) st.ensures))),
    )

pub put_brought-requires : goal.put_brought-requires
put_brought-requires c =
    let text = c.args.text.now in
    let l = c.loop-i in
    let st = c.step in
    let e : length text ≡ l.i = omega arith in
    let last_step : st.result ≡ stepped l.s l.i 10 = st.ensures ∙ ap (λ (n : ℕ). stepped l.s n 10) e in
    omega (arith, last-room text l.i l.s st.result (omega arith) last_step)

pub returns : goal.returns
returns c =
    let text = c.args.text.now in
    let l = c.loop-i in
    let st = c.step in
    let e : length text ≡ l.i = omega arith in
    let last_step : st.result ≡ stepped l.s l.i 10 = st.ensures ∙ ap (λ (n : ℕ). stepped l.s n 10) e in
    let p = c.put_brought in
    l.invariant.2 p.result p.new.out
    (subst (λ (x : List ℕ). Put l.next x l.out p.result p.new.out) (sym (last text l.i l.s st.result (omega arith) last_step)) p.ensures)
