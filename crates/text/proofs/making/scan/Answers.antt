-- `making::scan`: what is left to read brings the rest of the way.
use mathlib.Core.Path.{◌≡◌, sym, ap, ◌∙◌}
use Prim.Native.Nat.{ℕ, ◌+◌, ◌≤◌}
use native.Mathlib.Omega.{arith}
use lib.ListN.{length, get_or}
use Rattle.text.specs.declared.Reading.{Reading}
use Rattle.text.specs.Make.{stepped, ends, emitted, made_bytes, last_of}
use Rattle.text.proofs.ScanLaws.{left, ends_more, ends-end, count-more, count-end, stepped_start, one_if, bool_byte-le}
use Rattle.text.proofs.making.scan.Goals as goal

pub loop-i-init : goal.loop-i-init
unfolding made_bytes last_of
loop-i-init c =
    let text = c.args.text.now in (
      omega arith,
      omega (arith, ap (λ (z : Reading). z.start) c.begin-s.ensures),
      ap (λ (z : Reading). ends z 0 (left text 0)) c.begin-s.ensures,
      omega (arith, ap (λ (z : Reading). length (emitted z 0 (left text 0))) c.begin-s.ensures),
    )

pub loop-i-preserved : goal.loop-i-preserved
loop-i-preserved c =
    let text = c.args.text.now in
    let l = c.loop-i in
    let st = c.step-s in
    let h = c.loop-i-test.true in (
      omega (arith, c.from-count.ensures, bool_byte-le st.result.ready),
      omega (arith, ap (λ (z : Reading). z.start) st.ensures, stepped_start l.s l.i (get_or text l.i 0) l.invariant.1),
      ap (λ (z : Reading). ends z (l.i + 1) (left text (l.i + 1))) st.ensures ∙ sym (ends_more text l.i l.s h) ∙ l.invariant.2,
      count-more text l.i l.s st.result l.count (l.count + c.from-count.result) (length (made_bytes text)) (ap (λ (n : ℕ). l.count + n) (c.from-count.ensures ∙ one_if st.result.ready)) l.invariant.3 h st.ensures,
    )

pub returns : goal.returns
returns c =
    let text = c.args.text.now in
    let l = c.loop-i in
    let st = c.step-last in
    let e : length text ≡ l.i = omega arith in
    let h : length text ≤ l.i = omega arith in
    let last : st.result ≡ stepped l.s l.i 10 = st.ensures ∙ ap (λ (n : ℕ). stepped l.s n 10) e in (
      last ∙ sym (ends-end text l.i l.s h) ∙ l.invariant.2,
      count-end text l.i l.s st.result l.count (l.count + c.from.result) (length (made_bytes text)) (ap (λ (n : ℕ). l.count + n) (c.from.ensures ∙ one_if st.result.ready)) l.invariant.3 h last,
      omega (arith, c.from.ensures, bool_byte-le st.result.ready),
      omega (arith, ap (λ (z : Reading). z.start) last, stepped_start l.s l.i 10 l.invariant.1),
    )
