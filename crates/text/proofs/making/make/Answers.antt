-- `making::make`: one answer for each refusal, and the bytes.
use mathlib.Core.Path.{◌≡◌, sym, ap, ap₂, ◌∙◌}
use mathlib.Core.List.{List, ◌++◌}
use Prim.Native.Nat.{ℕ}
use native.Mathlib.Omega.{arith}
use lib.ListN.{drop}
use Rattle.bits.proofs.RefusalLaws.{number-positive}
use Rattle.bits.proofs.Puts.{put_whole}
use Rattle.std.specs.Prelude.{Err}
use Rattle.text.specs.declared.Reading.{Reading}
use Rattle.text.specs.declared.Refused.{Refused}
use Rattle.text.specs.Make.{answer, number_of, last_of, made_bytes, refused_at}
use Rattle.text.specs.Results.{made_of}
use Rattle.text.proofs.MadeLaws.{too_long, bad, too_many, too_short, done}
use Rattle.text.proofs.LineNumbers.{refused-numbers}
use Rattle.text.proofs.making.make.Goals as goal

pub returns-then-text-gt1048576 : goal.returns-then-text-gt1048576
returns-then-text-gt1048576 c =
    let a = c.args in
    let given = too_long a.text.now a.out.now c.if-text-gt1048576.true in
    record { answer = ap (λ (r : Refused). made_of (Err r)) c.into.ensures ∙ sym given.0; bytes = sym given.1 }

pub refusal-requires : goal.refusal-requires
refusal-requires c = rw c.scan-count.ensures.0 (refused-numbers c.args.text.now)

-- the number of the text's last line, as it was asked for
numbered : (text : List ℕ) {r : Reading} {n : ℕ} → n ≡ number_of r.line.phase → r ≡ last_of text → n ≡ number_of (last_of text).line.phase
numbered text e q = e ∙ ap (λ (x : Reading). number_of x.line.phase) q

pub returns-in-Err : goal.returns-in-Err
returns-in-Err c =
    let a = c.args in
    let sc = c.scan-count in
    let n = numbered a.text.now c.in-Err.ensures sc.ensures.0 in
    let given = bad a.text.now a.out.now c.if-text-gt1048576.false (λ z. omega (arith, n, z, number-positive c.in-Err.why)) in
    record { answer = c.refused_at.ensures ∙ ap₂ (λ (x y : ℕ). refused_at a.text.now x y) n (ap (λ (x : Reading). x.start) sc.ensures.0) ∙ sym given.0; bytes = sym given.1 }

pub returns-then-size-gt-MOST_BYTES : goal.returns-then-size-gt-MOST_BYTES
returns-then-size-gt-MOST_BYTES c =
    let sc = c.scan-count in
    let a = c.args in
    let n = numbered a.text.now c.in_default.ensures sc.ensures.0 in
    let given = too_many a.text.now a.out.now c.if-text-gt1048576.false (sym n) (omega (arith, sc.ensures.1, c.if-size-gt-MOST_BYTES.true)) in
    record { answer = ap (λ (r : Refused). made_of (Err r)) c.into-then-size-gt-MOST_BYTES.ensures ∙ sym given.0; bytes = sym given.1 }

pub returns-then-out-size : goal.returns-then-out-size
returns-then-out-size c =
    let sc = c.scan-count in
    let a = c.args in
    let n = numbered a.text.now c.in_default.ensures sc.ensures.0 in
    let given =
    too_short a.text.now a.out.now c.if-text-gt1048576.false (sym n)
    (omega (arith, sc.ensures.1, c.if-size-gt-MOST_BYTES.false)) (omega (arith, sc.ensures.1, c.if-out-size.true)) in
    record { answer = ap (λ (r : Refused). made_of (Err r)) c.into-then-out-size.ensures ∙ sym given.0; bytes = sym given.1 }

pub returns : goal.returns
returns c =
    let w = c.write in
    let sc = c.scan-count in
    let a = c.args in
    let text = a.text.now in
    let out = a.out.now in
    let n = numbered a.text.now c.in_default.ensures sc.ensures.0 in
    let whole = put_whole w.ensures in
    let given =
    done text out c.if-text-gt1048576.false (sym n)
    (omega (arith, sc.ensures.1, c.if-size-gt-MOST_BYTES.false)) (omega (arith, sc.ensures.1, c.if-out-size.false)) in record { answer = ap (λ (x : ℕ). answer 0 0 0 x) whole.0 ∙ sym given.0; bytes = whole.1 ∙ ap (λ (x : ℕ). made_bytes text ++ drop x out) whole.0 ∙ sym given.1 }
