-- `showing::show`: one answer for each refusal, and the text.
use mathlib.Core.Path.{sym, ap, ◌∙◌}
use mathlib.Core.List.{◌++◌}
use Prim.Native.Nat.{ℕ}
use native.Mathlib.Omega.{arith}
use lib.ListN.{length, drop}
use Rattle.bits.proofs.Puts.{put_whole}
use Rattle.judge.proofs.RowLaws.{fit-size}
use Rattle.text.specs.Show.{shown_text, shown_as}
use Rattle.text.proofs.ShownLaws.{unfitting, too_short, done}
use Rattle.text.proofs.showing.show.Goals as goal

pub returns-then-unfit : goal.returns-then-unfit
unfolding shown_text
returns-then-unfit c =
    let a = c.args in
    let given = unfitting a.list.now a.text.now (sym c.unfit.ensures ∙ c.if-unfit.true) in
    record { answer = sym given.0; text = sym given.1 }

pub returns-then-text-size : goal.returns-then-text-size
unfolding shown_text
returns-then-text-size c =
    let size = c in
    let a = size.args in
    let given =
    too_short a.list.now a.text.now (sym size.unfit.ensures ∙ size.if-unfit.false) (omega (arith, size.text_size-size.ensures, c.if-text-size.true)) in
    record { answer = sym given.0; text = sym given.1 }

pub returns : goal.returns
unfolding shown_text
returns c =
    let test = c in
    let size = test in
    let a = size.args in
    let list = a.list.now in
    let out = a.text.now in
    let whole = put_whole c.put_lines.ensures in
    let given = done list out (sym size.unfit.ensures ∙ size.if-unfit.false) (omega (arith, size.text_size-size.ensures, test.if-text-size.false)) in record { answer = ap (λ (x : ℕ). shown_as 0 x) whole.0 ∙ sym given.0; text = whole.1 ∙ ap (λ (x : ℕ). shown_text list ++ drop x out) whole.0 ∙ sym given.1 }

pub text_size-size-requires : goal.text_size-size-requires
text_size-size-requires c =
    let most = fit-size 8 (length c.args.list.now) (sym c.unfit.ensures ∙ c.if-unfit.false) in
    (omega arith, omega (arith, most))

pub put_lines-requires : goal.put_lines-requires
put_lines-requires c = (omega arith, omega (arith, c.text_size-size.ensures, c.if-text-size.false))
