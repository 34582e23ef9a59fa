-- `words::value_of`: the digits that are left make the number.
use Rattle.std.proofs.Common.{◌+◌, ◌∙◌, sym, ap, drop, arith}
use Rattle.std.proofs.lemmas.Bool.Decides.{nat_tests}
use Rattle.assembly.specs.Words.{Value, value_by, value_of}
use Rattle.assembly.specs.Steps.{value_given}
use Rattle.assembly.proofs.WordLaws.{value-more, value-end, value-none, value-short}
use Rattle.assembly.proofs.words.value_of.Goals as goal

pub returns-then-characters-gt20 : goal.returns-then-characters-gt20
unfolding value_of
returns-then-characters-gt20 c = grind (arith, nat_tests)

pub returns-in_err-v : goal.returns-in_err-v
returns-in_err-v c =
    let l = c.args.characters.now in
    let i = c.loop-c.c-index in
    ap value_given c.from_residual.ensures
    ∙ sym (value-none l i _ c.loop-c-test.true (ap value_given (sym (c.in_err-v.was)) ∙ c.with_digit.ensures))
    ∙ c.loop-c.invariant
    ∙ value-short l c.if-characters-gt20.false

pub loop-c-preserved : goal.loop-c-preserved
loop-c-preserved c =
    let l = c.args.characters.now in
    let i = c.loop-c.c-index in
    ap (λ (x : Value). value_by x (drop (i + 1) l)) (ap value_given (sym (c.in_ok-v.was)) ∙ c.with_digit.ensures)
    ∙ sym (value-more l i _ c.loop-c-test.true)
    ∙ c.loop-c.invariant

pub returns : goal.returns
returns c =
    let l = c.args.characters.now in
    sym (value-end l c.loop-c.c-index _ c.loop-c-test.false) ∙ c.loop-c.invariant ∙ value-short l c.if-characters-gt20.false
