-- `words::span`: the characters of a word are those before the first that is in none.
use Rattle.std.proofs.Common.{ℕ, ◌+◌, ◌-◌, length, take, drop, rules, ◌∙◌, sym, ap, arith}
use borrow.Author.Tests.{tests}
use Rattle.std.proofs.lemmas.Iterator.{YieldsList-from_slice}
use Rattle.std.proofs.lemmas.Iterator.Search.{position_from_yields_List}
use Rattle.assembly.specs.Words.{stops}
use Rattle.assembly.proofs.WordLaws.{letters-position, first-place}
use Rattle.assembly.proofs.words.span.Goals as goal

pub returns : goal.returns
returns c =
    let l = c.args.line.now in
    let left = take (length l - c.args.at) (drop c.args.at l) in
    let e = position_from_yields_List (stops) _ _ c.position.result c.position.ensures.ran (YieldsList-from_slice left (cc)) (λ x b q k. search (rules, tests)) in
    let f = first-place (stops) l c.args.at c.requires e c.unwrap_or.ensures in
    (omega arith, f.0, ap (λ (k : ℕ). c.args.at + k) (f.1 ∙ sym (letters-position (drop c.args.at l))))
