-- `words::skip`: the blanks are those before the first that is none.
use Rattle.std.proofs.Common.{ℕ, ◌+◌, ◌-◌, length, take, drop, not, rules, ◌∙◌, sym, ap}
use borrow.Author.Tests.{tests}
use Rattle.std.proofs.lemmas.Iterator.{YieldsList-from_slice}
use Rattle.std.proofs.lemmas.Iterator.Search.{position_from_yields_List}
use Rattle.text.specs.Make.{blank}
use Rattle.assembly.proofs.WordLaws.{blanks-position, first-place}
use Rattle.assembly.proofs.words.skip.Goals as goal

pub returns : goal.returns
returns c =
    let l = c.args.line.now in
    let left = take (length l - c.args.at) (drop c.args.at l) in
    let e = position_from_yields_List (λ (x : ℕ). not (blank x)) _ _ c.position.result c.position.ensures.ran (YieldsList-from_slice left (cc)) (λ x b q k. search (rules, tests)) in
    let f = first-place (λ (x : ℕ). not (blank x)) l c.args.at c.requires e c.unwrap_or.ensures in
    (f.0, ap (λ (k : ℕ). c.args.at + k) (f.1 ∙ sym (blanks-position (drop c.args.at l))))
