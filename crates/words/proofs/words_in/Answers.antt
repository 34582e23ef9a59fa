-- `words_in`: the words turned are what the chips are to hold.
use mathlib.Core.Path.{◌∙◌}
use borrow.Author.Rules.{rules}
use native.Mathlib.Omega.{arith}
use Rattle.words.proofs.PlainLaws.{eight-in}
use Rattle.words.proofs.words_in.Goals as goal

pub returns : goal.returns
returns c =
    let a = c.args in
    let t = c.turned in
    c.put_all.ensures
    ∙ eight-in a.mem.now a.words.now a.v (search rules) (λ i. search rules) (omega arith) (search rules) t.new.out t.ensures
