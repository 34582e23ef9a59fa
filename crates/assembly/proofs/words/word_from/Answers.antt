-- `words::word_from`: by what its calls gave.
use Rattle.assembly.specs.Words.{word_from}
use Rattle.assembly.proofs.words.word_from.Goals as goal

pub returns : goal.returns
unfolding word_from
returns c =
    let a = c.args in
    let s = c.skip-start in
    let n = c.span-next in (
      simp (c.spell-word.ensures, n.ensures.2, s.ensures.1),
      n.ensures.0,
      n.ensures.1,
    )
