-- `words_out`: what is read for the words 8v to 8v+7 is those words turned.
use mathlib.Core.Path.{◌∙◌}
use native.Mathlib.Omega.{arith}
use Rattle.words.proofs.PlainLaws.{eight-out}
use Rattle.words.proofs.words_out.Goals as goal

pub returns : goal.returns
returns c =
    let a = c.args in
    let r = c.read_all-bytes in
    c.turned.ensures ∙ eight-out a.mem.now r.result a.v (omega arith) r.ensures
