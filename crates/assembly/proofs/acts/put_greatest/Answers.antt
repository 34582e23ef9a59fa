-- `acts::put_greatest`: the builder fills a buffer of just its length.
use Rattle.assembly.proofs.BuildLaws.{greatest-left}
use Rattle.assembly.proofs.acts.put_greatest.Goals as goal

pub returns : goal.returns
returns c =
    let a = c.args in
    greatest-left a.a.start a.a.width a.list.now c.requires.0 c.requires.1 c.greatest_list-built.ensures
