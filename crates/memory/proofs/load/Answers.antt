-- `load`: what the lanes gather is what the lines read.
use mathlib.Core.Path.{◌∙◌}
use Rattle.memory.proofs.GroupLaws.{gathered}
use Rattle.memory.proofs.load.Goals as goal

pub returns : goal.returns
returns c =
    let a = c.args in
    let bytes = c.read_all-bytes in
    c.gather.ensures ∙ gathered a.mem.now bytes.result a.mode a.addr bytes.ensures
