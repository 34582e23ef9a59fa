-- `acts::place`: the lent parts come back filled.
use mathlib.Core.Path.{sym}
use Rattle.builders.proofs.PutLaws.{part-copied}
use Rattle.assembly.specs.Steps.{made}
use Rattle.assembly.specs.Acts.{list_of, items_of}
use Rattle.assembly.proofs.acts.place.Goals as goal

pub returns : goal.returns
returns c =
    let a = c.args in
    let l = c.list_size in
    let i = c.items_size in
    let b = c.build in (
      part-copied a.at l.result a.list.now _ (list_of (made a.act)) (sym l.ensures.1) b.ensures.0,
      part-copied a.item i.result a.items.now _ (items_of (made a.act)) (sym i.ensures.1) b.ensures.1,
    )
