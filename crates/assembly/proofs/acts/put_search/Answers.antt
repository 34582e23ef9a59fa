-- `acts::put_search`: either builder fills buffers of just its lengths.
use Rattle.std.proofs.Common.{true, false, ap}
use Rattle.assembly.specs.Steps.{is_less}
use Rattle.assembly.proofs.BuildLaws.{search-left}
use Rattle.assembly.proofs.acts.put_search.Goals as goal

pub returns-in-Equal : goal.returns-in-Equal
returns-in-Equal c =
    let a = c.args in
    let p = c.requires in
    search-left false (is_less a.search) a.a.start a.a.width a.v a.list.now a.items.now (ap is_less c.in-Equal.is) p.0 p.1 p.2 p.3 c.equal_list-built.ensures

pub returns-in-Less : goal.returns-in-Less
returns-in-Less c =
    let a = c.args in
    let p = c.requires in
    search-left true (is_less a.search) a.a.start a.a.width a.v a.list.now a.items.now (ap is_less c.in-Less.is) p.0 p.1 p.2 p.3 c.less_list-built.ensures
