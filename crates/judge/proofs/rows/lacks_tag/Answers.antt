-- `judge::rows::lacks_tag`: the callees' contracts put together. Assumes nothing.
use mathlib.Core.Path.{ap}
use mathlib.Core.Bool.{Bool, ◌&&◌}
use lib.Dec.{eqb}
use Rattle.judge.specs.Judge.{lacks_tag}
use Rattle.judge.proofs.rows.lacks_tag.Goals as goal

pub returns : goal.returns
unfolding lacks_tag
returns c = let i = c.args.i in ap (λ (t : Bool). t && eqb i.tag 0) c.tagged.ensures
