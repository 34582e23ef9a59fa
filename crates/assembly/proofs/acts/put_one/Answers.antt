-- `acts::put_one`: eight bytes fill eight.
use mathlib.Core.Path.{sym, ◌∙◌}
use mathlib.Core.List.{[], ◌∷◌}
use Rattle.bits.proofs.Puts.{put_all}
use Rattle.builders.specs.Lists.{encoded}
use Rattle.assembly.proofs.acts.put_one.Goals as goal

pub returns : goal.returns
unfolding encoded
returns c = c.put.ensures ∙ put_all (encoded (c.args.i ∷ [])) c.args.list.now (sym c.requires)
