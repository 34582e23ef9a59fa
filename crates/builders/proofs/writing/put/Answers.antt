-- `builders::writing::put`: the lent part that comes back, by `part-copied`. Assumes nothing.
use mathlib.Core.Path.{refl}
use Prim.Native.Nat.{◌*◌}
use Rattle.builders.specs.Lists.{encoded}
use Rattle.builders.proofs.PutLaws.{part-copied}
use Rattle.builders.proofs.writing.put.Goals as goal

pub returns : goal.returns
unfolding encoded
returns c = part-copied (8 * c.args.at) 8 c.args.list.now _ _ refl c.copy_from_slice.ensures.after
