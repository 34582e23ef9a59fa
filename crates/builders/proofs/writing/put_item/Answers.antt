-- `builders::writing::put_item`: the lent part that comes back, by `part-copied`. Assumes nothing.
use Prim.Native.Nat.{◌*◌}
use Rattle.builders.proofs.PutLaws.{part-copied}
use Rattle.builders.proofs.writing.put_item.Goals as goal

pub returns : goal.returns
returns c = part-copied (32 * c.args.at) 32 c.args.items.now _ _ c.requires.1 c.copy_from_slice.ensures.after
