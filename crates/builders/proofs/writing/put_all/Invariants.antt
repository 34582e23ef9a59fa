-- `builders::writing::put_all`: the buffer has the first k of them, by `all-more`. Assumes nothing.
use mathlib.Core.Path.{◌≡◌}
use Prim.Native.Nat.{◌*◌}
use lib.ListN.{take}
use Rattle.bits.specs.Steps.{put_at}
use Rattle.builders.specs.Lists.{encoded}
use Rattle.builders.proofs.writing.put_all.Given as goal

abbrev pub invariant-loop-k : goal.invariant-loop-k
invariant-loop-k l = l.list ≡ put_at (8 * l.at) (encoded (take l.k l.instructions)) l.initial.list
