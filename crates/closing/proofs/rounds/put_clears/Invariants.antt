-- `closing::rounds::put_clears`: the buffer has the first k of them, by `round-more`. Assumes nothing.
use mathlib.Core.Path.{◌≡◌}
use Prim.Native.Nat.{◌*◌}
use Rattle.bits.specs.Steps.{put_at}
use Rattle.builders.specs.Lists.{encoded, rounds}
use Rattle.closing.specs.Closing.{clear_slice}
use Rattle.closing.proofs.rounds.put_clears.Given as goal

abbrev pub invariant-loop-k : goal.invariant-loop-k
invariant-loop-k l = l.list ≡ put_at (8 * l.at) (encoded (rounds (clear_slice l.f.s) l.k)) l.initial.list
