-- `closing::rounds::put_spread_bit`: between the first instruction and the last the buffer has the first k rounds, by `round-more`. Assumes nothing.
use mathlib.Core.Path.{◌≡◌}
use Prim.Native.Nat.{◌+◌, ◌*◌}
use Rattle.bits.specs.Steps.{put_at}
use Rattle.builders.specs.Lists.{encoded, rounds}
use Rattle.closing.specs.Closing.{spread_round}
use Rattle.closing.proofs.rounds.put_spread_bit.Given as goal

abbrev pub invariant-loop-k : goal.invariant-loop-k
invariant-loop-k l = l.list ≡ put_at (8 * (l.at + 1)) (encoded (rounds (spread_round) l.k)) l.initial.list
