-- `closing::rounds::put_close_round`: behind the mask the buffer has those of the first k bits, by `round-more`. Assumes nothing.
use mathlib.Core.Path.{◌≡◌}
use Prim.Native.Nat.{◌+◌, ◌*◌}
use Rattle.bits.specs.Steps.{put_at}
use Rattle.builders.specs.Lists.{encoded, rounds}
use Rattle.closing.specs.Closing.{close_slice}
use Rattle.closing.proofs.rounds.put_close_round.Given as goal

abbrev pub invariant-loop-k : goal.invariant-loop-k
invariant-loop-k l = l.list ≡ put_at (8 * (l.at + 1)) (encoded (rounds (close_slice l.t l.f.s) l.k)) l.initial.list
