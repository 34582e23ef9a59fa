-- `closing::rounds::put_spreading`: behind the marks the buffer has those of the first k bits, by `rounds-more`. Assumes nothing.
use mathlib.Core.Path.{◌≡◌}
use Prim.Native.Nat.{◌*◌}
use Rattle.bits.specs.Steps.{put_at}
use Rattle.builders.specs.Lists.{encoded, rounds}
use Rattle.closing.specs.Closing.{spread_slice}
use Rattle.closing.proofs.rounds.put_spreading.Given as goal

abbrev pub invariant-loop-k : goal.invariant-loop-k
invariant-loop-k l = l.list ≡ put_at (8 * 1) (encoded (rounds (spread_slice l.f.a l.f.s) l.k)) l.initial.list
