-- `closing::rounds::put_copies`: the buffer has the first k bits' copies, by `round-more`. Assumes nothing.
use mathlib.Core.Path.{◌≡◌}
use Rattle.bits.specs.Steps.{put_at}
use Rattle.builders.specs.Lists.{encoded, rounds}
use Rattle.closing.specs.Closing.{copy_slice}
use Rattle.closing.proofs.rounds.put_copies.Given as goal

abbrev pub invariant-loop-k : goal.invariant-loop-k
invariant-loop-k l = l.list ≡ put_at (0) (encoded (rounds (copy_slice l.f.a l.f.s) l.k)) l.initial.list
