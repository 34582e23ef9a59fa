-- `closing::rounds::put_close_rounds`: the buffer has the first t rounds, by `rounds-more`. Assumes nothing.
use mathlib.Core.Path.{◌≡◌}
use Prim.Native.Nat.{◌*◌}
use Rattle.bits.specs.Steps.{put_at}
use Rattle.builders.specs.Lists.{encoded, rounds}
use Rattle.closing.specs.Closing.{close_round}
use Rattle.closing.proofs.rounds.put_close_rounds.Given as goal

abbrev pub invariant-loop-t : goal.invariant-loop-t
invariant-loop-t l = l.list ≡ put_at (8 * l.at) (encoded (rounds (close_round l.f.s l.f.n) l.t)) l.initial.list
