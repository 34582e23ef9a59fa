-- `builders::search_rounds::put_greatest_round`: behind its first instruction the buffer has the first e flips, by `rounds-more`. Assumes nothing.
use mathlib.Core.Path.{◌≡◌}
use Prim.Native.Nat.{◌+◌, ◌*◌}
use Rattle.bits.specs.Steps.{put_at}
use Rattle.builders.specs.Lists.{encoded, rounds}
use Rattle.builders.specs.Searches.{or_flipped}
use Rattle.builders.proofs.search_rounds.put_greatest_round.Given as goal

abbrev pub invariant-loop-e : goal.invariant-loop-e
invariant-loop-e l = l.list ≡ put_at (8 * (l.at + 1)) (encoded (rounds or_flipped l.e)) l.initial.list
