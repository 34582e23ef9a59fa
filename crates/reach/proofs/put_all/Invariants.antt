-- `reach::put_all`: the buffer has the bytes of the instructions passed, and the mode registers are as they leave them. Assumes nothing.
use mathlib.Core.Path.{◌≡◌}
use lib.ListN.{length}
use Rattle.bits.specs.Steps.{put_at}
use Rattle.judge.specs.Modes.{modes_after}
use Rattle.reach.specs.Reach.{reach_bytes}
use Rattle.reach.proofs.put_all.Given as goal

abbrev pub invariant-loop-k : goal.invariant-loop-k
invariant-loop-k l = (length l.out ≡ length l.initial.out) × (l.modes ≡ modes_after l.list l.initial.modes l.k) × (l.out ≡ put_at 0 (reach_bytes l.initial.modes l.list l.k) l.initial.out)
