-- `assembling::measure`: each line in turn leads on to the outcome.
use Rattle.std.proofs.Common.{◌*◌, ◌≤◌, length}
use Rattle.assembly.specs.Assembly.{State}
use Rattle.assembly.proofs.WalkLaws.{Walking}
use Rattle.assembly.proofs.assembling.measure.Given as goal

abbrev pub invariant-loop-k : goal.invariant-loop-k
invariant-loop-k l =
    (goal.iterator-loop-k).can_next l.k-iterator × (goal.iterator-loop-k).is_finite l.k-iterator
    × (l.s.list ≤ 22456 * length l.yielded) × (l.s.items ≤ 8160 * length l.yielded) × ((st : State) × Walking l.text l.fields l.s (length l.yielded) st)
