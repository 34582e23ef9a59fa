-- `assembling::write`: each line in turn puts what it makes behind what stands there.
use Rattle.std.proofs.Common.{◌≡◌, ◌*◌, ◌≤◌, length}
use Rattle.bits.specs.Steps.{put_at}
use Rattle.assembly.specs.Assembly.{State}
use Rattle.assembly.proofs.WalkLaws.{Walking}
use Rattle.assembly.proofs.assembling.write.Given as goal

abbrev pub invariant-loop-line : goal.invariant-loop-line
invariant-loop-line l =
    (goal.iterator-loop-line).can_next l.line-iterator × (goal.iterator-loop-line).is_finite l.line-iterator
    × (l.s.list ≤ 22456 * length l.yielded) × (l.s.items ≤ 8160 * length l.yielded)
    × ((st : State) × Walking l.text l.fields l.s (length l.yielded) st × (l.list ≡ put_at 0 st.list l.initial.list) × (l.items ≡ put_at 0 st.items l.initial.items))
