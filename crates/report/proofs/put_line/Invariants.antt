-- `put_line`: each turn is one number more, behind the letter.
use Rattle.std.proofs.Common.{◌≡◌, ◌≤◌, ◌+◌, ◌*◌, length, take}
use Rattle.std.specs.Prelude.{flat_map}
use Rattle.report.specs.Report.{spaced}
use Rattle.bits.specs.Steps.{Put}
use Rattle.report.proofs.put_line.Given as goal

abbrev pub invariant-loop-n : goal.invariant-loop-n
invariant-loop-n l = (length l.text ≡ length l.initial.text) × (l.next ≤ 1 + 11 * l.n-index)
    × Put l.initial.next (flat_map spaced (take l.n-index l.n-items)) l.initial.text l.next l.text
