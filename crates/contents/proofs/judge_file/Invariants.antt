-- `judge_file`: the blocks so far are good and their content has the size so far.
use mathlib.Core.Path.{◌≡◌}
use Prim.Native.Nat.{◌≤◌, ◌*◌}
use lib.ListN.{length}
use Rattle.contents.specs.File.{blocks_judged, good, gathered}
use Rattle.contents.proofs.judge_file.Given as goal

abbrev pub invariant-loop-place : goal.invariant-loop-place
invariant-loop-place l =
    (blocks_judged l.kind l.bytes l.count l.place ≡ good) × (l.size ≡ length (gathered l.bytes l.place)) × (l.size ≤ 496 * l.place)
