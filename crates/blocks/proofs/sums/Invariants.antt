-- `sums`: the weighted sum grows by the plain sum at each turn, as `weighted-more` says; the bounds keep both below 2^64.
use mathlib.Core.Path.{◌≡◌}
use Prim.Native.Nat.{◌≤◌, ◌*◌}
use Rattle.blocks.proofs.SumLaws.{plain, weighted}
use Rattle.blocks.proofs.sums.Given as goal

abbrev pub invariant-loop-x : goal.invariant-loop-x
invariant-loop-x l =
    (l.a ≡ plain l.block l.x-index) × (l.b ≡ weighted l.block l.x-index) × (l.a ≤ 255 * l.x-index) × (l.b ≤ 129540 * l.x-index)
