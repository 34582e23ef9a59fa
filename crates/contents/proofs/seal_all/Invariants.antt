-- `seal_all`: the first i blocks stand at the start of the output, and behind them what was there.
use mathlib.Core.List.{◌++◌}
use mathlib.Core.Path.{◌≡◌}
use Prim.Native.Nat.{◌*◌}
use lib.ListN.{length, drop}
use Rattle.contents.specs.File.{first_blocks}
use Rattle.contents.specs.Payloads.{payloads}
use Rattle.contents.proofs.seal_all.Given as goal

abbrev pub invariant-loop-i : goal.invariant-loop-i
invariant-loop-i l =
    (length l.out ≡ length l.initial.out) × (l.out ≡ first_blocks l.kind (payloads l.initial.out 0 l.size) l.count l.i ++ drop (512 * l.i) l.initial.out)
