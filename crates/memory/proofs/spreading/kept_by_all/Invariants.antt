-- `kept_by_all`: the first bytes of the lanes so far.
use mathlib.Core.Path.{◌≡◌}
use Prim.Native.Nat.{ℕ, ◌<◌, ◌*◌}
use lib.ListN.{length, get_or}
use Rattle.memory.specs.Memory.{every}
use Rattle.memory.specs.Groups.{keep_byte}
use Rattle.memory.proofs.spreading.kept_by_all.Given as goal

abbrev pub invariant-loop-t : goal.invariant-loop-t
invariant-loop-t l = (length l.out ≡ 256) × ((s : ℕ) → s < l.t → get_or l.out (32 * s) 0 ≡ keep_byte every l.mode l.addr 0 s)
