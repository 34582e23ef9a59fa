-- `write_all`: each turn is eight writes more.
use mathlib.Core.Path.{◌≡◌}
use Prim.Native.Nat.{◌+◌, ◌*◌, ◌/◌, ◌%◌}
use lib.ListN.{length, get_or}
use Rattle.bits.specs.Steps.{written}
use Rattle.memory.specs.Groups.{spot, renewed}
use Rattle.memory.proofs.writing.write_all.Given as goal

abbrev pub invariant-loop-i : goal.invariant-loop-i
invariant-loop-i l = (length l.mem ≡ 8192) × (l.mem ≡ written (λ k. spot l.mode l.addr (k / 8) (k % 8)) (λ k o. renewed o (get_or l.keep (32 * (k % 8) + k / 8 % l.n) 0) (get_or l.put (32 * (k % 8) + k / 8) 0)) l.initial.mem (8 * l.i))
