-- `turned`: each turn puts one row more behind those before it.
use mathlib.Core.Path.{◌≡◌}
use Prim.Native.Nat.{◌*◌}
use lib.ListN.{length, take}
use Rattle.bits.specs.Bits.{listed}
use Rattle.words.specs.Turned.{turned_byte}
use Rattle.words.proofs.ordering.turned.Given as goal

abbrev pub invariant-loop-a : goal.invariant-loop-a
invariant-loop-a l = (length l.out ≡ 256) × (take (32 * l.a) l.out ≡ listed (turned_byte l.bytes) (32 * l.a))
