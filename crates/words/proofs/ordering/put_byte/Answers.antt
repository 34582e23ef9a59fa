-- `put_byte`: the group that has the byte is one of 32.
use Prim.Native.Nat.{◌<◌}
use lib.Bits.{bit_xor, xor_lt}
use borrow.Author.Rules.{rules}
use native.Mathlib.Omega.{arith}
use Rattle.words.proofs.ordering.put_byte.Goals as goal

pub put_group-requires : goal.put_group-requires
put_group-requires c =
    let a = c.args in
    let k : bit_xor a.v a.i < 32 = xor_lt 5 a.v a.i (omega arith) (omega arith) in
    search rules
