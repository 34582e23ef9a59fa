-- `byte_at`: the code is the definition, once the numbers are widened; its range is that of the definition.
use mathlib.Core.Path.{ap₂, sym, subst}
use Prim.Native.Nat.{ℕ, ◌<◌}
use lib.Bits.{bit_and, bit_xor}
use Rattle.memory.proofs.GroupLaws.{byte_at-lt}
use native.Mathlib.Omega.{arith}
use Rattle.memory.proofs.places.byte_at.Goals as goal

pub returns : goal.returns
returns c =
    let a = c.args in
    let e = ap₂ (λ (x y : ℕ). bit_xor x (bit_and y a.k)) c.from.ensures c.from-2.ensures in
    (e, subst (λ (x : ℕ). x < 32) (sym e) (byte_at-lt a.mode a.addr a.k (omega arith) (omega arith)))
