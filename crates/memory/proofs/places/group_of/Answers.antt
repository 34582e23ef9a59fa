-- `group_of`: the code is the definition, once the number is widened; its range is that of the definition.
use mathlib.Core.Path.{ap, sym, subst}
use Prim.Native.Nat.{ℕ, ◌<◌}
use lib.Bits.{bit_xor}
use Rattle.memory.proofs.GroupLaws.{group_of-lt}
use native.Mathlib.Omega.{arith}
use Rattle.memory.proofs.places.group_of.Goals as goal

pub returns : goal.returns
returns c =
    let a = c.args in
    let e = ap (λ (x : ℕ). bit_xor x a.i) c.from.ensures in
    (e, subst (λ (x : ℕ). x < 32) (sym e) (group_of-lt a.addr a.i (omega arith) (omega arith)))
