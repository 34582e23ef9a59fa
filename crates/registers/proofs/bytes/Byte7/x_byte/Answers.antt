-- `registers::bytes::Byte7::x_byte`: the digits of 5 and 29 are the lines that a choice writes, as `mask-X` says. Assumes nothing.
use mathlib.Core.Path.{refl, ap, ◌∙◌}
use mathlib.Core.Bool.{Bool, cond}
use Prim.Native.Nat.{◌/◌, ◌%◌}
use Rattle.bits.specs.Bits.{digit}
use Rattle.bits.proofs.Binary.{digit-bit}
use Rattle.registers.specs.Logic.{function_bit, new_x}
use Rattle.registers.proofs.LogicLaws.{mixed-of, mixed-spread, mask-X}
use native.Mathlib.Omega.{arith}
use Rattle.registers.proofs.bytes.Byte7.x_byte.Goals as goal

pub returns : goal.returns
unfolding new_x
returns c j h =
    let a = c.args in
    mixed-of a.x _ _ _ j _ _ _ c.mix.ensures refl (c.function_byte.ensures j h)
    (mixed-spread 5 (a.self.value / 16) 29 (a.self.value / 16) a.y j c.mix-written.ensures c.spread.ensures c.spread-2.ensures h)
    ∙ ap (λ (b : Bool). cond b (function_bit (a.self.value % 16) (digit a.x j) (digit a.item j)) (digit a.x j)) (mask-X (a.self.value / 16) (digit-bit a.y j) (omega arith))
