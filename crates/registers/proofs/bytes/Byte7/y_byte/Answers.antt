-- `registers::bytes::Byte7::y_byte`: the digits of 22 are the choices that write Y, as `mask-Y` says. Assumes nothing.
use mathlib.Core.Path.{refl, ap, ◌∙◌}
use mathlib.Core.Bool.{Bool, cond}
use Prim.Native.Nat.{◌/◌, ◌%◌}
use Rattle.bits.specs.Bits.{digit}
use Rattle.registers.specs.Logic.{function_bit, new_y}
use Rattle.registers.proofs.LogicLaws.{spread_at, mixed-of, mask-Y}
use native.Mathlib.Omega.{arith}
use Rattle.registers.proofs.bytes.Byte7.y_byte.Goals as goal

pub returns : goal.returns
unfolding new_y
returns c j h =
    let a = c.args in
    mixed-of a.y _ _ _ j _ _ _ c.mix.ensures refl (c.function_byte.ensures j h) (spread_at _ 22 (a.self.value / 16) j c.spread.ensures h)
    ∙ ap (λ (b : Bool). cond b (function_bit (a.self.value % 16) (digit a.y j) (digit a.item j)) (digit a.y j)) (mask-Y (a.self.value / 16) (omega arith))
