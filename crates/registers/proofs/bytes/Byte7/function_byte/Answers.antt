-- `registers::bytes::Byte7::function_byte`: three mixes pick the digit of the function, as `function-picked` says. Assumes nothing.
use mathlib.Core.Path.{refl, ◌∙◌}
use Rattle.bits.specs.Bits.{digit}
use Rattle.bits.proofs.Binary.{digit-bit}
use Rattle.registers.proofs.LogicLaws.{mixed-of, mixed-spread, function-picked}
use Rattle.registers.proofs.bytes.Byte7.function_byte.Goals as goal

pub returns : goal.returns
returns c j h =
    let a = c.args in
    mixed-of _ _ a.old _ j _ _ (digit a.old j) c.mix.ensures
    (mixed-spread a.self.value 0 a.self.value 1 a.item j c.mix-zero.ensures c.spread.ensures c.spread-2.ensures h)
    (mixed-spread a.self.value 2 a.self.value 3 a.item j c.mix-one.ensures c.spread-3.ensures c.spread-4.ensures h)
    refl
    ∙ function-picked a.self.value (digit-bit a.old j) (digit-bit a.item j)
