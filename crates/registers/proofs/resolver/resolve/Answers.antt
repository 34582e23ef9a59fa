-- `registers::resolver::resolve`: the activity, and two bytes each of the smallest and of the count. Assumes nothing.
use mathlib.Core.Path.{◌≡◌, ap, ◌∙◌}
use Prim.Native.Nat.{ℕ}
use mir.Val.{bool_byte}
use native.Mathlib.Omega.{arith}
use Rattle.std.specs.Prelude.{Option}
use Rattle.std.specs.Option.{is_some, unwrap_or}
use Rattle.bits.specs.Bits.{bit_of, two}
use Rattle.registers.specs.Resolver.{smallest}
use Rattle.registers.proofs.ResolverLaws.{activity-if, smallest-if, smallest-le, resolved-put, two-bytes}
use Rattle.registers.proofs.resolver.resolve.Goals as goal

pub returns : goal.returns
returns c =
    let y : ℕ → ℕ = bit_of c.args.y.now in
    let line = c.smallest_responder-smallest.ensures in
    let number : c.unwrap_or.result ≡ smallest y = c.unwrap_or.ensures ∙ ap (λ (o : Option ℕ). unwrap_or o 256) line ∙ smallest-if _ (smallest-le y) in
    let count = c.count_responders-count.ensures in
    resolved-put y _ _ _ (c.from.ensures ∙ ap bool_byte (c.is_some.ensures ∙ ap is_some line) ∙ activity-if _)
    (c.copy_from_slice.ensures.after ∙ c.to_le_bytes.ensures ∙ two-bytes _ (omega (arith, number, smallest-le y)) ∙ ap two number)
    (c.copy_from_slice-2.ensures.after ∙ c.to_le_bytes-2.ensures ∙ two-bytes _ (omega (arith, count.1)) ∙ ap two count.0)
