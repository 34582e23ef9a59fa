-- `put_byte`: the high digit, and the low one behind it.
use mathlib.Core.Path.{subst, refl}
use mathlib.Core.List.{[], ◌∷◌}
use Prim.Native.Nat.{ℕ}
use Rattle.report.specs.Report.{hexed}
use Rattle.bits.specs.Steps.{Put}
use Rattle.bits.proofs.Puts.{then-put}
use native.Mathlib.Omega.{arith}
use Rattle.report.proofs.put_byte.Goals as goal

pub returns : goal.returns
unfolding hexed
returns c =
    let a = c.args in
    let h = c.hex_digit in
    let p = c.put-next in
    let i = c.hex_digit-2 in
    let q = c.put in (
      omega (arith, p.ensures.behind, q.ensures.behind),
      then-put (omega arith)
          (subst (λ (z : ℕ). Put a.at (z ∷ []) a.text.now p.result p.new.buffer) h.ensures p.ensures)
          (subst (λ (z : ℕ). Put p.result (z ∷ []) p.new.buffer q.result q.new.buffer) i.ensures q.ensures) refl,
    )
