-- `shift::span`: one quarter, or one digit moved up.
use mathlib.Core.Path.{◌≡◌, sym, ap, ◌∙◌}
use Prim.Native.Nat.{ℕ, ◌-◌, ◌^◌}
use native.Mathlib.Nat.{one-mul}
use native.Mathlib.Omega.{arith}
use lib.Pow.{shl_exact}
use Rattle.network.proofs.shift.span.Goals as goal

pub returns-then-e-lt6 : goal.returns-then-e-lt6
returns-then-e-lt6 c = let none : c.args.e - 6 ≡ 0 = omega arith in sym (ap (λ (x : ℕ). 2 ^ x) none)

pub returns-else-e-lt6 : goal.returns-else-e-lt6
returns-else-e-lt6 c = shl_exact {a = 1} 1 (c.args.e - 6) 64 (omega arith) (omega arith) ∙ one-mul _
