-- `reach::reach_of`: a byte has at most eight zero bits, so that the shift loses nothing. Assumes nothing.
use mathlib.Core.Path.{◌∙◌}
use Prim.Native.Nat.{ℕ, ◌-◌, ◌^◌, ◌≤◌}
use native.Mathlib.Nat.{one-mul}
use native.Mathlib.Omega.{arith}
use lib.Count.{ones, ones-le}
use lib.Pow.{ones_sub-lt, shl_exact}
use Rattle.reach.proofs.reach_of.Goals as goal

zeros-le : (m : ℕ) → ones (255 - m) ≤ 8
zeros-le m = ones-le 8 (255 - m) (ones_sub-lt 8 m)

-- the answer before the bounds of its shift, so that a wrong count is refused as one
pub returns : goal.returns
returns c =
    let zeros = ones (255 - c.args.mode) in
    shl_exact {a = 1} 1 zeros 64 (omega arith) (omega (arith, zeros-le c.args.mode)) ∙ one-mul (2 ^ zeros)

pub overflow_cast-result : goal.overflow_cast-result
overflow_cast-result c = omega (arith, zeros-le c.args.mode)

pub overflow_shl-result : goal.overflow_shl-result
overflow_shl-result c = omega (arith, zeros-le c.args.mode)
