-- `shift::Shift::mask`: the groups of ones are the mask, by the computed test.
use mathlib.Core.Path.{◌≡◌, sym, ap, ap₂, ◌∙◌, subst}
use Prim.Native.Nat.{ℕ, ◌*◌, ◌/◌, ◌-◌, ◌^◌, ◌<◌}
use native.Mathlib.Omega.{arith}
use Rattle.network.specs.Turn.{reach, mask}
use Rattle.network.proofs.TurnLaws.{reach-pos, reach-most, ones_pos, mask_is, mask_lt}
use Rattle.network.proofs.shift.Shift.mask.Goals as goal
use Rattle.network.proofs.shift.Shift.mask.Goals.{After-ones-2}

pub ones-requires : goal.ones-requires
ones-requires c =
    let p = c.args.self.p in
    (omega (arith, c.places.ensures, reach-pos p c.args.self.within), omega (arith, c.places.ensures, reach-most p c.args.self.within))

pub nonzero_div-result : goal.nonzero_div-result
nonzero_div-result c =
    let divisor : c.ones.result ≡ 2 ^ reach c.args.self.p - 1 = c.ones.ensures ∙ ap (λ (x : ℕ). 2 ^ x - 1) c.places.ensures in
    omega (arith, divisor, ones_pos c.args.self.p c.args.self.within)

pub ones-requires-2 : goal.ones-requires-2
ones-requires-2 c =
    let m = c.args.self.m in
    (omega (arith, c.places-2.ensures, reach-pos m (omega arith)), omega (arith, c.places-2.ensures, reach-most m (omega arith)))

product : (c : After-ones-2) → 18446744073709551615 / c.ones.result * c.ones-2.result ≡ mask c.args.self.p c.args.self.m
product c =
    ap₂ (λ (x y : ℕ). 18446744073709551615 / x * y) (c.ones.ensures ∙ ap (λ (x : ℕ). 2 ^ x - 1) c.places.ensures)
    (c.ones-2.ensures ∙ ap (λ (x : ℕ). 2 ^ x - 1) c.places-2.ensures)
    ∙ mask_is c.args.self.p c.args.self.m c.args.self.ordered c.args.self.within

pub overflow_mul-result : goal.overflow_mul-result
overflow_mul-result c = record { fits = subst (λ (x : ℕ). x < 2 ^ 64) (sym (product c)) (mask_lt c.args.self.p c.args.self.m c.args.self.ordered c.args.self.within) }

pub returns : goal.returns
returns c = product c
