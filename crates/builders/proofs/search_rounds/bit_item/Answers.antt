-- `builders::search_rounds::bit_item`: 32 bytes of 0 are the item of 0 on every line, and 32 bytes of 255 that of 1, both computed. Assumes nothing.
use mathlib.Core.Path.{◌≡◌, sym, ap}
use Prim.Native.Nat.{ℕ}
use native.Mathlib.Omega.{arith}
use Rattle.bits.specs.Bits.{digit, listed, digits_of, byte_of, item}
use Rattle.builders.proofs.search_rounds.bit_item.Goals as goal

pub returns-then-number-k-eq0 : goal.returns-then-number-k-eq0
unfolding listed byte_of digits_of
returns-then-number-k-eq0 c = ap (λ (b : ℕ). item (λ p. b)) (sym c.if-number-k-eq0.true)

pub returns-else-number-k-eq0 : goal.returns-else-number-k-eq0
unfolding listed byte_of digits_of
returns-else-number-k-eq0 c =
    let a = c.args in
    let e : 1 ≡ digit a.number a.k = omega arith in
    ap (λ (b : ℕ). item (λ p. b)) e
