-- `flips::exchange_if`: nothing is flipped, or each quarter is the law `exchanged-is`.
use mathlib.Core.Path.{◌≡◌, sym, ap, ◌∙◌}
use Prim.Native.Nat.{ℕ, ◌*◌}
use native.Mathlib.Nat.{one-mul}
use native.Mathlib.Omega.{arith}
use mir.Syntax.{w64}
use mir.Val.{Fits}
use lib.ListN.{get_or}
use lib.Bits.{bit_xor}
use borrow.Author.Rules.{rules}
use Rattle.bits.specs.Quarters.{quarter_of, line_at, flipped_quarters}
use Rattle.bits.proofs.QuarterLaws.{four}
use Rattle.bits.proofs.FlipLaws.{exchanged-is, flipped-none}
use Rattle.bits.proofs.flips.exchange_if.Goals as goal

pub returns-then-on-eq0 : goal.returns-then-on-eq0
returns-then-on-eq0 c =
    let a = c.args in
    let fits : (i : ℕ) → Fits w64 (get_or a.q i 0) = λ i. search rules in
    flipped-none a.q a.on a.k c.if-on-eq0.true (search rules) (λ i. (fits i).fits)

pub returns : goal.returns
returns c =
    let a = c.args in
    let once : a.on ≡ 1 = omega arith in
    let is = exchanged-is a.q a.m a.k in
    four (quarter_of (λ l. line_at a.q (bit_xor l a.k))) _ _ _ _
    (is 0 _ c.requires.1 c.requires.2 (omega arith) c.exchange.ensures)
    (is 1 _ c.requires.1 c.requires.2 (omega arith) c.exchange-2.ensures)
    (is 2 _ c.requires.1 c.requires.2 (omega arith) c.exchange-3.ensures)
    (is 3 _ c.requires.1 c.requires.2 (omega arith) c.exchange-4.ensures)
    ∙ ap (flipped_quarters a.q) (sym (ap (λ (x : ℕ). x * a.k) once ∙ one-mul a.k))
