-- `tables::Signals::level_byte`: the digits so far are the first of the byte.
use mathlib.Core.Path.{◌≡◌, refl, ap, ap₂, ◌∙◌}
use Prim.Native.Nat.{ℕ, ◌+◌, ◌*◌, ◌%◌, ◌^◌}
use native.Mathlib.Omega.{arith}
use lib.Bits.{bit_or}
use Rattle.bits.specs.Bits.{bit_of, digits_of, byte_of}
use Rattle.bits.proofs.Digits.{or-digit}
use Rattle.bits.proofs.Items.{bit_of-bit}
use Rattle.network.specs.Shifts.{p_of, m_of}
use Rattle.network.specs.Wired.{level}
use Rattle.network.proofs.tables.Signals.level_byte.Goals as goal

pub loop-d-init : goal.loop-d-init
unfolding digits_of
loop-d-init c = refl

pub loop-d-preserved : goal.loop-d-preserved
loop-d-preserved c =
    let a = c.args in
    let l = c.loop-d in
    let s = a.self.now.shift in
    ap₂ (λ (x y : ℕ). bit_or x (y * 2 ^ l.d % 256)) l.invariant (c.bit_at.ensures ∙ ap (bit_of a.lines.now) c.level_line.ensures)
    ∙ or-digit (λ e. bit_of a.lines.now (level a.f (p_of s) (m_of s) a.j (8 * a.i + e))) (λ e. bit_of-bit _ _) l.d 8 (omega arith)

pub returns : goal.returns
unfolding byte_of
returns c =
    let l = c.loop-d in
    let e : l.d ≡ 8 = omega arith in
    l.invariant ∙ ap (digits_of _) e
