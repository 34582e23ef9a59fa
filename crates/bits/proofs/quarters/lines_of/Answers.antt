-- `quarters::lines_of`: the bytes so far are the first of the item; each turn puts those of one quarter behind them.
use mathlib.Core.Path.{◌≡◌, refl, sym, ap, ◌∙◌}
use Prim.Native.Nat.{ℕ, ◌-◌, ◌+◌, ◌*◌}
use native.Mathlib.Omega.{arith}
use lib.ListN.{take}
use borrow.Rule.Slice.PartMut.{put_mid, same_len_mid}
use Rattle.bits.specs.Bits.{listed, byte_of}
use Rattle.bits.specs.Quarters.{line_at}
use Rattle.bits.proofs.Items.{part-more}
use Rattle.bits.proofs.QuarterLaws.{bytes-out}
use Rattle.bits.proofs.quarters.lines_of.Goals as goal

pub loop-i-init : goal.loop-i-init
unfolding listed
loop-i-init c = (refl, refl)

pub loop-i-preserved : goal.loop-i-preserved
loop-i-preserved c =
    let q = c.args.q in
    let l = c.loop-i in
    let w = c.copy_from_slice in
    let φ : ℕ → ℕ = byte_of (line_at q) in
    let next : 8 * (l.i + 1) ≡ 8 * l.i + 8 = omega arith in
    let eight : 8 ≡ 8 * l.i + 8 - 8 * l.i = omega arith in (
      same_len_mid (8 * l.i) (8 * l.i + 8 - 8 * l.i) l.out w.new.self w.auto.self ∙ l.invariant.0,
      ap (λ (x : ℕ). take x (put_mid (8 * l.i) (8 * l.i + 8 - 8 * l.i) l.out w.new.self)) next
          ∙ part-more φ l.out (8 * l.i) (8 * l.i + 8) w.new.self (omega arith) (omega arith) l.invariant.1
          (w.ensures.after ∙ c.to_le_bytes.ensures ∙ bytes-out q l.i ∙ ap (listed (λ n. φ (8 * l.i + n))) eight)
          ∙ sym (ap (listed φ) next),
    )
