-- `part_of`: block i's piece is read as `part-read` says.
use mathlib.Core.Path.{◌≡◌, sym, ap, ◌∙◌}
use Prim.Native.Nat.{ℕ, ◌-◌, ◌+◌, ◌*◌, ◌/◌, min}
use native.Mathlib.Omega.{arith}
use lib.ListN.{length, take}
use borrow.Rule.Slice.PartMut.{put_mid}
use Rattle.bits.specs.Bits.{listed}
use Rattle.contents.specs.Payloads.{payloads}
use Rattle.contents.proofs.PayloadLaws.{part-read}
use Rattle.contents.proofs.part_of.Goals as goal

pub loop-i-init : goal.loop-i-init
unfolding listed
loop-i-init c =
    let a = c.args in
    let none : min (length a.part.now) (496 * (a.at / 496) - a.at) ≡ 0 = omega arith in
    ap (λ (k : ℕ). take k a.part.now) none ∙ sym (ap (payloads a.bytes.now a.at) none)

pub loop-i-preserved : goal.loop-i-preserved
loop-i-preserved c =
    let a = c.args in
    let l = c.loop-i in
    let p = c.piece_in-p.result in
    let e = c.piece_in-p.ensures in
    let n = length a.part.now in
    let from : min n (496 * l.i - a.at) ≡ p.in_part = omega (arith, e.begins) in
    let to : min n (496 * (l.i + 1) - a.at) ≡ p.in_part + p.bytes = omega (arith, e.begins, e.ends) in
    ap (λ (k : ℕ). take k (put_mid p.in_part (p.in_part + p.bytes - p.in_part) l.part c.copy.new.dst)) to
    ∙ part-read a.at p.in_part n p.in_file p.bytes e.stands (omega (arith, e.begins, e.ends)) a.bytes.now l.part c.copy.new.dst
    (omega (arith, e.begins, e.stands, e.ends)) (omega (arith, e.begins, e.ends))
    (sym (ap (λ (k : ℕ). take k l.part) from) ∙ l.invariant ∙ ap (payloads a.bytes.now a.at) from) c.copy.ensures
    ∙ sym (ap (payloads a.bytes.now a.at) to)
