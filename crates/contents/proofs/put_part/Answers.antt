-- `put_part`: block i's piece is laid as `part-laid` says.
use mathlib.Core.Path.{◌≡◌, sym, ap, ◌∙◌}
use Prim.Native.Nat.{◌-◌, ◌+◌, ◌*◌, ◌/◌, min}
use native.Mathlib.Omega.{arith}
use lib.ListN.{length, get_or}
use Rattle.bits.specs.Steps.{written}
use Rattle.contents.specs.Payloads.{payload_at}
use Rattle.contents.proofs.PayloadLaws.{part-laid}
use Rattle.contents.proofs.put_part.Goals as goal

pub loop-i-init : goal.loop-i-init
unfolding written
loop-i-init c =
    let a = c.args in
    let none : min (length a.part.now) (496 * (a.at / 496) - a.at) ≡ 0 = omega arith in
    sym (ap (written (λ j. payload_at (a.at + j)) (λ j o. get_or a.part.now j 0) a.out.now) none)

pub loop-i-preserved : goal.loop-i-preserved
loop-i-preserved c =
    let a = c.args in
    let l = c.loop-i in
    let p = c.piece_in-p.result in
    let e = c.piece_in-p.ensures in
    let n = length a.part.now in
    let laid = written (λ j. payload_at (a.at + j)) (λ j o. get_or a.part.now j 0) a.out.now in
    let from : min n (496 * l.i - a.at) ≡ p.in_part = omega (arith, e.begins) in
    let to : min n (496 * (l.i + 1) - a.at) ≡ p.in_part + p.bytes = omega (arith, e.begins, e.ends) in
    part-laid a.at p.in_part n p.in_file p.bytes e.stands (omega (arith, e.begins, e.ends)) a.part.now l.out a.out.now c.copy.new.dst
    (omega (arith, e.begins, e.stands, e.ends)) (omega (arith, e.begins, e.ends)) (l.invariant ∙ ap laid from) c.copy.ensures
    ∙ sym (ap laid to)
