-- `gather`: each turn is one lane more.
use mathlib.Core.Path.{◌≡◌, refl, ap, ◌∙◌}
use Prim.Native.Nat.{ℕ, ◌-◌, ◌+◌, ◌*◌}
use mathlib.Core.List.{List}
use borrow.Author.Rules.{rules}
use lib.ListN.{get_or, take, drop}
use Rattle.bits.specs.Bits.{digit, listed, digits_of}
use Rattle.bits.proofs.Binary.{digit-bit}
use Rattle.memory.specs.Groups.{line_digit}
use Rattle.memory.proofs.GroupLaws.{lane-digit, gather-more}
use native.Mathlib.Omega.{arith}
use Rattle.memory.proofs.reading.gather.Goals as goal

pub loop-j-init : goal.loop-j-init
unfolding listed digits_of
loop-j-init c = refl

pub loop-j-preserved : goal.loop-j-preserved
loop-j-preserved c =
    let a = c.args in
    let l = c.loop-j in
    let t = c.partner-t in
    let w = c.from-from in
    let s = c.place_of in
    let part = take (32 * w.result + 32 - 32 * w.result) (drop (32 * w.result) a.bytes.now) in
    let lane : c.unwrap-lane.result.now ≡ part = search rules in
    c.gather_lane-out.ensures
    ∙ gather-more (line_digit a.bytes.now a.mode a.addr) (λ i k. digit-bit _ _) l.out _ s.result l.j (omega arith) l.invariant
    (λ i h. ap (λ (x : List ℕ). digit (get_or x i 0) s.result) lane ∙ lane-digit a.bytes.now a.mode a.addr l.j t.result (32 * w.result) s.result (32 * w.result + 32 - 32 * w.result) i t.ensures.0 (ap (λ (x : ℕ). 32 * x) w.ensures) s.ensures.0 (omega arith))
