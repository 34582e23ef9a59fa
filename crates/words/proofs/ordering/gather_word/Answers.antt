-- `gather_word`: each turn is one lane more, whose digits stand where they belong.
use mathlib.Core.Path.{◌≡◌, refl, sym, ap, ◌∙◌}
use Prim.Native.Nat.{ℕ, ◌-◌, ◌+◌, ◌*◌}
use mathlib.Core.List.{List}
use borrow.Author.Rules.{rules}
use lib.ListN.{get_or, take, drop}
use Rattle.bits.specs.Bits.{digit, listed, digits_of}
use Rattle.bits.proofs.Binary.{digit-bit}
use Rattle.memory.specs.Groups.{place_of, line_digit}
use Rattle.memory.proofs.GroupLaws.{place-word, lane-digit, gather-more}
use native.Mathlib.Omega.{arith}
use Rattle.words.proofs.ordering.gather_word.Goals as goal

pub loop-j-init : goal.loop-j-init
unfolding listed digits_of
loop-j-init c = refl

pub loop-j-preserved : goal.loop-j-preserved
loop-j-preserved c =
    let a = c.args in
    let l = c.loop-j in
    let t = c.partner in
    let w = c.from-from in
    let from = 32 * w.result in
    let lane : c.unwrap-lane.result.now ≡ take (from + 32 - from) (drop from a.bytes.now) = search rules in
    c.keep_lane-word.ensures
    ∙ gather-more (line_digit a.bytes.now 255 a.addr) (λ i k. digit-bit _ _) l.word _ l.j l.j (omega arith) l.invariant
    (λ i h. ap (λ (x : List ℕ). digit (get_or x i 0) l.j) lane ∙ lane-digit a.bytes.now 255 a.addr l.j t.result from l.j (from + 32 - from) i t.ensures.0 (ap (λ (x : ℕ). 32 * x) w.ensures) (place-word a.addr l.j (omega arith) ∙ ap (place_of 255 a.addr) (sym t.ensures.0)) (omega arith))

pub returns : goal.returns
returns c =
    let a = c.args in
    let e : c.loop-j.j ≡ 8 = omega arith in
    c.copy_from_slice.ensures.after ∙ c.loop-j.invariant ∙ ap (λ (n : ℕ). listed (λ i. digits_of (line_digit a.bytes.now 255 a.addr i) n) 32) e
