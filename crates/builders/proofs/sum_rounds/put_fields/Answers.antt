-- `builders::sum_rounds::put_fields`: behind `lead` the buffer has the first k rounds, by `round-more`. Assumes nothing.
use mathlib.Core.Path.{◌≡◌, sym, ap, ◌∙◌}
use Prim.Native.Nat.{ℕ, ◌+◌, ◌*◌}
use native.Mathlib.Omega.{arith}
use lib.ListN.{length}
use Rattle.bits.specs.Steps.{put_at}
use Rattle.bits.proofs.Puts.{put-nil}
use Rattle.builders.specs.Lists.{encoded, rounds}
use Rattle.builders.specs.Sums.{bit_round, bit_rounds}
use Rattle.builders.proofs.ListLaws.{length-bits}
use Rattle.builders.proofs.PutLaws.{put-more, round-more}
use Rattle.builders.proofs.sum_rounds.put_fields.Goals as goal

pub loop-k-init : goal.loop-k-init
unfolding rounds encoded
loop-k-init c = sym (put-nil _ _)

pub loop-k-preserved : goal.loop-k-preserved
loop-k-preserved c =
    let a = c.args in
    let l = c.loop-k in
    let o = c.put_all-in-loop-k in
    let lead = length a.lead.now in
    round-more (λ k. bit_round a.byte7 (a.a + k) (a.b + k) (a.s + k)) l.k lead (lead + 5 * l.k) c.put_all.new.list l.list o.new.list (omega arith)
    (omega (arith, length-bits a.byte7 a.a a.b a.s l.k)) l.invariant c.bit_round-round.ensures o.ensures

pub returns : goal.returns
returns c =
    let a = c.args in
    let l = c.loop-k in
    let lead = length a.lead.now in
    let e : l.k ≡ a.n = omega arith in
    put-more 0 lead a.lead.now (bit_rounds a.byte7 a.a a.b a.s a.n) a.list.now c.put_all.new.list l.list (omega arith) (omega arith) c.put_all.ensures
    (l.invariant ∙ ap (λ (n : ℕ). put_at (8 * lead) (encoded (bit_rounds a.byte7 a.a a.b a.s n)) c.put_all.new.list) e)
