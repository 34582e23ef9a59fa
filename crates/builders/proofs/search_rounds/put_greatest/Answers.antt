-- `builders::search_rounds::put_greatest`: behind its first instruction the buffer has the first rounds, by `rounds-more`. Assumes nothing.
use mathlib.Core.Path.{◌≡◌, refl, sym, ap, ◌∙◌}
use mathlib.Core.List.{[], ◌∷◌}
use Prim.Native.Nat.{ℕ, suc, ◌-◌, ◌+◌, ◌*◌}
use native.Mathlib.Numerals.{add-one}
use native.Mathlib.Omega.{arith}
use Rattle.bits.specs.Steps.{put_at}
use Rattle.bits.proofs.Puts.{put-nil}
use Rattle.judge.specs.declared.Instruction.{Instruction}
use Rattle.builders.specs.Lists.{encoded, rounds}
use Rattle.builders.specs.Searches.{clear_x, greatest_round, greatest_rounds}
use Rattle.builders.proofs.ListLaws.{length-greatest-rounds}
use Rattle.builders.proofs.PutLaws.{put-more, rounds-more}
use Rattle.builders.proofs.search_rounds.put_greatest.Goals as goal

pub loop-round-init : goal.loop-round-init
unfolding rounds encoded
loop-round-init c = sym (put-nil _ _)

pub loop-round-preserved : goal.loop-round-preserved
loop-round-preserved c =
    let a = c.args in
    let l = c.loop-round in
    let o = c.put_greatest_round in
    let j = 1 + 11 * l.round in
    rounds-more (λ k. greatest_round (a.a + (a.n - suc k))) l.round 1 j c.put.new.list l.list o.new.list (omega arith)
    (omega (arith, length-greatest-rounds a.a a.n l.round)) l.invariant
    (o.ensures ∙ ap (λ (k : ℕ). put_at (8 * j) (encoded (greatest_round (a.a + (a.n - k)))) l.list) (add-one l.round))

pub returns : goal.returns
returns c =
    let a = c.args in
    let xs = a.list.now in
    let l = c.loop-round in
    let e : l.round ≡ a.n = omega arith in
    put-more 0 1 (clear_x ∷ []) (greatest_rounds a.a a.n a.n) xs c.put.new.list l.list (omega arith) refl
    (c.put.ensures ∙ ap (λ (i : Instruction). put_at 0 (encoded (i ∷ [])) xs) c.logic_from.ensures)
    (l.invariant ∙ ap (λ (k : ℕ). put_at (8 * 1) (encoded (greatest_rounds a.a a.n k)) c.put.new.list) e)
