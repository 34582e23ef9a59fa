-- `builders::search_rounds::Search::put_list`: behind its first instruction the buffer has the first k rounds, by `round-more`. Assumes nothing.
use mathlib.Core.Path.{◌≡◌, refl, sym, ap, ◌∙◌}
use mathlib.Core.List.{[], ◌∷◌}
use Prim.Native.Nat.{ℕ, ◌+◌, ◌*◌}
use native.Mathlib.Omega.{arith}
use Rattle.bits.specs.Steps.{put_at}
use Rattle.bits.proofs.Puts.{put-nil}
use Rattle.judge.specs.declared.Instruction.{Instruction}
use Rattle.builders.specs.Lists.{encoded, rounds}
use Rattle.builders.specs.Searches.{is_less, started, search_round, search_rounds, move_x}
use Rattle.builders.proofs.ListLaws.{length-search-rounds}
use Rattle.builders.proofs.PutLaws.{put-more, round-more}
use Rattle.builders.proofs.search_rounds.Search.put_list.Goals as goal

pub loop-k-init : goal.loop-k-init
unfolding rounds encoded
loop-k-init c = sym (put-nil _ _)

pub loop-k-preserved : goal.loop-k-preserved
loop-k-preserved c =
    let a = c.args in
    let l = c.loop-k in
    let less = is_less a.self in
    round-more (λ k. search_round less (a.a + k)) l.k 1 (1 + 3 * l.k) c.put.new.list l.list c.put_all.new.list (omega arith)
    (omega (arith, length-search-rounds less a.a l.k)) l.invariant c.round.ensures c.put_all.ensures

pub returns : goal.returns
returns c =
    let a = c.args in
    let l = c.loop-k in
    let less = is_less a.self in
    let xs = a.list.now in
    let rs = search_rounds less a.a a.n in
    let e : l.k ≡ a.n = omega arith in
    put-more 0 (1 + 3 * a.n) (started less ∷ rs) (move_x ∷ []) xs l.list c.put-2.new.list (omega arith) (omega (arith, length-search-rounds less a.a a.n))
    (put-more 0 1 (started less ∷ []) rs xs c.put.new.list l.list (omega arith) refl
    (c.put.ensures ∙ ap (λ (i : Instruction). put_at 0 (encoded (i ∷ [])) xs) c.started.ensures)
    (l.invariant ∙ ap (λ (n : ℕ). put_at (8 * 1) (encoded (search_rounds less a.a n)) c.put.new.list) e))
    (c.put-2.ensures ∙ ap (λ (i : Instruction). put_at (8 * (1 + 3 * a.n)) (encoded (i ∷ [])) l.list) c.logic_from.ensures)
