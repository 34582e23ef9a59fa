-- `closing::rounds::put_closing`: the copies, the rounds, and what clears the other words, one behind the other by `put-more`. Assumes nothing.
use mathlib.Core.Path.{ap, ◌∙◌}
use mathlib.Core.List.{[], ◌∷◌, ◌++◌}
use Prim.Native.Nat.{◌+◌, ◌*◌}
use native.Mathlib.Omega.{arith}
use Rattle.bits.specs.Steps.{put_at}
use Rattle.judge.specs.declared.Instruction.{Instruction}
use Rattle.builders.specs.Lists.{encoded, rounds}
use Rattle.builders.specs.Searches.{clear_x}
use Rattle.closing.specs.Closing.{take_mask, copy_slice, close_round, clear_slice}
use Rattle.closing.proofs.Lengths.{length-copies, length-close-rounds}
use Rattle.builders.proofs.PutLaws.{put-more}
use Rattle.closing.proofs.rounds.put_closing.Goals as goal

pub returns : goal.returns
returns c =
    let a = c.args in
    let n = a.f.n in
    let copies = rounds (copy_slice a.f.a a.f.s) n in
    let closes = rounds (close_round a.f.s n) 8 in
    let clears = rounds (clear_slice a.f.s) n in
    let l₀ = c.put_copies.new.list in
    let l₁ = c.put_close_rounds.new.list in
    let l₂ = c.put_all.new.list in
    let l₃ = c.put_clears.new.list in
    put-more 0 (2 * n) copies (closes ++ (take_mask ∷ clear_x ∷ clears)) a.list.now l₀ l₃ (omega arith)
    (omega (arith, length-copies a.f.a a.f.s n)) c.put_copies.ensures
    (put-more (2 * n) (8 + 18 * n) closes (take_mask ∷ clear_x ∷ clears) l₀ l₁ l₃ (omega arith) (omega (arith, length-close-rounds a.f.s n 8))
    c.put_close_rounds.ensures
    (put-more (8 + 18 * n) (10 + 18 * n) (take_mask ∷ clear_x ∷ []) clears l₁ l₂ l₃ (omega arith) (omega arith)
    (c.put_all.ensures ∙ ap (λ (i : Instruction). put_at (8 * (8 + 18 * n)) (encoded (take_mask ∷ i ∷ [])) l₁) c.logic_from.ensures)
    c.put_clears.ensures))
