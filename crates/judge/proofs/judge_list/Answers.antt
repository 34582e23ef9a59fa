-- `judge::judge_list`: what the walk gives back, and what the searches find, as `list-item` to `list_done` say. Assumes nothing.
use mathlib.Core.Path.{refl, sym, ap, ◌∙◌}
use Prim.Native.Nat.{ℕ, ◌/◌}
use native.Mathlib.Omega.{arith}
use lib.ListN.{length}
use Rattle.bits.proofs.RefusalLaws.{number-never-zero}
use Rattle.bits.proofs.Search.{count-le}
use Rattle.judge.specs.Answers.{Answer}
use Rattle.judge.specs.Instructions.{instruction_at, takes, gives}
use Rattle.judge.specs.Judge.{refusal}
use Rattle.judge.proofs.Given.{answer-err}
use Rattle.judge.proofs.Numbers.{list-item, list-room, list_done}
use Rattle.judge.proofs.Shortage.{enough, lacking, walk-refused, walk-done}
use Rattle.judge.proofs.judge_list.Goals as goal

pub returns-in_err-done : goal.returns-in_err-done
returns-in_err-done c =
    answer-err _ _ c.from_residual.ensures.1 ∙ walk-refused c.args.m c.args.list.now c.args.l _ (number-never-zero _) c.in_err-done.ensures

pub overflow_mul-done : goal.overflow_mul-done
overflow_mul-done c =
    let list = c.args.list.now in
    let w = walk-done c.args.m list c.args.l _ refl c.in_ok-done.ensures in
    omega (arith, ap (λ (a : Answer). a.taken) w.1, count-le (λ k. takes (instruction_at list k)) (length list / 8))

pub returns-then-l-done : goal.returns-then-l-done
returns-then-l-done c =
    let a = c.args in
    let list = a.list.now in
    let w = walk-done a.m list a.l _ refl c.in_ok-done.ensures in
    let l = lacking takes list a.l.items (length list / 8) (omega (arith, ap (λ (a : Answer). a.taken) w.1)) in
    ap (λ (k : ℕ). refusal 12 k 0) c.shortage.ensures ∙ sym (list-item a.l a.m list w.0 l)

pub overflow_mul-done-2 : goal.overflow_mul-done-2
overflow_mul-done-2 c =
    let list = c.args.list.now in
    let w = walk-done c.args.m list c.args.l _ refl c.in_ok-done.ensures in
    omega (arith, ap (λ (a : Answer). a.given) w.1, count-le (λ k. gives (instruction_at list k)) (length list / 8))

pub returns-then-l-done-2 : goal.returns-then-l-done-2
returns-then-l-done-2 c =
    let a = c.args in
    let list = a.list.now in
    let w = walk-done a.m list a.l _ refl c.in_ok-done.ensures in
    let f = enough takes list a.l.items (length list / 8) (omega (arith, ap (λ (a : Answer). a.taken) w.1)) in
    let l = lacking gives list a.l.out (length list / 8) (omega (arith, ap (λ (a : Answer). a.given) w.1)) in
    ap (λ (k : ℕ). refusal 13 k 0) c.shortage-then-l-done-2.ensures ∙ sym (list-room a.l a.m list w.0 f l)

pub returns : goal.returns
returns c =
    let a = c.args in
    let list = a.list.now in
    let w = walk-done a.m list a.l _ refl c.in_ok-done.ensures in
    let f = enough takes list a.l.items (length list / 8) (omega (arith, ap (λ (a : Answer). a.taken) w.1)) in
    let g = enough gives list a.l.out (length list / 8) (omega (arith, ap (λ (a : Answer). a.given) w.1)) in
    w.1 ∙ sym (list_done a.l a.m list w.0 f g)
