-- `showing::put_line`: each turn is one word of the rest.
use mathlib.Core.Path.{◌≡◌, refl, sym, ap, subst, ◌∙◌}
use mathlib.Core.List.{List, ◌++◌}
use Prim.Native.Nat.{ℕ, ◌+◌}
use native.Mathlib.Omega.{arith}
use lib.ListN.{length, get_or, drop, length-append}
use Rattle.spelling.specs.Words.{spelled}
use borrow.Rule.Slice.PartMut.{mid_of}
use Rattle.std.proofs.lemmas.Grind.{common_steps}
use Rattle.bits.specs.Steps.{Put}
use Rattle.bits.proofs.Puts.{then-put}
use Rattle.text.specs.Show.{spaced, rest}
use Rattle.text.proofs.PutLaws.{line_first, rest_more, rest_end}
use Rattle.text.proofs.showing.put_line.Goals as goal

-- the words behind the first
behind : (ws : List ℕ) → length ws ≡ 19 → mid_of 1 18 ws ≡ drop 1 ws
behind ws h = grind (arith, common_steps)

pub put_word-next-requires : goal.put_word-next-requires
put_word-next-requires c =
    let ws = c.args.ws.now in
    omega (arith, ap length (line_first ws (omega arith)) ∙ length-append (spelled (get_or ws 0 0)) (rest (drop 1 ws)))

pub loop-w-init : goal.loop-w-init
loop-w-init c =
    let ws = c.args.ws.now in
    let p = c.put_word-next in
    let e = ap length (line_first ws (omega arith)) ∙ length-append (spelled (get_or ws 0 0)) (rest (drop 1 ws)) in
    (refl, omega (arith, e, p.ensures.behind), omega (arith, e, p.ensures.behind, ap (λ (x : List ℕ). length (rest x)) (behind ws (omega arith))), λ e final q. q)

pub put_spaced-next-requires : goal.put_spaced-next-requires
put_spaced-next-requires c =
    let l = c.loop-w in
    let ws = (mid_of 1 18 c.args.ws.now) in
    omega (arith, ap length (rest_more ws l.w-index (omega arith)) ∙ length-append (spaced (get_or ws l.w-index 0)) (rest (drop (l.w-index + 1) ws)))

pub loop-w-preserved : goal.loop-w-preserved
loop-w-preserved c =
    let l = c.loop-w in
    let ws = (mid_of 1 18 c.args.ws.now) in
    let p = c.put_spaced-next in
    let more = rest_more ws l.w-index (omega arith) in
    let size = ap length more ∙ length-append (spaced (get_or ws l.w-index 0)) (rest (drop (l.w-index + 1) ws)) in (
      p.auto.text ∙ l.invariant.0,
      l.invariant.1,
      omega (arith, size, p.ensures.behind, p.auto.text),
      λ e final q. l.invariant.3 e final (then-put (omega arith) p.ensures q (sym more)),
    )

pub put-requires : goal.put-requires
put-requires c =
    let l = c.loop-w in
    omega (arith, ap length (rest_end (mid_of 1 18 c.args.ws.now) l.w-index (omega arith)))

pub returns : goal.returns
returns c =
    let ws = c.args.ws.now in
    let first = c.put_word-next in
    let l = c.loop-w in
    let p = c.put in
    let end = rest_end (mid_of 1 18 c.args.ws.now) l.w-index (omega arith) in
    let tail = l.invariant.3 p.result p.new.buffer (subst (λ (x : List ℕ). Put l.next x l.text p.result p.new.buffer) (sym end) p.ensures) in
    then-put (omega arith) first.ensures tail (ap (λ (x : List ℕ). spelled (get_or ws 0 0) ++ rest x) (behind ws (omega arith)) ∙ sym (line_first ws (omega arith)))
