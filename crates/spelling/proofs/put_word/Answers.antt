-- `put_word`: each turn is one character of the rest.
use mathlib.Core.Path.{◌≡◌, refl, sym, subst, ap, ◌∙◌}
use mathlib.Core.List.{List}
use Prim.Native.Nat.{ℕ, ◌+◌}
use native.Mathlib.Omega.{arith}
use lib.ListN.{length, get_or, drop, length-append, drop_of_length-le}
use Rattle.std.specs.List.{flat_map}
use Rattle.spelling.specs.Words.{visible, spelled}
use Rattle.bits.specs.Steps.{Put}
use Rattle.bits.proofs.Puts.{none-put, then-put}
use Rattle.spelling.proofs.ByteLaws.{spelled_bytes, bytes-more}
use Rattle.spelling.proofs.put_word.Goals as goal

pub loop-c-init : goal.loop-c-init
loop-c-init c =
    let a = c.args in
    let e : flat_map visible c.to_be_bytes-c-items.result ≡ spelled a.w = ap (flat_map visible) c.to_be_bytes-c-items.ensures ∙ sym (spelled_bytes a.w (omega arith)) in
    (refl, omega (arith, ap length e), λ last final q. subst (λ (l : List ℕ). Put a.at l a.text.now last final) e q)

pub put_visible-next-requires : goal.put_visible-next-requires
put_visible-next-requires c =
    let bs = c.to_be_bytes-c-items.result in
    let k = c.loop-c.c-index in
    omega (arith, ap length (bytes-more bs k (omega arith)) ∙ length-append (visible (get_or bs k 0)) (flat_map visible (drop (k + 1) bs)))

pub loop-c-preserved : goal.loop-c-preserved
loop-c-preserved c =
    let bs = c.to_be_bytes-c-items.result in
    let l = c.loop-c in
    let k = l.c-index in
    let p = c.put_visible-next in
    let more = bytes-more bs k (omega arith) in
    let size = ap length more ∙ length-append (visible (get_or bs k 0)) (flat_map visible (drop (k + 1) bs)) in (
      p.auto.text ∙ l.invariant.0,
      omega (arith, size, p.ensures.behind, p.auto.text),
      λ e final q. l.invariant.2 e final (then-put (omega arith) p.ensures q (sym more)),
    )

pub returns : goal.returns
returns c =
    let l = c.loop-c in
    let bs = c.to_be_bytes-c-items.result in
    l.invariant.2 l.next l.text
    (subst (λ (x : List ℕ). Put l.next (flat_map visible x) l.text l.next l.text) (sym (drop_of_length-le bs {i = l.c-index} (omega arith))) (none-put l.next l.text))
