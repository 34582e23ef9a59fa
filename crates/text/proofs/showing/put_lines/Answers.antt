-- `showing::put_lines`: each turn is one line of the rest.
use mathlib.Core.Path.{◌≡◌, refl, sym, ap, subst, ◌∙◌}
use mathlib.Core.List.{List}
use Prim.Native.Nat.{ℕ, ◌+◌, ◌-◌}
use native.Mathlib.Omega.{arith}
use lib.ListN.{length, length-append}
use Rattle.bits.specs.Steps.{Put}
use Rattle.bits.proofs.Puts.{none-put, then-put}
use Rattle.judge.specs.Modes.{modes_after}
use Rattle.text.specs.Show.{shown_at, shown_from}
use Rattle.text.proofs.ShownLaws.{shown-more, shown-end, line-is, modes-next}
use Rattle.text.proofs.showing.put_lines.Goals as goal

pub loop-k-init : goal.loop-k-init
unfolding modes_after
loop-k-init c =
    let a = c.args in
    let z : a.n - 0 ≡ a.n = omega arith in
    let e = ap (λ (m : ℕ). shown_from a.list.now 0 m) z in
    (refl, omega (arith, ap length e), c.none_set-modes.ensures, λ last final q. subst (λ (x : List ℕ). Put 0 x a.text.now last final) e q)

pub put_instruction-next-requires : goal.put_instruction-next-requires
put_instruction-next-requires c =
    let l = c.loop-k in
    let a = c.args in
    let list = a.list.now in
    let same = ap length (line-is list l.k l.invariant.2 c.decode-i.ensures) in
    let more = ap length (shown-more list a.n l.k (omega arith)) ∙ length-append (shown_at list l.k) (shown_from list (l.k + 1) (a.n - (l.k + 1))) in
    omega (arith, same, more, l.invariant.1)

pub loop-k-preserved : goal.loop-k-preserved
loop-k-preserved c =
    let p = c.put_instruction-next in
    let d = c in
    let l = d.loop-k in
    let a = d.args in
    let list = a.list.now in
    let i = d.decode-i.ensures in
    let shown = shown-more list a.n l.k (omega arith) in
    let put : Put l.next (shown_at list l.k) l.text p.result p.new.text =
    subst (λ (x : List ℕ). Put l.next x l.text p.result p.new.text) (line-is list l.k l.invariant.2 i) p.ensures in
    let more = ap length shown ∙ length-append (shown_at list l.k) (shown_from list (l.k + 1) (a.n - (l.k + 1))) in (
      p.auto.text ∙ l.invariant.0,
      omega (arith, more, put.behind, p.auto.text, l.invariant.1),
      modes-next list l.k l.invariant.2 i c.settle.ensures,
      λ e final q. l.invariant.3 e final (then-put (omega (arith, l.invariant.1)) put q (sym shown)),
    )

pub returns : goal.returns
returns c =
    let a = c.args in
    let l = c.loop-k in
    l.invariant.3 l.next l.text
    (subst (λ (x : List ℕ). Put l.next x l.text l.next l.text) (sym (shown-end a.list.now a.n l.k (omega arith))) (none-put l.next l.text))
