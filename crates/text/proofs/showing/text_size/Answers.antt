-- `showing::text_size`: each turn is one line more.
use mathlib.Core.Path.{◌≡◌, ap, ◌∙◌}
use Prim.Native.Nat.{ℕ, ◌+◌, ◌-◌}
use native.Mathlib.Omega.{arith}
use lib.ListN.{length, length-append}
use Rattle.judge.specs.Modes.{modes_after}
use Rattle.text.specs.Show.{shown_at, shown_from}
use Rattle.text.proofs.ShownLaws.{shown-more, shown-end, line-is, modes-next}
use Rattle.text.proofs.showing.text_size.Goals as goal

pub loop-k-init : goal.loop-k-init
unfolding modes_after
loop-k-init c =
    let a = c.args in
    let z : a.n - 0 ≡ a.n = omega arith in
    (c.none_set-modes.ensures, omega arith, omega (arith, ap (λ (m : ℕ). length (shown_from a.list.now 0 m)) z))

pub loop-k-preserved : goal.loop-k-preserved
loop-k-preserved c =
    let d = c in
    let l = d.loop-k in
    let a = d.args in
    let list = a.list.now in
    let size = c.line_size-total in
    let i = d.decode-i.ensures in
    let same = ap length (line-is list l.k l.invariant.0 i) in
    let more = ap length (shown-more list a.n l.k (omega arith)) ∙ length-append (shown_at list l.k) (shown_from list (l.k + 1) (a.n - (l.k + 1))) in
    (modes-next list l.k l.invariant.0 i c.settle.ensures, omega (arith, size.ensures.0), omega (arith, size.ensures.1, same, more, l.invariant.2))

pub returns : goal.returns
returns c =
    let a = c.args in
    let l = c.loop-k in
    omega (arith, ap length (shown-end a.list.now a.n l.k (omega arith)), l.invariant.2)
