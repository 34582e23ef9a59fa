-- `closing::closing_list`: a refusal, or the whole list and its items; `moving-sound` says what has no number. Assumes nothing.
use mathlib.Core.Path.{refl, sym, ◌∙◌}
use native.Mathlib.Omega.{arith}
use Rattle.closing.specs.Closing.{closing_built}
use Rattle.closing.proofs.Lengths.{closing-length, closing-items-length}
use Rattle.builders.proofs.TwoLaws.{two-err, two-done}
use Rattle.closing.proofs.Refusals.{fault-for, moving-sound}
use Rattle.closing.proofs.closing_list.Goals as goal

pub returns-in_err-f : goal.returns-in_err-f
unfolding closing_built
returns-in_err-f c =
    let a = c.args in
    let z = c.closing_sizes-sizes.ensures in
    two-err _ _ _ _ _ _ _ c.from_residual.ensures.1 (fault-for a.a a.s a.n _ _ _ c.in_err-f.ensures.number z.0 z.1)

pub put_closing-requires : goal.put_closing-requires
put_closing-requires c =
    let e = c.in_ok-f.ensures in
    let z = c.closing_sizes-sizes.ensures in
    let h = moving-sound c.args.a c.args.s c.args.n _ _ _ _ _ 0 e.number refl in
    omega (arith, h.2, z.0, e.given.2)

pub put_closing_items-requires : goal.put_closing_items-requires
put_closing_items-requires c =
    let e = c.in_ok-f.ensures in
    let z = c.closing_sizes-sizes.ensures in
    let h = moving-sound c.args.a c.args.s c.args.n _ _ _ _ _ 0 e.number refl in
    omega (arith, h.3, z.1, e.given.2)

pub returns : goal.returns
unfolding closing_built
returns c =
    let a = c.args in
    let e = c.in_ok-f.ensures in
    let g = e.given in
    let z = c.closing_sizes-sizes.ensures in
    let y = c.closing_sizes.ensures in
    two-done _ _ _ _ _ 0 (fault-for a.a a.s a.n _ _ _ e.number z.0 z.1) refl
    _ _ _ _ (y.0 ∙ sym (closing-length a.a a.s a.n)) (y.1 ∙ sym (closing-items-length a.marks.now))
    (rw (g.0, g.1, g.2) at c.put_closing.ensures) (rw (g.3) at c.put_closing_items.ensures)
