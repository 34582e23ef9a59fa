-- `closing::spreading_list`: a refusal, or the whole list and its items; `moving-sound` says what has no number. Assumes nothing.
use mathlib.Core.Path.{refl, sym, ◌∙◌}
use native.Mathlib.Omega.{arith}
use Rattle.closing.specs.Closing.{spreading_built}
use Rattle.closing.proofs.Lengths.{spreading-length, spreading-items-length}
use Rattle.builders.proofs.TwoLaws.{two-err, two-done}
use Rattle.closing.proofs.Refusals.{fault-for, moving-sound}
use Rattle.closing.proofs.spreading_list.Goals as goal

pub returns-in_err-f : goal.returns-in_err-f
unfolding spreading_built
returns-in_err-f c =
    let a = c.args in
    let z = c.spreading_sizes-sizes.ensures in
    two-err _ _ _ _ _ _ _ c.from_residual.ensures.1 (fault-for a.a a.s a.n _ _ _ c.in_err-f.ensures.number z.0 z.1)

pub put_spreading-requires : goal.put_spreading-requires
put_spreading-requires c =
    let e = c.in_ok-f.ensures in
    let z = c.spreading_sizes-sizes.ensures in
    let h = moving-sound c.args.a c.args.s c.args.n _ _ _ _ _ 0 e.number refl in
    omega (arith, h.2, z.0, e.given.2)

pub put_spreading_items-requires : goal.put_spreading_items-requires
put_spreading_items-requires c =
    let e = c.in_ok-f.ensures in
    let z = c.spreading_sizes-sizes.ensures in
    let h = moving-sound c.args.a c.args.s c.args.n _ _ _ _ _ 0 e.number refl in
    omega (arith, h.3, z.1, e.given.2)

pub returns : goal.returns
unfolding spreading_built
returns c =
    let a = c.args in
    let e = c.in_ok-f.ensures in
    let g = e.given in
    let z = c.spreading_sizes-sizes.ensures in
    two-done _ _ _ _ _ 0 (fault-for a.a a.s a.n _ _ _ e.number z.0 z.1) refl
    _ _ _ _ (z.0 ∙ sym (spreading-length a.a a.s a.n)) (z.1 ∙ sym (spreading-items-length a.marks.now a.n))
    (rw (g.0, g.1, g.2) at c.put_spreading.ensures) (rw (g.2, g.3) at c.put_spreading_items.ensures)
