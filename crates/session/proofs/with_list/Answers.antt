-- `with_list`: the line of run.lst where it is refused, else what `with_items` shows.
use mathlib.Core.Path.{sym, ap, subst}
use mathlib.Core.List.{List}
use Prim.Native.Nat.{ℕ, ◌≤◌}
use native.Mathlib.Omega.{arith}
use lib.Seq.{length-take-le}
use Rattle.contents.specs.Moved.{moved_of}
use Rattle.contents.specs.Kinds.{number_of_kind}
use Rattle.session.specs.Session.{file_of, only_line, with_items, with_list}
use Rattle.session.specs.Shown.{Shown}
use Rattle.session.proofs.FileLaws.{moved-done, moved-not, content-held}
use Rattle.session.proofs.SessionLaws.{line-shown, next-shown}
use Rattle.session.proofs.with_list.Goals as goal

pub print_line-requires : goal.print_line-requires
print_line-requires c = (subst (λ r. (moved_of r).place ≤ 17) c.in-Err.is c.take_content-read_l.ensures.place, omega (arith, c.requires.3))

pub returns-in-Err : goal.returns-in-Err
unfolding with_list
returns-in-Err c =
    let a = c.args in
    let r = c.take_content-read_l in
    let p = c.print_line in
    let told = line-shown 108 (moved_of r.result) _ _ p.result a.text.now _ a.after.now r.ensures.answer (moved-not c.in-Err.is)
    (subst (λ x. Shown (only_line 108 (moved_of x)) p.result a.text.now p.new.text) (sym c.in-Err.is) p.ensures) in
    record { text = told.0; after = told.1 }

pub slice_bounds-lent-end : goal.slice_bounds-lent-end
slice_bounds-lent-end c = (content-held c.take_content-read_l.new.target c.in-Ok.is c.take_content-read_l.ensures.target).0

pub slice_bounds-with_items-end : goal.slice_bounds-with_items-end
slice_bounds-with_items-end c =
    let r = c.take_content-read_l in
    sym (length-take-le c.in-Ok.n r.new.target (content-held r.new.target c.in-Ok.is r.ensures.target).0)

pub returns : goal.returns
unfolding with_list
returns c =
    let a = c.args in
    let r = c.take_content-read_l in
    let told = next-shown 108 (moved_of r.result) _ _ _ c.with_items.result a.text.now _ a.after.now _ r.ensures.answer (moved-done c.in-Ok.is)
    (ap (λ (list : List ℕ). with_items (number_of_kind a.took) a.memory.now a.registers.now list (file_of a.i)) (sym (content-held r.new.target c.in-Ok.is r.ensures.target).1))
    (c.with_items.ensures.text, c.with_items.ensures.after) in
    record { text = told.0; after = told.1 }
