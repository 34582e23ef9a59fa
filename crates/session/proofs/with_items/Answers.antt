-- `with_items`: the line of in.itm where it is refused, else what `finish` shows.
use mathlib.Core.Path.{sym, ap₂, subst}
use mathlib.Core.List.{List}
use Prim.Native.Nat.{ℕ, ◌≤◌}
use native.Mathlib.Omega.{arith}
use lib.Seq.{length-take-le}
use Rattle.module.specs.Run.{ran}
use Rattle.contents.specs.Moved.{moved_of}
use Rattle.contents.specs.Kinds.{number_of_kind}
use Rattle.session.specs.Session.{only_line, finished, with_items}
use Rattle.session.specs.Shown.{Shown}
use Rattle.session.proofs.FileLaws.{moved-done, moved-not, content-held}
use Rattle.session.proofs.SessionLaws.{line-shown, next-shown}
use Rattle.session.proofs.with_items.Goals as goal

pub print_line-requires : goal.print_line-requires
print_line-requires c = (subst (λ r. (moved_of r).place ≤ 17) c.in-Err.is c.take_content-read_i.ensures.place, omega (arith, c.requires.3))

pub returns-in-Err : goal.returns-in-Err
unfolding with_items
returns-in-Err c =
    let a = c.args in
    let r = c.take_content-read_i in
    let p = c.print_line in
    let told = line-shown 105 (moved_of r.result) _ _ p.result a.text.now _ a.after.now r.ensures.answer (moved-not c.in-Err.is)
    (subst (λ x. Shown (only_line 105 (moved_of x)) p.result a.text.now p.new.text) (sym c.in-Err.is) p.ensures) in
    record { text = told.0; after = told.1 }

pub slice_bounds-lent-end : goal.slice_bounds-lent-end
slice_bounds-lent-end c = (content-held c.take_content-read_i.new.target c.in-Ok.is c.take_content-read_i.ensures.target).0

pub slice_bounds-finish-end : goal.slice_bounds-finish-end
slice_bounds-finish-end c =
    let r = c.take_content-read_i in
    sym (length-take-le c.in-Ok.n r.new.target (content-held r.new.target c.in-Ok.is r.ensures.target).0)

pub returns : goal.returns
unfolding with_items
returns c =
    let a = c.args in
    let r = c.take_content-read_i in
    let told = next-shown 105 (moved_of r.result) _ _ _ c.finish.result a.text.now _ a.after.now _ r.ensures.answer (moved-done c.in-Ok.is)
    (ap₂
    (λ (items out : List ℕ). finished (number_of_kind a.took) (ran (record {
      memory = a.memory.now;
      registers = a.registers.now;
      list = a.list.now;
      items = items;
      out = out;
    })))
    (sym (content-held r.new.target c.in-Ok.is r.ensures.target).1) (sym c.blank-out.ensures.0))
    (c.finish.ensures.text, c.finish.ensures.after) in
    record { text = told.0; after = told.1 }
