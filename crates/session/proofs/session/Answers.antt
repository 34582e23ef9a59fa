-- `session`: the line of before.pic where it is refused, else what `with_list` shows.
use mathlib.Core.Path.{refl, sym, ap, ap₂, subst, ◌∙◌}
use mathlib.Core.List.{List}
use Prim.Native.Nat.{ℕ, ◌≤◌}
use native.Mathlib.Omega.{arith}
use Rattle.contents.specs.Moved.{moved_of}
use Rattle.contents.specs.Kinds.{number_of_kind}
use Rattle.pictures.specs.Picture.{scrambled}
use Rattle.session.specs.Session.{file_of, content_in, start_registers, only_line, with_list, outcome}
use Rattle.session.specs.Shown.{Shown}
use Rattle.session.proofs.FileLaws.{moved-done, moved-not}
use Rattle.session.proofs.SessionLaws.{line-shown, next-shown}
use Rattle.session.proofs.session.Goals as goal

pub take_picture-read_p-requires : goal.take_picture-read_p-requires
take_picture-read_p-requires c = (c.kind_taken-kind.ensures, sym c.blank-memory.ensures.1, refl)

pub print_line-requires : goal.print_line-requires
print_line-requires c = (subst (λ r. (moved_of r).place ≤ 17) c.in-Err.is c.take_picture-read_p.ensures.place, omega (arith, c.requires.1))

pub returns-in-Err : goal.returns-in-Err
unfolding outcome
returns-in-Err c =
    let a = c.args in
    let r = c.take_picture-read_p in
    let p = c.print_line in
    let told = line-shown 112 (moved_of r.result) _ _ p.result a.text.now _ a.after.now r.ensures.answer (moved-not c.in-Err.is)
    (subst (λ x. Shown (only_line 112 (moved_of x)) p.result a.text.now p.new.text) (sym c.in-Err.is) p.ensures) in
    record { text = told.0; after = told.1 }

pub returns-in-Ok : goal.returns-in-Ok
unfolding outcome
returns-in-Ok c =
    let a = c.args in
    let r = c.take_picture-read_p in
    let w = c.with_list in
    let held = r.ensures.targets (moved-done c.in-Ok.is) in
    let picture = file_of a.p in
    let kind = c.kind_taken-kind in
    let told = next-shown 112 (moved_of r.result) _ _ _ w.result a.text.now _ a.after.now _ r.ensures.answer (moved-done c.in-Ok.is)
    (ap (λ (k : ℕ). with_list k (scrambled (content_in picture)) (start_registers picture) (file_of a.l) (file_of a.i)) (sym kind.ensures)
    ∙ ap₂ (λ (memory registers : List ℕ). with_list (number_of_kind kind.result) memory registers (file_of a.l) (file_of a.i)) (sym held.0) (sym held.1))
    (w.ensures.text, w.ensures.after) in
    record { text = told.0; after = told.1 }
