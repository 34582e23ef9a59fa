-- `write_picture`: each return is a law of what a writer answers; only the last changes the output.
use mathlib.Core.Path.{◌≡◌, refl, sym, ap, ◌∙◌}
use mathlib.Core.Bool.{not}
use mathlib.Core.List.{List}
use mathlib.Core.Logic.{inl, inr}
use Prim.Native.Nat.{ℕ}
use native.Mathlib.Omega.{arith}
use lib.ListN.{length}
use borrow.Author.Tests.{lt-ltb, le-ltb}
use Rattle.std.specs.Prelude.{Result, Err}
use Rattle.std.proofs.Common.{rules}
use Rattle.std.proofs.lemmas.Result.{err_from_is_err_and}
use Rattle.registers.specs.Modes.{modes_of, wrong_modes}
use Rattle.contents.specs.declared.Refused.{Refused}
use Rattle.contents.specs.Moved.{moved_of}
use Rattle.contents.specs.File.{done, refused, blocks_of}
use Rattle.contents.specs.Content.{over}
use Rattle.contents.proofs.MovedLaws.{at_0}
use Rattle.contents.proofs.AnswerLaws.{leaving, left-unmoved, left-changed, answered-no-row, answered-first}
use Rattle.pictures.specs.Picture.{picture_of, picture_fits, picture_write_rows, picture_written}
use Rattle.pictures.proofs.write_picture.Goals as goal

pub returns-in_err-try_from : goal.returns-in_err-try_from
unfolding picture_written
returns-in_err-try_from c =
    let e = err_from_is_err_and _ c.from_residual.ensures.1 in
    ap (λ (r : Result ℕ Refused). leaving (moved_of r) c.args.out.now) e.1
    ∙ ap (λ (x : Refused). leaving (moved_of (Err x)) c.args.out.now) (e.2 ∙ ap at_0 c.in_err-try_from.ensures.0)
    ∙ left-unmoved (refused 22 0) _ _ _ (answered-first _ _ 22 (λ x. omega arith) (inl (ap not c.in_err-try_from.ensures.1, refl))) (λ x. omega arith)

pub returns-then-not-picture_fits : goal.returns-then-not-picture_fits
unfolding picture_written
returns-then-not-picture_fits c =
    let f = sym c.picture_fits.ensures ∙ c.if-not-picture_fits.true in
    ap (λ (x : Refused). leaving (moved_of (Err x)) c.args.out.now) c.into.ensures
    ∙ left-unmoved (refused 26 0) _ _ _ (answered-first _ _ 26 (λ x. omega arith) (inr (ap not c.in_ok-try_from.ensures.1, inl (ap not f, refl)))) (λ x. omega arith)

pub returns-then-wrong_modes : goal.returns-then-wrong_modes
unfolding picture_written
returns-then-wrong_modes c =
    let f = sym c.picture_fits.ensures ∙ c.if-not-picture_fits.false in
    let m = sym (c.wrong_modes.ensures ∙ ap wrong_modes c.modes_of.ensures) in
    ap (λ (x : Refused). leaving (moved_of (Err x)) c.args.out.now) c.into-then-wrong_modes.ensures
    ∙ left-unmoved (refused 15 0) _ _ _
    (answered-first _ _ 15 (λ x. omega arith) (inr (ap not c.in_ok-try_from.ensures.1, inr (ap not f, inl (m ∙ c.if-wrong_modes.true, refl))))) (λ x. omega arith)

pub returns-then-out-lt-FILE : goal.returns-then-out-lt-FILE
unfolding picture_written
returns-then-out-lt-FILE c =
    let f = sym c.picture_fits.ensures ∙ c.if-not-picture_fits.false in
    let m = sym (c.wrong_modes.ensures ∙ ap wrong_modes c.modes_of.ensures) in
    ap (λ (x : Refused). leaving (moved_of (Err x)) c.args.out.now) c.into-then-out-lt-FILE.ensures
    ∙ left-unmoved (refused 27 0) _ _ _
    (answered-first _ _ 27 (λ x. omega arith)
    (inr (ap not c.in_ok-try_from.ensures.1, inr (ap not f, inr (m ∙ c.if-wrong_modes.false, inl (lt-ltb (length c.args.out.now) 8704 (omega arith), refl)))))) (λ x. omega arith)

pub returns : goal.returns
unfolding picture_written
returns c =
    let a = c.args in
    let same : c.unwrap.result.now ≡ a.memory.now = search rules in
    let f = sym c.picture_fits.ensures ∙ c.if-not-picture_fits.false in
    let m = sym (c.wrong_modes.ensures ∙ ap wrong_modes c.modes_of.ensures) in
    let rows = picture_write_rows a.kind (picture_fits a.kind (length a.memory.now) (length a.registers.now)) (modes_of a.registers.now) (length a.out.now) in
    left-changed (done 8704) _ _ _
    (answered-no-row rows _ (ap not c.in_ok-try_from.ensures.1, (ap not f, (m ∙ c.if-wrong_modes.false, (le-ltb _ _ c.if-out-lt-FILE.false, tt)))))
    _ (c.put_picture.ensures ∙ ap (λ (m : List ℕ). over (blocks_of a.kind (picture_of m a.registers.now)) a.out.now) same) refl
