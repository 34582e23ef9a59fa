-- `convert::to_old`: each return is a law of what a reader answers; the last copies the file and seals it anew.
use mathlib.Core.Path.{refl, sym, ap, ◌∙◌}
use mathlib.Core.Logic.{inl, inr}
use Prim.Native.Nat.{ℕ}
use native.Mathlib.Omega.{arith}
use lib.ListN.{length}
use lib.Seq.{length-take-le}
use borrow.Author.Tests.{lt-ltb, le-ltb}
use Rattle.std.specs.Prelude.{Result, Err}
use Rattle.std.proofs.lemmas.Result.{err_from_is_err_and}
use Rattle.registers.specs.Modes.{wrong_modes, any_set}
use Rattle.contents.specs.declared.Refused.{Refused}
use Rattle.contents.specs.Moved.{Moved, moved_of}
use Rattle.contents.specs.File.{done, refused, content_of}
use Rattle.contents.proofs.MovedLaws.{number-some}
use Rattle.contents.proofs.FileLaws.{file-stands}
use Rattle.contents.proofs.AnswerLaws.{leaving, left-unmoved, left-changed, answered-no-row, answered-first, read-refused, read-rows}
use Rattle.pictures.specs.Picture.{content_modes}
use Rattle.pictures.specs.Conversion.{to_old_rows, to_old}
use Rattle.pictures.proofs.PictureLaws.{picture-judged}
use Rattle.pictures.proofs.ConversionLaws.{picture-length, copied-front, old-sealed}
use Rattle.pictures.proofs.convert.to_old.Goals as goal

pub returns-in_err-judge_file : goal.returns-in_err-judge_file
unfolding to_old
returns-in_err-judge_file c =
    let e = err_from_is_err_and _ c.from_residual.ensures.1 in
    let judged = ap (λ (x : Refused). moved_of (Err x)) e.2 ∙ c.in_err-judge_file.ensures in
    ap (λ (r : Result ℕ Refused). leaving (moved_of r) c.args.out.now) e.1
    ∙ left-unmoved _ _ _ _ (read-refused 4 c.args.bytes.now _ _ _ judged (number-some e.0.why)) (number-some e.0.why)

pub modes_in-modes-requires : goal.modes_in-modes-requires
modes_in-modes-requires c = picture-judged 4 _ refl (sym (ap (λ (x : Moved). x.number) c.in_ok-judge_file.ensures))

pub returns-then-wrong_modes : goal.returns-then-wrong_modes
unfolding to_old
returns-then-wrong_modes c =
    let flags = sym (c.wrong_modes.ensures ∙ ap wrong_modes c.modes_in-modes.ensures) in
    ap (λ (x : Refused). leaving (moved_of (Err x)) c.args.out.now) c.into.ensures
    ∙ left-unmoved (refused 15 0) _ _ _
    (answered-first _ _ 15 (λ x. omega arith) (inl (flags ∙ c.if-wrong_modes.true, refl)) ∙ read-rows 4 c.args.bytes.now _ _ _ c.in_ok-judge_file.ensures refl) (λ x. omega arith)

pub returns-then-any_set : goal.returns-then-any_set
unfolding to_old
returns-then-any_set c =
    let flags = sym (c.wrong_modes.ensures ∙ ap wrong_modes c.modes_in-modes.ensures) in
    let sets = sym (c.any_set.ensures ∙ ap (λ m. any_set m) c.modes_in-modes.ensures) in
    ap (λ (x : Refused). leaving (moved_of (Err x)) c.args.out.now) c.into-then-any_set.ensures
    ∙ left-unmoved (refused 28 0) _ _ _
    (answered-first _ _ 28 (λ x. omega arith) (inr (flags ∙ c.if-wrong_modes.false, inl (sets ∙ c.if-any_set.true, refl)))
    ∙ read-rows 4 c.args.bytes.now _ _ _ c.in_ok-judge_file.ensures refl) (λ x. omega arith)

pub returns-then-out-lt-FILE : goal.returns-then-out-lt-FILE
unfolding to_old
returns-then-out-lt-FILE c =
    let flags = sym (c.wrong_modes.ensures ∙ ap wrong_modes c.modes_in-modes.ensures) in
    let sets = sym (c.any_set.ensures ∙ ap (λ m. any_set m) c.modes_in-modes.ensures) in
    ap (λ (x : Refused). leaving (moved_of (Err x)) c.args.out.now) c.into-then-out-lt-FILE.ensures
    ∙ left-unmoved (refused 27 0) _ _ _
    (answered-first _ _ 27 (λ x. omega arith)
    (inr (flags ∙ c.if-wrong_modes.false, inr (sets ∙ c.if-any_set.false, inl (lt-ltb _ _ c.if-out-lt-FILE.true, refl))))
    ∙ read-rows 4 c.args.bytes.now _ _ _ c.in_ok-judge_file.ensures refl) (λ x. omega arith)

pub copy-requires : goal.copy-requires
copy-requires c =
    let b = c.args.bytes.now in
    let s = file-stands 4 b (sym (ap (λ (x : Moved). x.number) c.in_ok-judge_file.ensures)) in
    picture-length 4 b refl s ∙ sym (length-take-le 8704 c.args.out.now c.if-out-lt-FILE.false)

pub returns : goal.returns
unfolding to_old
returns c =
    let b = c.args.bytes.now in
    let out = c.args.out.now in
    let flags = sym (c.wrong_modes.ensures ∙ ap wrong_modes c.modes_in-modes.ensures) in
    let sets = sym (c.any_set.ensures ∙ ap (λ m. any_set m) c.modes_in-modes.ensures) in
    let s = file-stands 4 b (sym (ap (λ (x : Moved). x.number) c.in_ok-judge_file.ensures)) in
    let rows = to_old_rows (content_modes (content_of b)) (length out) in
    left-changed (done 8704) _ _ _
    (answered-no-row rows _ (flags ∙ c.if-wrong_modes.false, (sets ∙ c.if-any_set.false, (le-ltb _ _ c.if-out-lt-FILE.false, tt)))
    ∙ read-rows 4 b _ _ _ c.in_ok-judge_file.ensures refl)
    _ (c.seal_all.ensures ∙ old-sealed b out _ s (copied-front b out _ (picture-length 4 b refl s) c.copy.ensures)) refl
