-- `convert::to_new`: each return is a law of what a reader answers; the last copies the file, lays the mode registers behind it and seals it anew.
use mathlib.Core.Path.{refl, sym, ap, ◌∙◌}
use mathlib.Core.Logic.{inl}
use Prim.Native.Nat.{ℕ}
use native.Mathlib.Omega.{arith}
use lib.ListN.{length}
use lib.Seq.{length-take-le}
use borrow.Author.Tests.{lt-ltb, le-ltb}
use Rattle.std.specs.Prelude.{Result, Err}
use Rattle.std.proofs.lemmas.Result.{err_from_is_err_and}
use Rattle.registers.specs.Modes.{mode_bytes, none_set}
use Rattle.contents.specs.declared.Refused.{Refused}
use Rattle.contents.specs.Moved.{Moved, moved_of}
use Rattle.contents.specs.File.{done, refused}
use Rattle.contents.specs.Payloads.{laid}
use Rattle.contents.proofs.MovedLaws.{number-some}
use Rattle.contents.proofs.FileLaws.{file-stands}
use Rattle.contents.proofs.AnswerLaws.{leaving, left-unmoved, left-changed, answered-no-row, answered-first, read-refused, read-rows}
use Rattle.pictures.specs.Conversion.{to_new_rows, to_new}
use Rattle.pictures.proofs.ConversionLaws.{picture-length, copied-front, new-sealed}
use Rattle.pictures.proofs.convert.to_new.Goals as goal

pub returns-in_err-judge_file : goal.returns-in_err-judge_file
unfolding to_new
returns-in_err-judge_file c =
    let e = err_from_is_err_and _ c.from_residual.ensures.1 in
    let judged = ap (λ (x : Refused). moved_of (Err x)) e.2 ∙ c.in_err-judge_file.ensures in
    ap (λ (r : Result ℕ Refused). leaving (moved_of r) c.args.out.now) e.1
    ∙ left-unmoved _ _ _ _ (read-refused 1 c.args.bytes.now _ _ _ judged (number-some e.0.why)) (number-some e.0.why)

pub returns-then-out-lt-FILE : goal.returns-then-out-lt-FILE
unfolding to_new
returns-then-out-lt-FILE c =
    ap (λ (x : Refused). leaving (moved_of (Err x)) c.args.out.now) c.into.ensures
    ∙ left-unmoved (refused 27 0) _ _ _
    (answered-first _ _ 27 (λ x. omega arith) (inl (lt-ltb _ _ c.if-out-lt-FILE.true, refl)) ∙ read-rows 1 c.args.bytes.now _ _ _ c.in_ok-judge_file.ensures refl) (λ x. omega arith)

pub copy-requires : goal.copy-requires
copy-requires c =
    let b = c.args.bytes.now in
    let s = file-stands 1 b (sym (ap (λ (x : Moved). x.number) c.in_ok-judge_file.ensures)) in
    picture-length 1 b refl s ∙ sym (length-take-le 8704 c.args.out.now c.if-out-lt-FILE.false)

pub returns : goal.returns
unfolding to_new
returns c =
    let b = c.args.bytes.now in
    let out = c.args.out.now in
    let s = file-stands 1 b (sym (ap (λ (x : Moved). x.number) c.in_ok-judge_file.ensures)) in
    left-changed (done 8704) _ _ _
    (answered-no-row (to_new_rows (length out)) _ (le-ltb _ _ c.if-out-lt-FILE.false, tt) ∙ read-rows 1 b _ _ _ c.in_ok-judge_file.ensures refl)
    _
    (c.seal_all.ensures
    ∙ new-sealed b out _ s
    (c.put_part.ensures ∙ ap (laid (mode_bytes none_set) 8288) (copied-front b out _ (picture-length 1 b refl s) c.copy.ensures))) refl
