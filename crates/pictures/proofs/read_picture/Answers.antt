-- `read_picture`: each return is a law of what a reader answers; only the last changes the targets.
use mathlib.Core.Path.{refl, sym, ap, ◌∙◌}
use mathlib.Core.Bool.{not}
use mathlib.Core.Logic.{inl, inr}
use Prim.Native.Nat.{ℕ, ◌+◌}
use native.Mathlib.Omega.{arith}
use lib.ListN.{length}
use Rattle.std.specs.Prelude.{Result, Err}
use Rattle.std.proofs.lemmas.Result.{err_from_is_err_and}
use Rattle.contents.specs.declared.Refused.{Refused}
use Rattle.contents.specs.Moved.{Moved, moved_of}
use Rattle.contents.specs.File.{done, refused, content_of}
use Rattle.contents.proofs.MovedLaws.{number-some}
use Rattle.contents.proofs.FileLaws.{file-stands}
use Rattle.contents.proofs.AnswerLaws.{answered-no-row, answered-first, read-refused, read-rows}
use Rattle.pictures.specs.Picture.{content_modes, picture_fits, picture_read_rows, picture_read}
use Rattle.pictures.proofs.PictureLaws.{fits-are, picture-judged, both-leaving, both-unmoved, both-changed}
use Rattle.pictures.proofs.read_picture.Goals as goal

pub returns-in_err-size : goal.returns-in_err-size
unfolding picture_read
returns-in_err-size c =
    let a = c.args in
    let e = err_from_is_err_and _ c.from_residual.ensures.1 in
    let judged = ap (λ (x : Refused). moved_of (Err x)) e.2 ∙ c.in_err-size.ensures in
    ap (λ (r : Result ℕ Refused). both-leaving (moved_of r) a.memory.now a.registers.now) e.1
    ∙ both-unmoved _ _ _ _ _ _ (read-refused a.kind a.bytes.now _ _ _ judged (number-some e.0.why)) (number-some e.0.why)

pub returns-then-not-picture_fits : goal.returns-then-not-picture_fits
unfolding picture_read
returns-then-not-picture_fits c =
    let a = c.args in
    let f = sym c.picture_fits.ensures ∙ c.if-not-picture_fits.true in
    ap (λ (x : Refused). both-leaving (moved_of (Err x)) a.memory.now a.registers.now) c.into.ensures
    ∙ both-unmoved (refused 26 0) _ _ _ _ _
    (answered-first _ _ 26 (λ x. omega arith) (inl (ap not f, refl)) ∙ read-rows a.kind a.bytes.now _ _ (done c.in_ok-size.size) c.in_ok-size.ensures refl) (λ x. omega arith)

pub returns-then-flags_wrong : goal.returns-then-flags_wrong
unfolding picture_read
returns-then-flags_wrong c =
    let a = c.args in
    let f = sym c.picture_fits.ensures ∙ c.if-not-picture_fits.false in
    ap (λ (x : Refused). both-leaving (moved_of (Err x)) a.memory.now a.registers.now) c.into-then-flags_wrong.ensures
    ∙ both-unmoved (refused 15 0) _ _ _ _ _
    (answered-first _ _ 15 (λ x. omega arith) (inr (ap not f, inl (sym c.flags_wrong.ensures ∙ c.if-flags_wrong.true, refl)))
    ∙ read-rows a.kind a.bytes.now _ _ (done c.in_ok-size.size) c.in_ok-size.ensures refl) (λ x. omega arith)

pub unload_picture-requires : goal.unload_picture-requires
unload_picture-requires c =
    let a = c.args in
    let l = fits-are a.kind (length a.memory.now) (length a.registers.now) (sym c.picture_fits.ensures ∙ c.if-not-picture_fits.false) in
    (a.kind, picture-judged a.kind a.bytes.now l.0 (sym (ap (λ (x : Moved). x.number) c.in_ok-size.ensures)) ∙ ap (λ (n : ℕ). done (8192 + n)) (sym l.2))

pub returns : goal.returns
unfolding picture_read
returns c =
    let a = c.args in
    let f = sym c.picture_fits.ensures ∙ c.if-not-picture_fits.false in
    let s = file-stands a.kind a.bytes.now (sym (ap (λ (x : Moved). x.number) c.in_ok-size.ensures)) in
    let rows = picture_read_rows (picture_fits a.kind (length a.memory.now) (length a.registers.now)) (content_modes (content_of a.bytes.now)) in
    both-changed (done c.in_ok-size.size) _ _ _ _ _
    (c.in_ok-size.ensures ∙ s.answer
    ∙ answered-no-row rows _ (ap not f, (sym c.flags_wrong.ensures ∙ c.if-flags_wrong.false, tt))
    ∙ read-rows a.kind a.bytes.now _ _ (done c.in_ok-size.size) c.in_ok-size.ensures refl)
    _ _ c.unload_picture.ensures.0 c.unload_picture.ensures.1 refl
