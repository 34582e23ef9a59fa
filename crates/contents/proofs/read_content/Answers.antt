-- `read_content`: each return is a law of what a reader answers; only the last changes the target.
use mathlib.Core.Bool.{Bool, true, false, not, ◌&&◌}
use mathlib.Core.Path.{◌≡◌, refl, sym, ap, ap₂, ◌∙◌}
use Prim.Native.Nat.{ℕ}
use native.Mathlib.Omega.{arith}
use lib.Dec.{leb}
use lib.ListN.{length}
use lib.Seq.{length-take-le}
use borrow.Author.Tests.{le-leb, lt-leb}
use Rattle.std.specs.Prelude.{Result, Err}
use Rattle.std.proofs.lemmas.Result.{err_from_is_err_and}
use Rattle.bits.specs.Rows.{number_of}
use Rattle.contents.specs.declared.Refused.{Refused}
use Rattle.contents.specs.Moved.{Moved, moved_of}
use Rattle.contents.specs.File.{done, refused, content_of}
use Rattle.contents.specs.Content.{answered, target_fits, read_rows, content_read}
use Rattle.contents.proofs.MovedLaws.{number-some}
use Rattle.contents.proofs.FileLaws.{file-stands}
use Rattle.contents.proofs.PayloadLaws.{payloads-room, content-read}
use Rattle.contents.proofs.AnswerLaws.{leaving, answered-none, read-refused, read-rows, left-unmoved, left-changed}
use Rattle.contents.proofs.read_content.Goals as goal
use Rattle.contents.proofs.read_content.Goals.{then-is_picture-via-then-is_picture, then-is_picture-via-else-is_picture+then-target-size}

-- 26, once the file stands
unfit : (fits : Bool) → fits ≡ false → (n : ℕ) → refused 26 0 ≡ answered (read_rows fits) n
unfolding answered
unfit fits f n = sym (ap (λ (x : Bool). answered (read_rows x) n) f)

pub returns-in_err-size : goal.returns-in_err-size
unfolding content_read
returns-in_err-size c =
    let a = c.args in
    let e = err_from_is_err_and _ c.from_residual.ensures.1 in
    let judged = ap (λ (x : Refused). moved_of (Err x)) e.2 ∙ c.in_err-size.ensures in
    ap (λ (r : Result ℕ Refused). leaving (moved_of r) a.target.now) e.1
    ∙ left-unmoved _ _ _ _ (read-refused a.kind a.bytes.now _ _ _ judged (number-some e.0.why)) (number-some e.0.why)

pub returns-then-is_picture : goal.returns-then-is_picture
unfolding content_read
returns-then-is_picture c =
    let a = c.args in
    let b = a.bytes.now in
    let s = file-stands a.kind b (sym (ap (λ (x : Moved). x.number) c.in_ok-size.ensures)) in
    let n = ap (λ (x : Moved). x.bytes) (c.in_ok-size.ensures ∙ s.answer) in
    let f : target_fits a.kind b a.target.now ≡ false =
    elim c.then-is_picture.branch [
      | then-is_picture-via-then-is_picture w ↦ ap (λ (t : Bool). not t && leb (length (content_of b)) (length a.target.now)) (sym c.is_picture.ensures ∙ w.if-is_picture.true)
      | then-is_picture-via-else-is_picture+then-target-size w ↦
          ap₂ (λ (x y : Bool). not x && y) (sym c.is_picture.ensures ∙ w.if-is_picture.false)
          (lt-leb (length (content_of b)) (length a.target.now) (omega (arith, n, w.if-target-size.true)))
    ] in
    ap (λ (x : Refused). leaving (moved_of (Err x)) a.target.now) c.into.ensures
    ∙ left-unmoved (refused 26 0) _ _ _ (unfit _ f _ ∙ read-rows a.kind b _ _ (done c.in_ok-size.size) c.in_ok-size.ensures refl) (λ x. omega arith)

pub part_of-requires : goal.part_of-requires
part_of-requires c =
    let a = c.args in
    let s = file-stands a.kind a.bytes.now (sym (ap (λ (x : Moved). x.number) c.in_ok-size.ensures)) in
    payloads-room a.kind a.bytes.now s _
    (omega (arith, length-take-le c.in_ok-size.size a.target.now c.if-target-size.false, ap (λ (x : Moved). x.bytes) (c.in_ok-size.ensures ∙ s.answer)))

pub returns : goal.returns
unfolding content_read
returns c =
    let a = c.args in
    let b = a.bytes.now in
    let t = a.target.now in
    let size = c.in_ok-size.size in
    let s = file-stands a.kind b (sym (ap (λ (x : Moved). x.number) c.in_ok-size.ensures)) in
    let n : size ≡ length (content_of b) = ap (λ (x : Moved). x.bytes) (c.in_ok-size.ensures ∙ s.answer) in
    let f : target_fits a.kind b t ≡ true =
    ap₂ (λ (x y : Bool). not x && y) (sym c.is_picture.ensures ∙ c.if-is_picture.false) (le-leb (length (content_of b)) (length t) (omega (arith, n, c.if-target-size.false))) in
    left-changed (done size) _ _ _
    (c.in_ok-size.ensures ∙ s.answer
    ∙ answered-none (read_rows (target_fits a.kind b t)) (length (content_of b)) (ap (λ (x : Bool). number_of (read_rows x)) f)
    ∙ read-rows a.kind b _ _ (done size) c.in_ok-size.ensures refl)
    _ (content-read a.kind b s t _ size n c.if-target-size.false c.part_of.ensures) refl
