-- `write_content`: each return is a law of what a writer answers; only the last changes the output.
use mathlib.Core.Bool.{Bool, true, false, not, ◌&&◌}
use mathlib.Core.List.{List}
use mathlib.Core.Logic.{inl, inr}
use mathlib.Core.Path.{◌≡◌, refl, sym, ap, ap₂, ◌∙◌}
use Prim.Native.Nat.{ℕ, ◌≤◌, ◌<◌, ◌*◌}
use native.Mathlib.Omega.{arith}
use lib.ListN.{length}
use borrow.Author.Tests.{le-ltb, lt-ltb}
use Rattle.std.specs.Prelude.{Result, Err}
use Rattle.std.proofs.lemmas.Result.{err_from_is_err_and}
use Rattle.contents.specs.declared.Refused.{Refused}
use Rattle.contents.specs.Moved.{moved_of}
use Rattle.contents.specs.File.{done, refused, size_fits, block_count, blocks_of}
use Rattle.contents.specs.Content.{over, content_fits, write_rows, content_written}
use Rattle.contents.specs.Payloads.{payloads}
use Rattle.contents.proofs.MovedLaws.{at_0}
use Rattle.contents.proofs.FileLaws.{asked_fits, size-le, kind-le}
use Rattle.contents.proofs.PayloadLaws.{laid-sealed}
use Rattle.contents.proofs.AnswerLaws.{leaving, answered-no-row, answered-first, left-unmoved, left-changed}
use Rattle.contents.proofs.write_content.Goals as goal
use Rattle.contents.proofs.write_content.Goals.{then-is_picture-via-then-is_picture, then-is_picture-via-else-is_picture+then-not-size_fits}

pub returns-in_err-asked : goal.returns-in_err-asked
unfolding content_written
returns-in_err-asked c =
    let e = err_from_is_err_and _ c.from_residual.ensures.1 in
    ap (λ (r : Result ℕ Refused). leaving (moved_of r) c.args.out.now) e.1
    ∙ ap (λ (x : Refused). leaving (moved_of (Err x)) c.args.out.now) (e.2 ∙ ap at_0 c.in_err-asked.ensures.0)
    ∙ left-unmoved (refused 22 0) _ _ _ (answered-first _ _ 22 (λ x. omega arith) (inl (ap not c.in_err-asked.ensures.1, refl))) (λ x. omega arith)

pub returns-then-is_picture : goal.returns-then-is_picture
unfolding content_written
returns-then-is_picture c =
    let a = c.args in
    let f : content_fits a.kind a.content.now ≡ false =
    elim c.then-is_picture.branch [
      | then-is_picture-via-then-is_picture w ↦ ap (λ (t : Bool). not t && size_fits a.kind (length a.content.now)) (sym c.is_picture.ensures ∙ w.if-is_picture.true)
      | then-is_picture-via-else-is_picture+then-not-size_fits w ↦
          ap₂ (λ (x y : Bool). not x && y) (sym c.is_picture.ensures ∙ w.if-is_picture.false)
          (asked_fits _ w.size_fits.ensures c.in_ok-asked.ensures.0 w.if-not-size_fits.true)
    ] in
    ap (λ (x : Refused). leaving (moved_of (Err x)) a.out.now) c.into.ensures
    ∙ left-unmoved (refused 26 0) _ _ _ (answered-first _ _ 26 (λ x. omega arith) (inr (ap not c.in_ok-asked.ensures.1, inl (ap not f, refl)))) (λ x. omega arith)

pub block_count-count-requires : goal.block_count-count-requires
block_count-count-requires c = size-le _ _ (asked_fits _ c.size_fits.ensures c.in_ok-asked.ensures.0 c.if-not-size_fits.false)

pub returns-then-out-count : goal.returns-then-out-count
unfolding content_written
returns-then-out-count c =
    let a = c.args in
    let both : content_fits a.kind a.content.now ≡ true = ap₂ (λ (x y : Bool). not x && y) (sym c.is_picture.ensures ∙ c.if-is_picture.false) (asked_fits _ c.size_fits.ensures c.in_ok-asked.ensures.0 c.if-not-size_fits.false) in
    let h : length a.out.now < 512 * block_count (length a.content.now) = omega (arith, c.block_count-count.ensures, c.if-out-count.true) in
    ap (λ (x : Refused). leaving (moved_of (Err x)) a.out.now) c.into-then-out-count.ensures
    ∙ left-unmoved (refused 27 0) _ _ _
    (answered-first _ _ 27 (λ x. omega arith) (inr (ap not c.in_ok-asked.ensures.1, inr (ap not both, inl (lt-ltb _ _ h, refl))))) (λ x. omega arith)

pub seal_all-requires : goal.seal_all-requires
seal_all-requires c =
    let k = kind-le _ c.in_ok-asked.ensures.1 in
    let s = size-le _ _ (asked_fits _ c.size_fits.ensures c.in_ok-asked.ensures.0 c.if-not-size_fits.false) in
    let n = c.block_count-count.ensures in
    (omega arith, omega arith, n, omega arith)

pub returns : goal.returns
unfolding content_written
returns c =
    let a = c.args in
    let both : content_fits a.kind a.content.now ≡ true = ap₂ (λ (x y : Bool). not x && y) (sym c.is_picture.ensures ∙ c.if-is_picture.false) (asked_fits _ c.size_fits.ensures c.in_ok-asked.ensures.0 c.if-not-size_fits.false) in
    let e : c.block_count-count.result ≡ block_count (length a.content.now) = c.block_count-count.ensures in
    let h : 512 * block_count (length a.content.now) ≤ length a.out.now = omega (arith, e, c.if-out-count.false) in
    let rows = write_rows a.kind (content_fits a.kind a.content.now) (512 * block_count (length a.content.now)) (length a.out.now) in
    left-changed (done (512 * c.block_count-count.result)) _ _ _
    (ap (λ (k : ℕ). done (512 * k)) e ∙ answered-no-row rows _ (ap not c.in_ok-asked.ensures.1, (ap not both, (le-ltb _ _ h, tt))))
    _
    (c.seal_all.ensures
    ∙ ap (λ (l : List ℕ). over (blocks_of a.kind (payloads l 0 (length a.content.now))) l) c.put_part.ensures
    ∙ laid-sealed a.content.now a.out.now h a.kind) refl
