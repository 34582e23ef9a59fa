-- `judge_file`: each return is a law of what a test settles.
use mathlib.Core.Bool.{cond, Bool}
use mathlib.Core.List.{List}
use mathlib.Core.Path.{◌≡◌, refl, sym, ap, ap₂, ◌∙◌}
use Prim.Native.Nat.{ℕ, ◌/◌}
use native.Mathlib.Omega.{arith}
use lib.ListN.{length, get_or}
use Rattle.std.specs.Prelude.{Err}
use Rattle.std.proofs.lemmas.Result.{err_from_is_err_and}
use Rattle.blocks.specs.Block.{two_at, fault}
use Rattle.blocks.proofs.BlockLaws.{fault-good, used_le}
use Rattle.contents.specs.declared.Refused.{Refused}
use Rattle.contents.specs.Moved.{moved_of}
use Rattle.contents.specs.File.{done, refused, block_at, blocks_judged, gathered}
use Rattle.contents.proofs.MovedLaws.{number-some, at_0}
use Rattle.contents.proofs.FileLaws.{asked_fits, file-22, file-20, file-bad, file-good, blocks-good, gathered-more, chunk_is}
use Rattle.contents.proofs.judge_file.Goals as goal

pub returns-in_err-asked : goal.returns-in_err-asked
returns-in_err-asked c =
    let e = err_from_is_err_and _ c.from_residual.ensures.1 in
    ap moved_of e.1
    ∙ ap (λ (x : Refused). moved_of (Err x)) (e.2 ∙ ap at_0 c.in_err-asked.ensures.0)
    ∙ file-22 _ _ c.in_err-asked.ensures.1

pub returns-then-not-length_right : goal.returns-then-not-length_right
returns-then-not-length_right c =
    ap (λ (x : Refused). moved_of (Err x)) c.into.ensures
    ∙ file-20 _ _ c.in_ok-asked.ensures.1 (sym c.length_right.ensures ∙ c.if-not-length_right.true)

pub loop-place-init : goal.loop-place-init
unfolding blocks_judged gathered
loop-place-init c = (refl, refl, omega arith)

pub returns-in-Err : goal.returns-in-Err
returns-in-Err c =
    let a = c.args in
    let b = a.bytes.now in
    let i = c.loop-place.place in
    let n = c.as_chunks.ensures.front_len in
    let block = ap (λ (l : List (List ℕ)). get_or l i _) c.as_chunks.ensures.front ∙ chunk_is (length b / 512) b i _ (omega arith) in
    file-bad a.kind b c.in_ok-asked.ensures.1 (sym c.length_right.ensures ∙ c.if-not-length_right.false) i _ (omega arith)
    (ap (λ (k : ℕ). blocks_judged a.kind b k i) (sym n) ∙ c.loop-place.invariant.0)
    (sym (c.in-Err.ensures ∙ ap₂ (λ (l : List ℕ) (k : ℕ). fault l a.kind i k) block n)) (number-some c.in-Err.why)

pub loop-place-preserved : goal.loop-place-preserved
loop-place-preserved c =
    let a = c.args in
    let b = a.bytes.now in
    let l = c.loop-place in
    let count = length c.as_chunks.result.0.now in
    let n = c.as_chunks.ensures.front_len in
    let block = ap (λ (x : List (List ℕ)). get_or x l.place _) c.as_chunks.ensures.front ∙ chunk_is (length b / 512) b l.place _ (omega arith) in
    let good = sym (c.in_default.ensures ∙ ap (λ (x : List ℕ). fault x a.kind l.place count) block) in
    let used = used_le l.place count _ (fault-good (block_at b l.place) a.kind l.place count good).used in
    let size = c.two_at-size.ensures.0 ∙ ap (λ (x : List ℕ). two_at x 6) block in (
      blocks-good a.kind b _ l.place l.invariant.0 good,
      omega (arith, size, gathered-more b l.place (omega arith) used),
      omega (arith, size, used),
    )

pub returns-then-not-size_fits : goal.returns-then-not-size_fits
returns-then-not-size_fits c =
    let b = c.args.bytes.now in
    let l = c.loop-place in
    let n = c.as_chunks.ensures.front_len in
    let all : l.place ≡ length b / 512 = omega arith in
    ap (λ (x : Refused). moved_of (Err x)) c.into-then-not-size_fits.ensures
    ∙ sym (file-good c.args.kind b c.in_ok-asked.ensures.1 (sym c.length_right.ensures ∙ c.if-not-length_right.false) l.size
    (sym (ap₂ (blocks_judged c.args.kind b) n all) ∙ l.invariant.0) (l.invariant.1 ∙ ap (λ (k : ℕ). length (gathered b k)) all)
    ∙ ap (λ (t : Bool). cond t (done l.size) (refused 25 0))
    (asked_fits _ c.size_fits.ensures c.in_ok-asked.ensures.0 c.if-not-size_fits.true))

pub returns : goal.returns
returns c =
    let b = c.args.bytes.now in
    let l = c.loop-place in
    let n = c.as_chunks.ensures.front_len in
    let all : l.place ≡ length b / 512 = omega arith in
    sym (file-good c.args.kind b c.in_ok-asked.ensures.1 (sym c.length_right.ensures ∙ c.if-not-length_right.false) l.size
    (sym (ap₂ (blocks_judged c.args.kind b) n all) ∙ l.invariant.0) (l.invariant.1 ∙ ap (λ (k : ℕ). length (gathered b k)) all)
    ∙ ap (λ (t : Bool). cond t (done l.size) (refused 25 0))
    (asked_fits _ c.size_fits.ensures c.in_ok-asked.ensures.0 c.if-not-size_fits.false))
