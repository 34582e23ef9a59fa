-- `pass_item`: a flip and then a shift of the quarters are the pass; the flip alone where byte 6 is 0, and a copy where the flip is 0 too.
use mathlib.Core.Path.{ap₂, ◌∙◌}
use Prim.Native.Nat.{ℕ}
use native.Mathlib.Omega.{arith}
use Rattle.bits.specs.Quarters.{quarters, line_at}
use Rattle.bits.proofs.FlipLaws.{item-flipped}
use Rattle.network.specs.Pass.{unshifted}
use Rattle.network.proofs.AnswerLaws.{flip-shift, flip-none, none-moved}
use Rattle.network.proofs.pass_item.Goals as goal

pub returns-then-flip-code-eq0 : goal.returns-then-flip-code-eq0
returns-then-flip-code-eq0 c =
    let a = c.args in
    c.copied.ensures ∙ none-moved a.lines.now a.flip a.code c.if-flip-code-eq0.true

pub returns-then-code-eq0 : goal.returns-then-code-eq0
returns-then-code-eq0 c =
    let a = c.args in
    c.lines_of.ensures
    ∙ item-flipped a.lines.now _ _ a.flip (omega arith) c.quarters_of.ensures c.flip_quarters-flipped.ensures
    ∙ flip-none a.lines.now a.flip a.code c.if-code-eq0.true

pub returns : goal.returns
returns c =
    let a = c.args in
    c.lines_of-2.ensures
    ∙ flip-shift a.lines.now _ _ _ a.flip a.code c.ranges.flip.fits c.requires c.quarters_of.ensures
    c.flip_quarters-flipped.ensures
    (c.shifted.ensures ∙ ap₂ (λ (p m : ℕ). quarters (λ k. line_at c.flip_quarters-flipped.result (unshifted p m k))) c.of.ensures.0 c.of.ensures.1)
