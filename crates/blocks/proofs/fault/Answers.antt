-- `fault`: each return is one of the laws of what a test settles.
use mathlib.Core.Path.{refl, sym, ap, ◌∙◌}
use mathlib.Core.Bool.{true, false}
use Rattle.blocks.specs.Block.{used_right}
use Rattle.blocks.proofs.BlockLaws.{fault-21, fault-22, fault-place, fault-count, fault-last, used_le}
use Rattle.blocks.proofs.fault.Goals as goal
use Rattle.blocks.proofs.fault.Goals.{then-two_at-place-via-then-two_at-place, then-two_at-place-via-else-two_at-place+then-two_at-count, then-not-used_right-via-then-not-used_right, then-not-used_right-via-else-not-used_right+then-not-zeros_right}

pub returns-then-not-sums_right : goal.returns-then-not-sums_right
returns-then-not-sums_right c = fault-21 _ _ _ _ (sym c.sums_right.ensures ∙ c.if-not-sums_right.true)

pub returns-then-two_at-kind : goal.returns-then-two_at-kind
returns-then-two_at-kind c =
    fault-22 _ _ _ _ (sym c.sums_right.ensures ∙ c.if-not-sums_right.false) (λ e. c.if-two_at-kind.true (c.two_at.ensures.0 ∙ e))

pub returns-then-two_at-place : goal.returns-then-two_at-place
returns-then-two_at-place c =
    let s = sym c.sums_right.ensures ∙ c.if-not-sums_right.false in
    let k = sym c.two_at.ensures.0 ∙ c.if-two_at-kind.false in
    elim c.then-two_at-place.branch [
      | then-two_at-place-via-then-two_at-place w ↦ fault-place _ _ _ _ s k (λ e. w.if-two_at-place.true (c.two_at-2.ensures.0 ∙ e))
      | then-two_at-place-via-else-two_at-place+then-two_at-count w ↦
          fault-count _ _ _ _ s k (sym c.two_at-2.ensures.0 ∙ w.if-two_at-place.false) (λ e. w.if-two_at-count.true (w.two_at-else-two_at-place.ensures.0 ∙ e))
    ]

pub zeros_right-requires : goal.zeros_right-requires
zeros_right-requires c =
    (c.requires.0, c.two_at-used.ensures.0, used_le _ _ _ (sym c.used_right.ensures ∙ c.if-not-used_right.false))

pub returns-then-not-used_right : goal.returns-then-not-used_right
returns-then-not-used_right c =
    let a = c.args in
    let s = sym c.sums_right.ensures ∙ c.if-not-sums_right.false in
    let k = sym c.two_at.ensures.0 ∙ c.if-two_at-kind.false in
    let p = sym c.two_at-2.ensures.0 ∙ c.if-two_at-place.false in
    let n = sym c.two_at-else-two_at-place.ensures.0 ∙ c.if-two_at-count.false in
    let u = sym (c.used_right.ensures ∙ ap (used_right a.place a.count) c.two_at-used.ensures.0) in
    elim c.then-not-used_right.branch [
      | then-not-used_right-via-then-not-used_right w ↦ sym (fault-last _ _ _ _ s k p n false _ (u ∙ w.if-not-used_right.true) refl)
      | then-not-used_right-via-else-not-used_right+then-not-zeros_right w ↦
          sym (fault-last _ _ _ _ s k p n true false (u ∙ w.if-not-used_right.false) (sym w.zeros_right.ensures ∙ w.if-not-zeros_right.true))
    ]

pub returns : goal.returns
returns c =
    let a = c.args in
    sym
    (fault-last _ _ _ _
    (sym c.sums_right.ensures ∙ c.if-not-sums_right.false)
    (sym c.two_at.ensures.0 ∙ c.if-two_at-kind.false)
    (sym c.two_at-2.ensures.0 ∙ c.if-two_at-place.false)
    (sym c.two_at-else-two_at-place.ensures.0 ∙ c.if-two_at-count.false)
    true true
    (sym (c.used_right.ensures ∙ ap (used_right a.place a.count) c.two_at-used.ensures.0) ∙ c.if-not-used_right.false)
    (sym c.zeros_right.ensures ∙ c.if-not-zeros_right.false))
