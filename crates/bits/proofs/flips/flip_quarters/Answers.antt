-- `flips::flip_quarters`: flips by the digits of `f`, one after the other, are the flip by `f`.
use mathlib.Core.Path.{ap, ◌∙◌}
use native.Mathlib.Omega.{arith}
use Rattle.bits.specs.Quarters.{flipped_quarters}
use Rattle.bits.proofs.FlipLaws.{flips-1, flips-2, flips-4, flips-8, flips-16, flips-32, flipped-more, by-digits}
use Rattle.bits.proofs.flips.flip_quarters.Goals as goal

pub returns : goal.returns
returns c =
    let more = flipped-more c.args.q in
    c.order.ensures
    ∙ more _ _ _ (omega arith)
    (c.exchange_if-halves.ensures
    ∙ more _ _ _ (omega arith)
    (c.exchange_if-sixteens.ensures
    ∙ more _ _ _ (omega arith)
    (c.exchange_if-eights.ensures
    ∙ more _ _ _ (omega arith)
    (c.exchange_if-fours.ensures ∙ more _ _ _ (omega arith) (c.exchange_if-twos.ensures ∙ more _ _ _ (omega arith) c.exchange_if-ones.ensures)))))
    ∙ ap (flipped_quarters c.args.q) (by-digits c.args.f (omega arith))

pub exchange_if-ones-requires : goal.exchange_if-ones-requires
exchange_if-ones-requires c = (omega arith, omega arith, flips-1)

pub exchange_if-twos-requires : goal.exchange_if-twos-requires
exchange_if-twos-requires c = (omega arith, omega arith, flips-2)

pub exchange_if-fours-requires : goal.exchange_if-fours-requires
exchange_if-fours-requires c = (omega arith, omega arith, flips-4)

pub exchange_if-eights-requires : goal.exchange_if-eights-requires
exchange_if-eights-requires c = (omega arith, omega arith, flips-8)

pub exchange_if-sixteens-requires : goal.exchange_if-sixteens-requires
exchange_if-sixteens-requires c = (omega arith, omega arith, flips-16)

pub exchange_if-halves-requires : goal.exchange_if-halves-requires
exchange_if-halves-requires c = (omega arith, omega arith, flips-32)
