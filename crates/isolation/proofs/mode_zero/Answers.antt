-- `isolation::mode_zero`: a mode that is given, and one in a register. Assumes nothing.
use Rattle.isolation.proofs.BreakLaws.{zero-given, zero_held}
use Rattle.isolation.proofs.mode_zero.Goals as goal

pub returns-then-i-eq-TAG_GIVEN : goal.returns-then-i-eq-TAG_GIVEN
returns-then-i-eq-TAG_GIVEN c =
    let a = c.args in
    zero-given a.m a.i c.if-i-eq-TAG_GIVEN.true

pub returns : goal.returns
returns c =
    let first = c in
    let other = first in
    let a = other.args in
    zero_held a.m a.i other.if-i-eq-TAG_GIVEN.false _ _ first.holds_zero.ensures c.holds_zero-2.ensures
