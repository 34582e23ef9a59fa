-- `shift::Shift::shifted`: the quarters so far are the first of the shifted ones; each is the law `joined_is`.
use mathlib.Core.Path.{◌≡◌}
use lib.ListN.{length, take}
use Rattle.bits.specs.Bits.{listed}
use Rattle.bits.specs.Quarters.{quarter_of, line_at}
use Rattle.network.specs.Pass.{unshifted}
use Rattle.network.proofs.shift.Shift.shifted.Given as goal

abbrev pub invariant-loop-i : goal.invariant-loop-i
invariant-loop-i l = (length l.out ≡ 4) × (take l.i l.out ≡ listed (quarter_of (λ k. line_at l.q (unshifted l.self.p l.self.m k))) l.i)
