-- `closing::masks::arrivals`: after w words the mask is `SoFar`, by `mask-more` where word w's value arrives. Assumes nothing.
use Rattle.closing.specs.Closing.{marked}
use Rattle.closing.proofs.MaskLaws.{SoFar}
use Rattle.closing.proofs.masks.arrivals.Given as goal

abbrev pub invariant-loop-w : goal.invariant-loop-w
invariant-loop-w l = SoFar (marked l.marks) l.t l.u l.w l.rank l.out
