-- `Kind::try_from`: the kind of each number, and none for another.
use mathlib.Core.Path.{refl, sym}
use native.Mathlib.Omega.{arith}
use Rattle.contents.specs.File.{kind_right}
use Rattle.contents.proofs.FileLaws.{kind_none}
use Rattle.contents.proofs.KindTryFromUsize.try_from.Goals as goal

pub returns-in-1 : goal.returns-in-1
unfolding kind_right
returns-in-1 c = (sym c.in-1.is, simp c.in-1.is)

pub returns-in-2 : goal.returns-in-2
unfolding kind_right
returns-in-2 c = (sym c.in-2.is, simp c.in-2.is)

pub returns-in-3 : goal.returns-in-3
unfolding kind_right
returns-in-3 c = (sym c.in-3.is, simp c.in-3.is)

pub returns-in-4 : goal.returns-in-4
unfolding kind_right
returns-in-4 c = (sym c.in-4.is, simp c.in-4.is)

pub returns-in_default : goal.returns-in_default
returns-in_default c = (refl, kind_none _ (λ l h. omega arith))
