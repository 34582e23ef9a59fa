-- `staran_greatest_list`: what the builder leaves, and its answer as two numbers. Assumes nothing.
use native.Mathlib.Omega.{arith}
use Rattle.library.proofs.LeftLaws.{greatest-small, greatest-left}
use Rattle.library.proofs.staran_greatest_list.Goals as goal

pub number_and_count-requires : goal.number_and_count-requires
number_and_count-requires c =
    omega (arith, greatest-small _ _ _ _ c.greatest_list-r.ensures)

pub returns : goal.returns
returns c =
    greatest-left _ _ _ _ _ c.greatest_list-r.ensures c.number_and_count.ensures
