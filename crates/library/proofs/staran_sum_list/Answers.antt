-- `staran_sum_list`: what the builder leaves, and its answer as two numbers. Assumes nothing.
use native.Mathlib.Omega.{arith}
use Rattle.library.proofs.LeftLaws.{sum-small, sum-left}
use Rattle.library.proofs.staran_sum_list.Goals as goal

pub number_and_count-requires : goal.number_and_count-requires
number_and_count-requires c =
    omega (arith, sum-small _ _ _ _ _ _ c.sum_list-r.ensures)

pub returns : goal.returns
returns c =
    sum-left _ _ _ _ _ _ _ c.sum_list-r.ensures c.number_and_count.ensures
