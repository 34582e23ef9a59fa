-- `staran_difference_list`: what the builder leaves, and its answer as two numbers. Assumes nothing.
use native.Mathlib.Omega.{arith}
use Rattle.library.proofs.LeftLaws.{difference-small, difference-left}
use Rattle.library.proofs.staran_difference_list.Goals as goal

pub number_and_count-requires : goal.number_and_count-requires
number_and_count-requires c =
    omega (arith, difference-small _ _ _ _ _ _ c.difference_list-r.ensures)

pub returns : goal.returns
returns c =
    difference-left _ _ _ _ _ _ _ c.difference_list-r.ensures c.number_and_count.ensures
