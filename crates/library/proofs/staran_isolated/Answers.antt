-- `staran_isolated`: what the entry answers, as two numbers. Assumes nothing.
use Rattle.library.proofs.LeftLaws.{isolated-small, isolated-left}
use Rattle.library.proofs.staran_isolated.Goals as goal

pub number_and_place-requires : goal.number_and_place-requires
number_and_place-requires c =
    isolated-small _ _ _ c.isolated-a.ensures

pub returns : goal.returns
returns c =
    isolated-left _ _ _ _ c.isolated-a.ensures c.number_and_place.ensures
