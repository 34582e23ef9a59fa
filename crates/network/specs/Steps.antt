-- What is lent on the way. Only contracts of inner functions cite this file: no promise to a user rests on it.
use Rattle.std.specs.Prelude.{◌≡◌, List, [], ℕ, ◌<◌, get_or}
use Rattle.network.specs.Shifts.{signals}

-- l has the 36 signals of shift s.
pub record SignalsOf (s : ℕ) (l : List ℕ) : Type 0 where
  pub within : s < 37
  pub are : l ≡ get_or signals s []
