-- Two bytes of a list in each other's place: what the laws of the sums speak of. No contract cites this file.
use Rattle.std.specs.Prelude.{List, ℕ, set}
use Rattle.blocks.specs.Sums.{at}

unfoldable pub swapped : List ℕ → ℕ → ℕ → List ℕ
swapped b i j = set (set b i (at b j)) j (at b i)
