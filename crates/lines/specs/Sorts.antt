-- The numbers by which the definitions tell what the end of a line finds there.
use Rattle.std.specs.Prelude.{ℕ}
use Rattle.lines.specs.declared.Sort.{Sort}
use Rattle.lines.specs.declared.Sort.TheVariants.{TooEarly, Nothing, Whole, Comment, Refused}

abbrev pub number_of_sort : Sort → ℕ
number_of_sort TooEarly = 0
number_of_sort Nothing = 1
number_of_sort Whole = 2
number_of_sort Comment = 3
number_of_sort Refused = 4
