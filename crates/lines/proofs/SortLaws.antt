-- No two sorts of a line's end have one number: `sort` answers by its number alone. Assumes nothing.
use Rattle.std.proofs.Common.{◌≡◌, arith}
use Rattle.lines.specs.declared.Sort.{Sort}
use Rattle.lines.specs.Sorts.{number_of_sort}

pub number_of_sort-injective : (a b : Sort) → number_of_sort a ≡ number_of_sort b → a ≡ b
number_of_sort-injective a b h = grind arith
