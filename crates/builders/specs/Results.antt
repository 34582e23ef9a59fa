-- What the result of a builder is in the documents' numbers: `Built` and `BuiltTwo` of Building. Document 01, Numbers given back.
use Rattle.std.specs.Prelude.{ℕ, Result, Ok, Err}
use Rattle.bits.specs.declared.refusals.Refusal.{Refusal}
use Rattle.bits.specs.Refusals.{number_of_refusal}
use Rattle.builders.specs.declared.Sizes.{Sizes}
use Rattle.builders.specs.Building.{Built, BuiltTwo}

-- Of a builder of a list.
abbrev pub built_of : Result ℕ Refusal → Built
built_of (Ok n) = record { number = 0; count = n }
built_of (Err r) = record { number = number_of_refusal r; count = 0 }

-- And of one of a list with its items.
abbrev pub built_two_of : Result Sizes Refusal → BuiltTwo
built_two_of (Ok z) = record { number = 0; list = z.list; items = z.items }
built_two_of (Err r) = record { number = number_of_refusal r; list = 0; items = 0 }
