-- The starred examples of document 01 on lists and their refusals: fields that stand have no number where there is room (`no-fault`). The crate promises has them of what the builders leave, in one table. Assumes nothing.
use mathlib.Core.Path.{◌≡◌, refl}
use mathlib.Core.Logic.{inl, inr}
use mathlib.Core.List.{List, [], ◌∷◌}
use Prim.Native.Nat.{ℕ, ◌*◌}
use native.Mathlib.Omega.{arith}
use lib.ListN.{take, drop}
use Rattle.builders.specs.Lists.{encoded, rounds}
use Rattle.builders.specs.Sums.{sum_list, Fields, fields_fault, sum_built, difference_built}

-- "A sum with A 0, B 1, S 2, n 1 has six instructions; the fourth is `02 03 01 00 02 00 00 00`."
pub one_bit : Fields 0 1 2 1
one_bit =
    record { some = omega arith; width = omega arith; fits_a = omega arith; fits_b = omega arith; fits_s = omega arith; clear_a = inr (inl (omega arith)); clear_b = inr (inl (omega arith)) }

pub the-fourth : take 8 (drop (8 * 3) (encoded (sum_list 0 1 2 1))) ≡ 2 ∷ 3 ∷ 1 ∷ 0 ∷ 2 ∷ 0 ∷ 0 ∷ 0 ∷ []
unfolding encoded rounds
the-fourth = refl

-- "S start 4, A start 0, B start 16, n 4 stands; n 5: 32."
pub stands : Fields 0 16 4 4
stands =
    record { some = omega arith; width = omega arith; fits_a = omega arith; fits_b = omega arith; fits_s = omega arith; clear_a = inr (inl (omega arith)); clear_b = inr (inr (omega arith)) }

pub overlaps : (buffer : List ℕ) → (sum_built 0 16 4 5 buffer ≡ record { answer = record { number = 32; count = 0 }; list = buffer })
    × (difference_built 0 16 4 5 buffer ≡ record { answer = record { number = 32; count = 0 }; list = buffer })
unfolding sum_built difference_built fields_fault
overlaps buffer = (refl, refl)

-- "Start 192, n 64 stands; 193: 31."
pub reaches : Fields 192 192 192 64
reaches =
    record { some = omega arith; width = omega arith; fits_a = omega arith; fits_b = omega arith; fits_s = omega arith; clear_a = inl refl; clear_b = inl refl }

pub goes-beyond : (buffer : List ℕ) → (sum_built 193 192 192 64 buffer ≡ record { answer = record { number = 31; count = 0 }; list = buffer })
    × (sum_built 192 193 192 64 buffer ≡ record { answer = record { number = 31; count = 0 }; list = buffer })
    × (difference_built 192 192 193 64 buffer ≡ record { answer = record { number = 31; count = 0 }; list = buffer })
unfolding sum_built difference_built fields_fault
goes-beyond buffer = (refl, refl, refl)
