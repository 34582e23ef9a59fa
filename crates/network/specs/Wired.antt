-- The wired form of a pass. Document 01, Network: "A network of n levels is a network of n minus 1 levels, then one more."
use Rattle.std.specs.Prelude.{List, ℕ, zero, suc, ◌/◌, ◌%◌, ◌^◌}
use Rattle.std.specs.Int.Bits.{bit_xor}
use Rattle.bits.specs.Bits.{digit, bit_of, item}
use Rattle.network.specs.Shifts.{signal}

-- How many significant bits x has: none where it is 0, else one more than its half. At most d are looked at.
unfoldable pub significant_in : ℕ → ℕ → ℕ
significant_in zero x = zero
significant_in (suc d) zero = zero
significant_in (suc d) (suc x) = suc (significant_in d (suc x / 2))

unfoldable pub significant : ℕ → ℕ
significant x = significant_in x x

-- "Level j may swap lines I and I xor 2^j": where what they obey is not 0.
abbrev pub swapped : ℕ → ℕ → ℕ → ℕ
swapped j zero i = i
swapped j (suc s) i = bit_xor i (2 ^ j)

-- Level j. "A line obeys the signal whose number is the count of significant bits in I mod 2^j", "xored with bit j of F".
-- I is the line as the earlier levels left it (docs/DECISIONS.md).
unfoldable pub level : ℕ → ℕ → ℕ → ℕ → ℕ → ℕ
level f p m j i = swapped j (bit_xor (signal p m j (significant (i % 2 ^ j))) (digit f j)) i

-- Where a network of n levels takes line i.
unfoldable pub wired : ℕ → ℕ → ℕ → ℕ → ℕ → ℕ
wired zero f p m i = i
wired (suc n) f p m i = level f p m n (wired n f p m i)

-- An item after level j: a line has what its partner had, or its own. Partners obey one signal, so a level undoes itself.
unfoldable pub levelled : ℕ → ℕ → ℕ → ℕ → List ℕ → List ℕ
levelled f p m j l = item λ k. bit_of l (level f p m j k)

-- An item after a network of n levels.
unfoldable pub wired_item : ℕ → ℕ → ℕ → ℕ → List ℕ → List ℕ
wired_item zero f p m l = l
wired_item (suc n) f p m l = levelled f p m n (wired_item n f p m l)
