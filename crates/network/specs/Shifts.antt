-- The 37 shifts and their signals. Document 01, Network; readings A4 and A5 on their order.
use Rattle.std.specs.Prelude.{Bool, cond, ◌&&◌, List, [], ◌∷◌, ◌++◌, ℕ, zero, suc, ◌+◌, ◌*◌, ◌/◌, ◌%◌, leb, ltb, get_or, Option, position, ◌==◌}
use Rattle.bits.specs.Bits.{listed}
use Rattle.bits.specs.Search.{index_of}

-- ---- the codes

-- 0 for none, and then 16 p + m for each p from 1 to n and each m below p.
unfoldable pub codes_to : ℕ → List ℕ
codes_to zero = 0 ∷ []
codes_to (suc p) = codes_to p ++ listed (λ m. 16 * suc p + m) (suc p)

-- The 37 permitted values of byte 6: "16p + m, 0 for none", 0 ≤ m < p ≤ 8.
unfoldable pub codes : List ℕ
codes = codes_to 8

-- The number of the shift that byte 6 gives: where it stands among the codes. 37 where it is none of them.
abbrev pub shift_of : ℕ → ℕ
shift_of c = index_of c codes

unfoldable pub permitted : ℕ → Bool
permitted c = ltb (shift_of c) 37

-- The same number as a search gives it: none where it is none of them (`found-is` of proofs/TableRules.antt).
abbrev pub found : ℕ → Option ℕ
found c = position (λ x. x == c) codes

-- Shift number s is that of 2^m modulo 2^p, where entry s of the codes is 16 p + m.
abbrev pub p_of : ℕ → ℕ
p_of s = get_or codes s 0 / 16

abbrev pub m_of : ℕ → ℕ
m_of s = get_or codes s 0 % 16

-- ---- the signals

-- "Signal k of level j is 1 exactly if m ≤ j < p and k ≤ m."
unfoldable pub signal : ℕ → ℕ → ℕ → ℕ → ℕ
signal p m j k = cond (leb m j && ltb j p && leb k m) 1 0

-- The signals of a network of n levels: those of n minus 1 levels, and then signals 0 .. j of level j, the last.
unfoldable pub row : ℕ → ℕ → ℕ → List ℕ
row zero p m = []
row (suc j) p m = row j p m ++ listed (signal p m j) (suc j)

-- The rows of 8 levels of some codes.
unfoldable pub rows : List ℕ → List (List ℕ)
rows [] = []
rows (c ∷ cs) = row 8 (c / 16) (c % 16) ∷ rows cs

-- The 1,332 shift signals: 36 for each of the 37 shifts.
unfoldable pub signals : List (List ℕ)
signals = rows codes

-- Where signal k of level j stands among the 36 of a shift.
abbrev pub place : ℕ → ℕ → ℕ
place j k = j * (j + 1) / 2 + k
