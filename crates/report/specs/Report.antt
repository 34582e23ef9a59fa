-- What the program prints. Document 01, The program. Characters are their ASCII codes.
use Rattle.std.specs.Prelude.{cond, List, [], ◌∷◌, ◌++◌, ℕ, zero, suc, ◌+◌, ◌*◌, ◌/◌, ◌%◌, ltb, take, drop}

-- "Numbers are decimal without leading zeros": the last digit, after those of a tenth where that is not 0. At most d digits are written.
unfoldable pub decimal_in : ℕ → ℕ → List ℕ
decimal_in zero n = []
decimal_in (suc d) n = cond (ltb n 10) [] (decimal_in d (n / 10)) ++ ((48 + n % 10) ∷ [])

unfoldable pub decimal : ℕ → List ℕ
decimal n = decimal_in (suc n) n

-- "One space before each."
abbrev pub spaced : ℕ → List ℕ
spaced n = 32 ∷ decimal n

-- "It prints: p, l, i or r for picture, list, items or run; number; place; steps; taken; given"; document 02, Six: the byte "after the place on every such line"; "a line feed ends every line."
unfoldable pub line : ℕ → ℕ → ℕ → ℕ → ℕ → ℕ → ℕ → List ℕ
line letter number place byte steps taken given =
    letter ∷ (spaced number ++ (spaced place ++ (spaced byte ++ (spaced steps ++ (spaced taken ++ (spaced given ++ (10 ∷ [])))))))

-- A digit below 16 as a lower-case hex digit, and bytes as two each, the first byte first.
abbrev pub hex_digit : ℕ → ℕ
hex_digit d = cond (ltb d 10) (48 + d) (87 + d)

unfoldable pub hexed : List ℕ → List ℕ
hexed [] = []
hexed (x ∷ xs) = hex_digit (x / 16) ∷ hex_digit (x % 16) ∷ hexed xs

-- "Each given item follows as 64 lower-case hex digits on a line, byte 0 first": the first n items of the out buffer.
unfoldable pub item_lines : List ℕ → ℕ → List ℕ
item_lines out zero = []
item_lines out (suc k) = item_lines out k ++ (hexed (take 32 (drop (32 * k) out)) ++ (10 ∷ []))

-- All that is printed: the line, and after it the items that were given.
unfoldable pub printed : ℕ → ℕ → ℕ → ℕ → ℕ → ℕ → ℕ → List ℕ → List ℕ
printed letter number place byte steps taken given out = line letter number place byte steps taken given ++ item_lines out given
