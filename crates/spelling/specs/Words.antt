-- Words: where they stand in a table, numbers as words, and the characters of a word. Characters are their ASCII codes; a word is a number (Tables).
use Rattle.std.specs.Prelude.{Bool, true, cond, not, ◌&&◌, List, [], ◌∷◌, ◌++◌, ℕ, zero, suc, ◌+◌, ◌-◌, ◌*◌, ◌/◌, ◌%◌, eqb, ltb}

-- The word w where b holds, else no word.
abbrev pub when : Bool → ℕ → ℕ
when b w = cond b w 0

-- ---- numbers

-- What stands for a number where there is none.
abbrev pub no_number : ℕ
no_number = 999

-- A number below 1,000 in decimal, without leading zeros.
unfoldable pub decimal : ℕ → ℕ
decimal n =
    cond (ltb n 10) (48 + n)
    (cond (ltb n 100) (256 * (48 + n / 10) + (48 + n % 10))
    (65536 * (48 + n / 100) + (256 * (48 + n / 10 % 10) + (48 + n % 10))))

-- The digit that a character is.
unfoldable pub digit : ℕ → ℕ
digit c = cond (ltb c 48) no_number (cond (ltb c 58) (c - 48) no_number)

-- The number that a word of one to three digits is; at least 999 where it is none.
unfoldable pub number : ℕ → ℕ
number w =
    cond (ltb w 256) (digit w)
    (cond (ltb w 65536) (10 * digit (w / 256) + digit (w % 256))
    (cond (ltb w 16777216) (100 * digit (w / 65536) + (10 * digit (w / 256 % 256) + digit (w % 256)))
    no_number))

-- A digit below 16 as a character, and a byte as two.
unfoldable pub hex_digit : ℕ → ℕ
hex_digit d = cond (ltb d 10) (48 + d) (55 + d)

unfoldable pub hex_pair : ℕ → ℕ
hex_pair n = 256 * hex_digit (n / 16) + hex_digit (n % 16)

-- The digit that a character is, small letters or capitals, and the byte that a word of two such characters is; at least 999 where it is none.
unfoldable pub hex_value : ℕ → ℕ
hex_value c =
    cond (ltb c 48) no_number
    (cond (ltb c 58) (c - 48)
    (cond (ltb c 65) no_number
    (cond (ltb c 71) (c - 55)
    (cond (ltb c 97) no_number
    (cond (ltb c 103) (c - 87)
    no_number)))))

unfoldable pub pair_value : ℕ → ℕ
pair_value w = cond (ltb w 65536) (16 * hex_value (w / 256) + hex_value (w % 256)) no_number

-- ---- characters

-- The place of a word's first character, where it has eight: 256^7.
abbrev pub top_place : ℕ
top_place = 72057594037927936

-- What no word reads as: more than eight characters, or one that is no visible character of ASCII.
abbrev pub unreadable : ℕ
unreadable = 18446744073709551615

-- The word w with one more character c.
unfoldable pub extended : ℕ → ℕ → ℕ
extended w c = cond (ltb w top_place) (cond (ltb c 33) unreadable (cond (ltb c 127) (256 * w + c) unreadable)) unreadable

-- A character, where it is none of code 0.
unfoldable pub visible : ℕ → List ℕ
visible c = cond (eqb c 0) [] (c ∷ [])

-- The characters of a word of at most n more, the first at the place 256^7.
unfoldable pub spelled_in : ℕ → ℕ → List ℕ
spelled_in zero w = []
spelled_in (suc n) w = visible (w / top_place) ++ spelled_in n (w % top_place * 256)

unfoldable pub spelled : ℕ → List ℕ
spelled w = spelled_in 8 w

-- A visible character that starts no comment.
abbrev pub good : ℕ → Bool
good c = ltb 32 c && (ltb c 127 && not (eqb c 59))

unfoldable pub goods : List ℕ → Bool
goods [] = true
goods (c ∷ cs) = good c && goods cs

-- The word w with more characters, one after the other.
unfoldable pub extended_by : ℕ → List ℕ → ℕ
extended_by w [] = w
extended_by w (c ∷ cs) = extended_by (extended w c) cs

-- A word that reads back as itself.
unfoldable pub plain : ℕ → Bool
plain w = not (eqb w 0) && (goods (spelled w) && eqb (extended_by 0 (spelled w)) w)
