-- The words of a line, one behind the other, and the number that the characters of a word are. docs/TEXT.md, "Words, lines and comments".
use Rattle.std.specs.Prelude.{Bool, true, false, cond, ◌&&◌, ◌||◌, List, [], ◌∷◌, ℕ, suc, ◌+◌, ◌-◌, ◌*◌, eqb, ltb, length, take, drop}
use Rattle.spelling.specs.Words.{number, extended_by}
use Rattle.text.specs.Make.{blank}
use Rattle.assembly.specs.declared.Word.{Word}

-- "Blanks, tabs and carriage returns stand between words, and anything else is part of a word"; "`;` begins a comment, anywhere, also right behind a word".
abbrev pub stops : ℕ → Bool
stops c = blank c || eqb c 59

-- How many blanks stand in front, and how many characters of a word.
unfoldable pub blanks : List ℕ → ℕ
blanks [] = 0
blanks (c ∷ cs) = cond (blank c) (suc (blanks cs)) 0

unfoldable pub letters : List ℕ → ℕ
letters [] = 0
letters (c ∷ cs) = cond (stops c) 0 (suc (letters cs))

-- The characters from place a on that stand before place e.
abbrev pub part : List ℕ → ℕ → ℕ → List ℕ
part line a e = take (e - a) (drop a line)

-- The first word from place `at` on: where it begins, where it ends, and its characters as a number. Where none is left there is no character: the word is 0, and begins at the line's end or at the `;` of its comment.
unfoldable pub word_from : List ℕ → ℕ → Word
word_from line at =
    let start = at + blanks (drop at line) in
    let next = start + letters (drop start line) in
    record { start = start; next = next; word = extended_by 0 (part line start next) }

-- ---- numbers

-- A number, if there is one: else 0.
pub record Value : Type 0 where
  pub stands : Bool
  pub value : ℕ

abbrev pub valued : Bool → ℕ → Value
valued b n = record { stands = b; value = n }

-- One digit more: none where it is no digit, or the number is not below 2^64. (More digits make it no smaller.)
unfoldable pub with_digit : Value → ℕ → Value
with_digit v c =
    cond (v.stands && (ltb (number c) 10 && ltb (10 * v.value + number c) 18446744073709551616)) (valued true (10 * v.value + number c)) (valued false 0)

unfoldable pub value_by : Value → List ℕ → Value
value_by v [] = v
value_by v (c ∷ cs) = value_by (with_digit v c) cs

-- "Below 2^64 in one to twenty digits."
unfoldable pub value_of : List ℕ → Value
value_of cs = cond (ltb 20 (length cs)) (valued false 0) (value_by (valued true 0) cs)

-- ---- words of more than eight characters

-- The same characters.
unfoldable pub same_characters : List ℕ → List ℕ → Bool
same_characters [] [] = true
same_characters [] (y ∷ ys) = false
same_characters (x ∷ xs) [] = false
same_characters (x ∷ xs) (y ∷ ys) = eqb x y && same_characters xs ys
