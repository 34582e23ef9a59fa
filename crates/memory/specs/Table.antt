-- The array as an unscrambled table of words and bits, over the width n of a line's number. Document 01, Memory, and demand 2.
use Rattle.std.specs.Prelude.{◌≡◌, cond, ℕ, ◌-◌, ◌^◌, ◌<◌, eqb}
use Rattle.std.specs.Int.Bits.{bit_and, bit_xor}

-- Bit B of word W, by storage: it is location B of the chip C for which B xor C is W.
abbrev pub table : (ℕ → ℕ → ℕ) → ℕ → ℕ → ℕ
table chips w b = chips (bit_xor b w) b

-- "Not M" is 2 ^ n - 1 minus M: 255 minus M at width 8.
abbrev pub not_of : ℕ → ℕ → ℕ
not_of n m = 2 ^ n - 1 - m

-- "Line P meets bit ((not M) and G) xor (M and P) of word (M and G) xor ((not M) and P)."
abbrev pub line_bit : ℕ → ℕ → ℕ → ℕ → ℕ
line_bit n m g p = bit_xor (bit_and (not_of n m) g) (bit_and m p)

abbrev pub line_word : ℕ → ℕ → ℕ → ℕ → ℕ
line_word n m g p = bit_xor (bit_and m g) (bit_and (not_of n m) p)

-- The table t' is the table t after a store under mode m and address g of the bit f p of each line p whose mask bit is 1: such a line's bit of its word becomes f p, a masked line's stays, and so does every bit that no line points to.
pub record Updated (n m g : ℕ) (mask f : ℕ → ℕ) (t t' : ℕ → ℕ → ℕ) : Type 0 where
  pub lines : (p : ℕ) → p < 2 ^ n
      → t' (line_word n m g p) (line_bit n m g p) ≡ cond (eqb (mask p) 1) (f p) (t (line_word n m g p) (line_bit n m g p))
  pub others : (w b : ℕ) → w < 2 ^ n → b < 2 ^ n
      → ((p : ℕ) → p < 2 ^ n → w ≡ line_word n m g p → b ≡ line_bit n m g p → ⊥)
      → t' w b ≡ t w b
