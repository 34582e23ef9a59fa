-- The access law over the width n of a line's number: which bit of which word a line meets, and that lines and bits go together one to one. It serves 7 and 8. Assumes nothing.
use mathlib.Core.Path.{◌≡◌, sym, ap, ap₂, ◌∙◌}
use Prim.Native.Nat.{ℕ, ◌^◌, ◌<◌}
use lib.Bits.{bit_and, bit_xor, xor_lt, and_lt}
use lib.Pow.{ones_sub-lt}
use Rattle.bits.proofs.Xor.{xor_assoc, xor-twice, xor-inj, xor-four, and_xor, xor-and-not, and-join}
use Rattle.memory.specs.Access.{word_at, local_of, chip_of, line_of, read_bit}
use Rattle.memory.specs.Table.{table, not_of, line_bit, line_word}

-- storage, read from the chip: location b of chip c holds bit b of word b xor c
pub table-storage : (chips : ℕ → ℕ → ℕ) (c b : ℕ) → table chips (word_at b c) b ≡ chips c b
table-storage chips c b = ap (λ (x : ℕ). chips x b) (xor-twice b c)

-- the chip that a line meets is met by that line
pub line_of-chip_of : (g p : ℕ) → line_of g (chip_of g p) ≡ p
line_of-chip_of g p = xor-twice g p

module _ (n m g p : ℕ) (hm : m < 2 ^ n) (hg : g < 2 ^ n) (hp : p < 2 ^ n) where
  pub local-line : local_of m g (chip_of g p) ≡ line_bit n m g p
  local-line =
      ap (bit_xor g) (and_xor m g p)
      ∙ sym (xor_assoc g (bit_and m g) (bit_and m p))
      ∙ ap (λ (x : ℕ). bit_xor x (bit_and m p)) (xor-and-not n m g hm hg)

  pub chip-line : chip_of g p ≡ bit_xor (line_bit n m g p) (line_word n m g p)
  chip-line =
      sym (xor-four (bit_and (not_of n m) g) (bit_and m p) (bit_and m g) (bit_and (not_of n m) p)
      ∙ ap₂ bit_xor (and-join n m g hm hg) (and-join n m p hm hp))

  -- "line P meets bit ((not M) and G) xor (M and P) of word (M and G) xor ((not M) and P)"
  pub read-line : (chips : ℕ → ℕ → ℕ) → read_bit chips m g p ≡ table chips (line_word n m g p) (line_bit n m g p)
  read-line chips = ap₂ chips chip-line local-line

  pub line_bit-lt : line_bit n m g p < 2 ^ n
  line_bit-lt = xor_lt n (bit_and (not_of n m) g) (bit_and m p) (and_lt n (not_of n m) g (ones_sub-lt n m) hg) (and_lt n m p hm hp)

  pub line_word-lt : line_word n m g p < 2 ^ n
  line_word-lt = xor_lt n (bit_and m g) (bit_and (not_of n m) p) (and_lt n m g hm hg) (and_lt n (not_of n m) p (ones_sub-lt n m) hp)

-- distinct lines point to distinct bits
pub line-inj : (n m g p q : ℕ) → m < 2 ^ n → g < 2 ^ n → p < 2 ^ n → q < 2 ^ n
    → line_word n m g p ≡ line_word n m g q → line_bit n m g p ≡ line_bit n m g q → p ≡ q
line-inj n m g p q hm hg hp hq ew eb =
    xor-inj g p q (chip-line n m g p hm hg hp ∙ ap₂ bit_xor eb ew ∙ sym (chip-line n m g q hm hg hq))

-- a bit at the local address of its chip is pointed to by the line that meets the chip
module _ (n m g w b : ℕ) (hm : m < 2 ^ n) (hg : g < 2 ^ n) (hw : w < 2 ^ n) (hb : b < 2 ^ n) (e : b ≡ local_of m g (bit_xor b w)) where
  line : ℕ
  line = line_of g (bit_xor b w)

  pub pointer-lt : line_of g (bit_xor b w) < 2 ^ n
  pointer-lt = xor_lt n g (bit_xor b w) hg (xor_lt n b w hb hw)

  pub pointer-bit : b ≡ line_bit n m g (line_of g (bit_xor b w))
  unfolding line
  pointer-bit = e ∙ sym (ap (local_of m g) (xor-twice g (bit_xor b w))) ∙ local-line n m g line hm hg pointer-lt

  pub pointer_word : w ≡ line_word n m g (line_of g (bit_xor b w))
  unfolding line
  pointer_word =
      xor-inj b w (line_word n m g line)
      (sym (xor-twice g (bit_xor b w)) ∙ chip-line n m g line hm hg pointer-lt ∙ ap (λ (x : ℕ). bit_xor x (line_word n m g line)) (sym pointer-bit))
