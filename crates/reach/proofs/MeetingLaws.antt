-- Which words the lines of an access meet, over the width n of a line's number, and that a store leaves every other word. Assumes nothing.
use mathlib.Core.Path.{◌≡◌, refl, sym, ap, ap₂, ◌∙◌}
use mathlib.Core.Bool.{true, false, true≢false}
use mathlib.Core.List.{List}
use Prim.Native.Nat.{ℕ, ◌+◌, ◌*◌, ◌/◌, ◌%◌, ◌^◌, ◌<◌, min}
use lib.Arith.{bin_ind}
use lib.Bits.{bit_and, bit_xor, and_step, xor_zero_r, xor_self, xor_comm, xor_lt}
use borrow.Author.Tests.{eq-eqb, eqb-true}
use Rattle.bits.proofs.Binary.{Bit, off, on, low_bit}
use Rattle.bits.proofs.Xor.{and_low, and-half, and_xor, xor-twice, xor-inj, xor-and-not, and-join}
use Rattle.memory.specs.Access.{local_of, stored_bit}
use Rattle.memory.specs.Table.{table, not_of, line_word}
use Rattle.memory.specs.Memory.{cell, stored}
use Rattle.memory.proofs.MemoryLaws.{cell-stored}
use Rattle.memory.proofs.TableLaws.{stored-miss}
use Rattle.reach.specs.Reach.{met}

-- ---- and, twice

min-twice : {x y : ℕ} → Bit x → Bit y → min x (min x y) ≡ min x y
min-twice off off = refl
min-twice off on = refl
min-twice on off = refl
min-twice on on = refl

pub and-twice : (a b : ℕ) → bit_and a (bit_and a b) ≡ bit_and a b
and-twice =
    bin_ind (λ (a : ℕ). (b : ℕ) → bit_and a (bit_and a b) ≡ bit_and a b) (λ b. refl)
    (λ a ih b. and_step a (bit_and a b)
    ∙ ap₂ (λ (x y : ℕ). bit_and (a / 2) x * 2 + min (a % 2) y) (and-half a b) (and_low a b)
    ∙ ap₂ (λ (x y : ℕ). x * 2 + y) (ih (b / 2)) (min-twice (low_bit a) (low_bit b))
    ∙ sym (and_step a b))

-- ---- lines and words

module _ (n m g : ℕ) (hm : m < 2 ^ n) where
  -- a mask keeps nothing of what its complement kept
  and-not : (p : ℕ) → p < 2 ^ n → bit_and m (bit_and (not_of n m) p) ≡ 0
  and-not p hp =
      ap (bit_and m) (sym (xor-and-not n m p hm hp))
      ∙ and_xor m p (bit_and m p)
      ∙ ap (bit_xor (bit_and m p)) (and-twice m p)
      ∙ xor_self (bit_and m p)

  -- a line meets only words that are met
  pub line-met : (p : ℕ) → p < 2 ^ n → met m g (line_word n m g p) ≡ true
  line-met p hp =
      eq-eqb (bit_and m (line_word n m g p)) (bit_and m g)
      (and_xor m (bit_and m g) (bit_and (not_of n m) p)
      ∙ ap₂ bit_xor (and-twice m g) (and-not p hp)
      ∙ xor_zero_r (bit_and m g))

  -- and each of these by a line, that of its own number
  pub met-line : (w : ℕ) → w < 2 ^ n → met m g w ≡ true → line_word n m g w ≡ w
  met-line w hw e =
      ap (λ (x : ℕ). bit_xor x (bit_and (not_of n m) w)) (sym (eqb-true (bit_and m w) (bit_and m g) e))
      ∙ xor_comm (bit_and m w) (bit_and (not_of n m) w)
      ∙ and-join n m w hm hw

-- ---- a store leaves a word that is not met

-- a bit at the local address of its chip is one of a word that is met
local-met : (m g w b : ℕ) → b ≡ local_of m g (bit_xor b w) → met m g w ≡ true
local-met m g w b e =
    eq-eqb (bit_and m w) (bit_and m g) (xor-inj (bit_and m b) (bit_and m w) (bit_and m g) (xor-inj (bit_and m g) _ _ (sym kept ∙ sym back)))
  where
    kept : bit_and m b ≡ bit_xor (bit_and m g) (bit_xor (bit_and m b) (bit_and m w))
    kept =
        ap (bit_and m) e
        ∙ and_xor m g (bit_and m (bit_xor b w))
        ∙ ap (bit_xor (bit_and m g)) (and-twice m (bit_xor b w) ∙ and_xor m b w)

    back : bit_xor (bit_and m g) (bit_xor (bit_and m b) (bit_and m g)) ≡ bit_and m b
    back = ap (bit_xor (bit_and m g)) (xor_comm (bit_and m b) (bit_and m g)) ∙ xor-twice (bit_and m g) (bit_and m b)

module _ (m g : ℕ) (mask f : ℕ → ℕ) where
  pub unmet-stays : (chips : ℕ → ℕ → ℕ) (w b : ℕ) → met m g w ≡ false → table (stored_bit chips m g mask f) w b ≡ table chips w b
  unmet-stays chips w b u = stored-miss chips m g mask f (bit_xor b w) b (λ e. true≢false (sym (local-met m g w b e) ∙ u))

  -- so it does in the memory of 8,192 bytes
  pub store-leaves : (mem : List ℕ) → ((p : ℕ) → Bit (f p)) → (w b : ℕ) → w < 256 → b < 256 → met m g w ≡ false
      → table (cell (stored mem m g mask f)) w b ≡ table (cell mem) w b
  store-leaves mem bits w b hw hb u = cell-stored mem m g mask f bits (bit_xor b w) b (xor_lt 8 b w hb hw) hb ∙ unmet-stays (cell mem) w b u
