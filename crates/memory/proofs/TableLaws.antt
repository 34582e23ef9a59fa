-- Demand 2's table law over the width n: seen as an unscrambled table, a store is an update of the table, and a load under each mode reads the table. Assumes nothing.
use mathlib.Core.Path.{◌≡◌, refl, sym, ap, ap₂, ◌∙◌}
use mathlib.Core.Bool.{Bool, ◌&&◌, cond}
use Prim.Native.Nat.{ℕ, ◌^◌, ◌<◌}
use native.Mathlib.Decide.{ℕ_discrete}
use lib.Bits.{bit_xor}
use lib.Dec.{eqb}
use borrow.Author.Tests.{eq-eqb, ne_eqb}
use Rattle.memory.specs.Access.{local_of, chip_of, line_of, read_bit, stored_bit}
use Rattle.memory.specs.Table.{table, line_bit, line_word, Updated}
use Rattle.memory.proofs.AccessLaws.{local-line, chip-line, read-line, line_bit-lt, line_word-lt, line_of-chip_of, pointer-lt, pointer-bit, pointer_word}

-- ---- what a store leaves at one location

-- at the local address: the line's bit, or what was there where the line is masked
pub stored-hit : (chips : ℕ → ℕ → ℕ) (m g : ℕ) (mask f : ℕ → ℕ) (c b : ℕ) → b ≡ local_of m g c
    → stored_bit chips m g mask f c b ≡ cond (eqb (mask (line_of g c)) 1) (f (line_of g c)) (chips c b)
stored-hit chips m g mask f c b e =
    ap (λ (t : Bool). cond (t && eqb (mask (line_of g c)) 1) (f (line_of g c)) (chips c b)) (eq-eqb b (local_of m g c) e)

-- anywhere else: what was there
pub stored-miss : (chips : ℕ → ℕ → ℕ) (m g : ℕ) (mask f : ℕ → ℕ) (c b : ℕ) → (b ≡ local_of m g c → ⊥)
    → stored_bit chips m g mask f c b ≡ chips c b
stored-miss chips m g mask f c b u =
    ap (λ (t : Bool). cond (t && eqb (mask (line_of g c)) 1) (f (line_of g c)) (chips c b)) (ne_eqb b (local_of m g c) u)

-- ---- a line reads back what it stored

pub store-read : (chips : ℕ → ℕ → ℕ) (m g : ℕ) (mask f : ℕ → ℕ) (p : ℕ)
    → read_bit (stored_bit chips m g mask f) m g p ≡ cond (eqb (mask p) 1) (f p) (read_bit chips m g p)
store-read chips m g mask f p =
    stored-hit chips m g mask f (chip_of g p) (local_of m g (chip_of g p)) refl
    ∙ ap (λ (q : ℕ). cond (eqb (mask q) 1) (f q) (read_bit chips m g p)) (line_of-chip_of g p)

-- ---- a store is an update of the table

module _ (n : ℕ) (chips : ℕ → ℕ → ℕ) (m g : ℕ) (mask f : ℕ → ℕ) (hm : m < 2 ^ n) (hg : g < 2 ^ n) where
  after : ℕ → ℕ → ℕ
  after = stored_bit chips m g mask f

  pub store-updates : Updated n m g mask f (table chips) (table (stored_bit chips m g mask f))
  unfolding after
  store-updates = record { lines = lines; others = others }
    where
      lines : (p : ℕ) → p < 2 ^ n
          → table after (line_word n m g p) (line_bit n m g p) ≡ cond (eqb (mask p) 1) (f p) (table chips (line_word n m g p) (line_bit n m g p))
      lines p hp =
          sym (read-line n m g p hm hg hp after)
          ∙ store-read chips m g mask f p
          ∙ ap (cond (eqb (mask p) 1) (f p)) (read-line n m g p hm hg hp chips)

      others : (w b : ℕ) → w < 2 ^ n → b < 2 ^ n
          → ((p : ℕ) → p < 2 ^ n → w ≡ line_word n m g p → b ≡ line_bit n m g p → ⊥)
          → table after w b ≡ table chips w b
      others w b hw hb u =
          stored-miss chips m g mask f (bit_xor b w) b
          (λ e. u (line_of g (bit_xor b w)) (pointer-lt n m g w b hm hg hw hb e) (pointer_word n m g w b hm hg hw hb e) (pointer-bit n m g w b hm hg hw hb e))

-- the update leaves one table: two that both are it agree at each bit of each word
pub updated-unique : (n m g : ℕ) (mask f : ℕ → ℕ) (t t₁ t₂ : ℕ → ℕ → ℕ) → m < 2 ^ n → g < 2 ^ n
    → Updated n m g mask f t t₁ → Updated n m g mask f t t₂ → (w b : ℕ) → w < 2 ^ n → b < 2 ^ n → t₁ w b ≡ t₂ w b
updated-unique n m g mask f t t₁ t₂ hm hg u₁ u₂ w b hw hb = go (ℕ_discrete b (local_of m g (bit_xor b w)))
  where
    p : ℕ
    p = line_of g (bit_xor b w)

    go : Dec (b ≡ local_of m g (bit_xor b w)) → t₁ w b ≡ t₂ w b
    go (yes e) =
        let hp = pointer-lt n m g w b hm hg hw hb e in
        let ew = pointer_word n m g w b hm hg hw hb e in
        let eb = pointer-bit n m g w b hm hg hw hb e in
        ap₂ t₁ ew eb ∙ u₁.lines p hp ∙ sym (u₂.lines p hp) ∙ sym (ap₂ t₂ ew eb)
    go (no u) =
        u₁.others w b hw hb (off u) ∙ sym (u₂.others w b hw hb (off u))
      where
        off : (b ≡ local_of m g (bit_xor b w) → ⊥) → (q : ℕ) → q < 2 ^ n → w ≡ line_word n m g q → b ≡ line_bit n m g q → ⊥
        off u q hq ew eb =
            u (eb ∙ sym (local-line n m g q hm hg hq) ∙ ap (local_of m g) (chip-line n m g q hm hg hq ∙ sym (ap₂ bit_xor eb ew)))

-- ---- a store under one mode and address, then a load under any mode and address: the updated table is read

pub store-load : (n : ℕ) (chips : ℕ → ℕ → ℕ) (m g : ℕ) (mask f : ℕ → ℕ) (t' : ℕ → ℕ → ℕ) → m < 2 ^ n → g < 2 ^ n
    → Updated n m g mask f (table chips) t'
    → (m' g' p : ℕ) → m' < 2 ^ n → g' < 2 ^ n → p < 2 ^ n
    → read_bit (stored_bit chips m g mask f) m' g' p ≡ t' (line_word n m' g' p) (line_bit n m' g' p)
store-load n chips m g mask f t' hm hg u m' g' p hm' hg' hp =
    read-line n m' g' p hm' hg' hp (stored_bit chips m g mask f)
    ∙ updated-unique n m g mask f (table chips) (table (stored_bit chips m g mask f)) t' hm hg
    (store-updates n chips m g mask f hm hg) u (line_word n m' g' p) (line_bit n m' g' p)
    (line_word-lt n m' g' p hm' hg' hp) (line_bit-lt n m' g' p hm' hg' hp)
