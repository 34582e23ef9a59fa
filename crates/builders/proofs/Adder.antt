-- What the sum and the difference list leave on the one-word machine: one invariant serves both, with B's bits turned for a difference. Assumes nothing.
use mathlib.Core.Path.{◌≡◌, refl, sym, ap, ap₂, subst, ◌∙◌}
use mathlib.Core.Bool.{Bool, cond}
use mathlib.Core.Logic.{inl, inr}
use Prim.Native.Nat.{ℕ, suc, ◌+◌, ◌-◌, ◌*◌, ◌%◌, ◌^◌, ◌<◌, ◌≤◌}
use native.Mathlib.Nat.{pow-suc, zero-div}
use native.Mathlib.Omega.{arith}
use lib.Dec.{T, eqb, eqb→eq}
use borrow.Author.Tests.{eq-eqb, ne_eqb}
use Rattle.bits.specs.Bits.{digits_of}
use Rattle.bits.proofs.Binary.{Bit, off, on, bit-lt, cond-bit}
use Rattle.bits.proofs.Digits.{digits_of-ext}
use Rattle.bits.proofs.Tests.{all, all-at}
use Rattle.registers.specs.Logic.{function_bit, new_x, new_y}
use Rattle.registers.proofs.LogicLaws.{new_y-bit}
use Rattle.builders.specs.Sums.{clear, set_y, bit_round, bit_rounds, sum_byte, difference_byte, carry_byte, move_byte, sum_list, difference_list, Clear}
use Rattle.builders.specs.Word.{Word, source_bit, after_bit, acted_word, folded, ran_word}
use Rattle.builders.proofs.Folds.{folded-rounds}
use Rattle.builders.proofs.Carries.{carry-step}

-- ---- one bit: X and Y after each instruction that turns them, from old X and Y and the bits a and b

abbrev x1 : ℕ → ℕ → ℕ → ℕ
x1 x y a = new_x sum_byte x y a

abbrev y1 : ℕ → ℕ → ℕ
y1 y a = new_y sum_byte y a

abbrev x2 : ℕ → ℕ → ℕ → ℕ → ℕ → ℕ
x2 t x y a b = new_x t (x1 x y a) (y1 y a) b

abbrev y2 : ℕ → ℕ → ℕ → ℕ → ℕ
y2 t y a b = new_y t (y1 y a) b

abbrev x3 : ℕ → ℕ → ℕ → ℕ → ℕ → ℕ
x3 t x y a b = new_x carry_byte (x2 t x y a b) (y2 t y a b) (x2 t x y a b)

abbrev x4 : ℕ → ℕ → ℕ → ℕ → ℕ → ℕ
x4 t x y a b = new_x move_byte (x3 t x y a b) (y2 t y a b) (x3 t x y a b)

abbrev y4 : ℕ → ℕ → ℕ → ℕ → ℕ → ℕ
y4 t x y a b = new_y move_byte (y2 t y a b) (x3 t x y a b)

-- a word with bit g put to u
abbrev put_bit : (ℕ → ℕ) → ℕ → ℕ → ℕ → ℕ
put_bit w g u b = cond (eqb b g) u (w b)

round-run : (t a b s : ℕ) (o : ℕ → ℕ) (v : Word) → ran_word (bit_round t a b s) o v
    ≡ record {
      bits = put_bit v.bits s (y2 t v.y (v.bits a) (v.bits b));
      m = v.m;
      x = x4 t v.x v.y (v.bits a) (v.bits b);
      y = y4 t v.x v.y (v.bits a) (v.bits b);
      taken = v.taken;
    }
unfolding folded acted_word after_bit source_bit new_y
round-run t a b s o v = refl

-- the full adder, with B's bit read as u of it
record Adds (t : ℕ) (u : ℕ → ℕ) (y a b : ℕ) : Type 0 where
  zero_x : x4 t 0 y a b ≡ 0
  total : y2 t y a b + 2 * y4 t 0 y a b ≡ a + u b + y

test_x : ℕ → ℕ → ℕ → ℕ → Bool
test_x t y a b = eqb (x4 t 0 y a b) 0

test_y : ℕ → (ℕ → ℕ) → ℕ → ℕ → ℕ → Bool
test_y t u y a b = eqb (y2 t y a b + 2 * y4 t 0 y a b) (a + u b + y)

-- a test of three bits, at each of the eight cases
pub at_bits : (f : ℕ → ℕ → ℕ → Bool) → T (all 2 (λ y. all 2 (λ a. all 2 (f y a)))) → (y a b : ℕ) → Bit y → Bit a → Bit b → T (f y a b)
at_bits f t y a b hy ha hb = all-at 2 (f y a) (all-at 2 (λ a. all 2 (f y a)) (all-at 2 (λ y. all 2 (λ a. all 2 (f y a))) t y (bit-lt hy)) a (bit-lt ha)) b (bit-lt hb)

adds-of : (t : ℕ) (u : ℕ → ℕ) → T (all 2 (λ y. all 2 (λ a. all 2 (test_x t y a)))) → T (all 2 (λ y. all 2 (λ a. all 2 (test_y t u y a))))
    → (y a b : ℕ) → Bit y → Bit a → Bit b → Adds t u y a b
unfolding test_x test_y
adds-of t u p q y a b hy ha hb =
    record {
      zero_x = eqb→eq (x4 t 0 y a b) 0 (at_bits (test_x t) p y a b hy ha hb);
      total = eqb→eq (y2 t y a b + 2 * y4 t 0 y a b) (a + u b + y) (at_bits (test_y t u) q y a b hy ha hb);
    }

adds-sum : (y a b : ℕ) → Bit y → Bit a → Bit b → Adds sum_byte (λ z. z) y a b
unfolding test_x test_y new_x new_y
adds-sum = adds-of sum_byte (λ z. z) tt tt

adds-difference : (y a b : ℕ) → Bit y → Bit a → Bit b → Adds difference_byte (λ z. 1 - z) y a b
unfolding test_x test_y new_x new_y
adds-difference = adds-of difference_byte (λ z. 1 - z) tt tt

-- ---- the rounds

-- what k rounds leave of the word v₀, with carry c at the start
pub record After (u : ℕ → ℕ) (a b s c : ℕ) (v₀ : Word) (k : ℕ) (v : Word) : Type 0 where
  pub keeps_m : v.m ≡ v₀.m
  pub zero_x : v.x ≡ 0
  pub bit_y : Bit v.y
  pub low : (i : ℕ) → Bit (v.bits i)
  pub other : (i : ℕ) → (s ≤ i → i < s + k → ⊥) → v.bits i ≡ v₀.bits i
  pub total : digits_of (λ j. v.bits (s + j)) k + v.y * 2 ^ k ≡ digits_of (λ j. v₀.bits (a + j)) k + (digits_of (λ j. u (v₀.bits (b + j))) k + c)

put_same : (w : ℕ → ℕ) (g u b : ℕ) → b ≡ g → put_bit w g u b ≡ u
put_same w g u b e = ap (λ (t : Bool). cond t u (w b)) (eq-eqb b g e)

put_other : (w : ℕ → ℕ) (g u b : ℕ) → (b ≡ g → ⊥) → put_bit w g u b ≡ w b
put_other w g u b n = ap (λ (t : Bool). cond t u (w b)) (ne_eqb b g n)

module _ (t : ℕ) (u : ℕ → ℕ) (adds : (y a b : ℕ) → Bit y → Bit a → Bit b → Adds t u y a b) (a b s n c : ℕ) (v₀ : Word)
    (clear_a : Clear s a n) (clear_b : Clear s b n) where
  -- a bit not yet reached of a field that S does not cross is still the old one
  old : (d k : ℕ) (v : Word) → Clear s d n → k < n → After u a b s c v₀ k v → v.bits (d + k) ≡ v₀.bits (d + k)
  old d k v (inl e) h i = i.other (d + k) (λ p q. omega arith)
  old d k v (inr (inl e)) h i = i.other (d + k) (λ p q. omega arith)
  old d k v (inr (inr e)) h i = i.other (d + k) (λ p q. omega arith)

  -- one digit more
  digit-more : (k : ℕ) (v : Word) (g x y : ℕ) → After u a b s c v₀ k v → x ≡ 0 → Bit y → Bit g → g + 2 * y ≡ v₀.bits (a + k) + u (v₀.bits (b + k)) + v.y
      → After u a b s c v₀ (suc k) (record { bits = put_bit v.bits (s + k) g; m = v.m; x = x; y = y; taken = v.taken })
  unfolding digits_of
  digit-more k v g x y i hx hy hg e =
      record {
        keeps_m = i.keeps_m;
        zero_x = hx;
        bit_y = hy;
        low = λ j. cond-bit (eqb j (s + k)) hg (i.low j);
        other = λ j w. put_other v.bits (s + k) g j (λ q. w (omega arith) (omega arith)) ∙ i.other j (λ p q. w p (omega arith));
        total =
            let p : 2 ^ suc k ≡ 2 ^ k * 2 = pow-suc 2 k in
            let same : digits_of (λ j. put_bit v.bits (s + k) g (s + j)) k ≡ digits_of (λ j. v.bits (s + j)) k =
            digits_of-ext _ _ k (λ j h. put_other v.bits (s + k) g (s + j) (λ q. omega arith)) in
            ap₂ (λ (z r : ℕ). (z * 2 ^ k + r) + y * 2 ^ suc k) (put_same v.bits (s + k) g (s + k) refl) same
            ∙ ap (λ (z : ℕ). (g * 2 ^ k + digits_of (λ j. v.bits (s + j)) k) + y * z) p
            ∙ carry-step (2 ^ k) g y (v₀.bits (a + k)) (u (v₀.bits (b + k))) v.y (digits_of (λ j. v.bits (s + j)) k) (digits_of (λ j. v₀.bits (a + j)) k) (digits_of (λ j. u (v₀.bits (b + j))) k + c) e i.total
            ∙ omega arith;
      }

  round : (k : ℕ) (o : ℕ → ℕ) (v : Word) → k < n → After u a b s c v₀ k v → After u a b s c v₀ (suc k) (ran_word (bit_round t (a + k) (b + k) (s + k)) o v)
  round k o v h i =
      subst (After u a b s c v₀ (suc k)) (sym (round-run t (a + k) (b + k) (s + k) o v))
      (digit-more k v (y2 t v.y (v.bits (a + k)) (v.bits (b + k))) _ _ i
      (ap (λ (z : ℕ). x4 t z v.y (v.bits (a + k)) (v.bits (b + k))) i.zero_x ∙ full.zero_x)
      (new_y-bit move_byte (y2 t v.y (v.bits (a + k)) (v.bits (b + k))) _ g-bit)
      g-bit
      (ap (λ (z : ℕ). y2 t v.y (v.bits (a + k)) (v.bits (b + k)) + 2 * y4 t z v.y (v.bits (a + k)) (v.bits (b + k))) i.zero_x
      ∙ full.total
      ∙ ap₂ (λ (p q : ℕ). p + u q + v.y) (old a k v clear_a h i) (old b k v clear_b h i)))
    where
      full : Adds t u v.y (v.bits (a + k)) (v.bits (b + k))
      full = adds v.y (v.bits (a + k)) (v.bits (b + k)) i.bit_y (i.low (a + k)) (i.low (b + k))

      g-bit : Bit (y2 t v.y (v.bits (a + k)) (v.bits (b + k)))
      g-bit = new_y-bit t (y1 v.y (v.bits (a + k))) (v.bits (b + k)) (new_y-bit sum_byte v.y (v.bits (a + k)) i.bit_y)

  all-rounds : (o : ℕ → ℕ) (v : Word) → After u a b s c v₀ 0 v → After u a b s c v₀ n (ran_word (bit_rounds t a b s n) o v)
  all-rounds o v i =
      folded-rounds (λ i. acted_word i o) (λ k. bit_round t (a + k) (b + k) (s + k)) n (After u a b s c v₀) (λ k v h i. round k o v h i) n v (omega arith) i

-- ---- the two lists

-- function 0 clears, whatever is passed
function-zero : (r f : ℕ) → function_bit 0 r f ≡ 0
function-zero r f = ap (λ (z : ℕ). z % 2) (zero-div (2 ^ (2 * r + f)))

clear-run : (o : ℕ → ℕ) (v : Word) → acted_word clear o v ≡ record { bits = v.bits; m = v.m; x = 0; y = 0; taken = v.taken }
unfolding acted_word after_bit source_bit new_x new_y
clear-run o v =
    ap₂ (λ (p q : ℕ). record { bits = v.bits; m = v.m; x = p; y = q; taken = v.taken }) (function-zero v.x v.x) (function-zero v.y v.x)

set-run : (o : ℕ → ℕ) (w : ℕ → ℕ) (m k : ℕ) → acted_word set_y o (record { bits = w; m = m; x = 0; y = 0; taken = k }) ≡ record { bits = w; m = m; x = 0; y = 1; taken = k }
unfolding acted_word after_bit source_bit new_x new_y
set-run o w m k = refl

module _ (a b s n : ℕ) (clear_a : Clear s a n) (clear_b : Clear s b n) (o : ℕ → ℕ) (v : Word) (low : (i : ℕ) → Bit (v.bits i)) where
  start : (u : ℕ → ℕ) (c : ℕ) → Bit c → After u a b s c v 0 (record { bits = v.bits; m = v.m; x = 0; y = c; taken = v.taken })
  unfolding digits_of
  start u c h = record { keeps_m = refl; zero_x = refl; bit_y = h; low = low; other = λ i w. refl; total = omega arith }

  pub sum-word : After (λ z. z) a b s 0 v n (ran_word (sum_list a b s n) o v)
  unfolding folded
  sum-word =
      all-rounds sum_byte (λ z. z) adds-sum a b s n 0 v clear_a clear_b o (acted_word clear o v)
      (subst (After (λ z. z) a b s 0 v 0) (sym (clear-run o v)) (start (λ z. z) 0 off))

  pub difference-word : After (λ z. 1 - z) a b s 1 v n (ran_word (difference_list a b s n) o v)
  unfolding folded
  difference-word =
      all-rounds difference_byte (λ z. 1 - z) adds-difference a b s n 1 v clear_a clear_b o (acted_word set_y o (acted_word clear o v))
      (subst (After (λ z. 1 - z) a b s 1 v 0) (sym (ap (acted_word set_y o) (clear-run o v) ∙ set-run o v.bits v.m v.taken)) (start (λ z. 1 - z) 1 on))
