-- What the searches for equal and for less leave on the one-word machine: one invariant serves both. Assumes nothing.
use mathlib.Core.Path.{◌≡◌, refl, sym, ap, ap₂, subst, subst₂, ◌∙◌}
use mathlib.Core.Bool.{Bool, true, false, cond}
use mathlib.Core.Logic.{◌↔◌}
use mathlib.Core.List.{[], ◌∷◌}
use Prim.Native.Nat.{ℕ, suc, ◌+◌, ◌*◌, ◌^◌, ◌<◌}
use native.Mathlib.Nat.{add-zero, mod-eq_of_lt}
use native.Mathlib.Omega.{arith}
use lib.Dec.{T, eqb, eqb→eq}
use Rattle.bits.specs.Bits.{digit, digits_of}
use Rattle.bits.proofs.Binary.{Bit, off as bit-off, on as bit-on, digit-bit}
use Rattle.bits.proofs.Digits.{digits_of-lt, digits_of-digit}
use Rattle.bits.proofs.Tests.{all}
use Rattle.registers.specs.Logic.{new_x, new_y}
use Rattle.registers.proofs.LogicLaws.{new_y-bit}
use Rattle.builders.specs.Lists.{take_y}
use Rattle.builders.specs.Searches.{differs, unequal, below, move_x, started, search_round, search_rounds, search_list}
use Rattle.builders.specs.Word.{Word, source_bit, after_bit, acted_word, folded, ran_word}
use Rattle.builders.proofs.Folds.{folded-append, folded-rounds}
use Rattle.builders.proofs.Adder.{at_bits}
use Rattle.builders.proofs.Marks.{Mark, on, off, mark-bit, mark-map}

-- ---- the comparison, and one digit more of both numbers

-- less than, or else equal
abbrev pub Compares : Bool → ℕ → ℕ → Type 0
Compares true u w = u < w
Compares false u w = u ≡ w

compares-add : (less : Bool) (c u w : ℕ) → Compares less u w ↔ Compares less (c + u) (c + w)
compares-add true c u w = (λ h. omega arith, λ h. omega arith)
compares-add false c u w = (λ h. omega arith, λ h. omega arith)

-- digits b and d of weight p, above u and w: where they differ, they alone decide
digit-more : (less : Bool) (p u w : ℕ) → u < p → w < p → {x b d : ℕ} → Bit b → Bit d → Mark (Compares less u w) x
    → Mark (Compares less (b * p + u) (d * p + w)) (cond (eqb b d) x (cond less d 0))
digit-more less p u w hu hw bit-off bit-off m = mark-map (compares-add less (0 * p) u w) m
digit-more less p u w hu hw bit-on bit-on m = mark-map (compares-add less (1 * p) u w) m
digit-more true p u w hu hw bit-off bit-on m = on (omega arith)
digit-more true p u w hu hw bit-on bit-off m = off (λ h. omega arith)
digit-more false p u w hu hw bit-off bit-on m = off (λ h. omega arith)
digit-more false p u w hu hw bit-on bit-off m = off (λ h. omega arith)

-- ---- one round: X and Y after it, from old X and Y, the word's bit b and the number's d

abbrev copied : ℕ → ℕ → ℕ
copied y d = new_y take_y.logic y d

abbrev differing : ℕ → ℕ → ℕ
differing d b = new_y (differs 0).logic d b

abbrev turned : Bool → ℕ → ℕ → ℕ → ℕ
turned true x b d = new_x (below 0).logic x (differing d b) b
turned false x b d = new_x unequal.logic x (differing d b) x

round-run : (less : Bool) (g : ℕ) (o : ℕ → ℕ) (v : Word) → ran_word (search_round less g) o v
    ≡ record {
      bits = v.bits;
      m = v.m;
      x = turned less v.x (v.bits g) (copied v.y (o v.taken));
      y = differing (copied v.y (o v.taken)) (v.bits g);
      taken = suc v.taken;
    }
unfolding folded acted_word after_bit source_bit new_x new_y
round-run true g o v = refl
round-run false g o v = refl

copy : {y d : ℕ} → Bit y → Bit d → copied y d ≡ d
unfolding new_y
copy bit-off bit-off = refl
copy bit-off bit-on = refl
copy bit-on bit-off = refl
copy bit-on bit-on = refl

test : Bool → ℕ → ℕ → ℕ → Bool
test less x b d = eqb (turned less x b d) (cond (eqb b d) x (cond less d 0))

tested : (less : Bool) → T (all 2 (λ x. all 2 (λ b. all 2 (test less x b))))
unfolding test new_x new_y
tested true = tt
tested false = tt

-- X stays where the two bits are the same; else less takes the number's, and equal is 0
turned-is : (less : Bool) {x b d : ℕ} → Bit x → Bit b → Bit d → turned less x b d ≡ cond (eqb b d) x (cond less d 0)
unfolding test
turned-is less {x} {b} {d} hx hb hd = eqb→eq (turned less x b d) (cond (eqb b d) x (cond less d 0)) (at_bits (test less) (tested less) x b d hx hb hd)

-- ---- how X starts, and Y ends

start-run : (less : Bool) (o : ℕ → ℕ) (v : Word)
    → acted_word (started less) o v ≡ record { bits = v.bits; m = v.m; x = new_x (started less).logic v.x v.y v.x; y = v.y; taken = v.taken }
unfolding acted_word after_bit source_bit new_y
start-run true o v = refl
start-run false o v = refl

-- of no bits at all, every word is equal and none is less
start-mark : (less : Bool) {x : ℕ} (y : ℕ) → Bit x → Mark (Compares less 0 0) (new_x (started less).logic x y x)
unfolding new_x
start-mark true y bit-off = off (λ h. omega arith)
start-mark true y bit-on = off (λ h. omega arith)
start-mark false y bit-off = on refl
start-mark false y bit-on = on refl

move-run : (o : ℕ → ℕ) (v : Word) → acted_word move_x o v ≡ record { bits = v.bits; m = v.m; x = v.x; y = copied v.y v.x; taken = v.taken }
unfolding acted_word after_bit source_bit new_x
move-run o v = refl

-- ---- the rounds

-- what k rounds leave of the word v₀
record After (less : Bool) (a number : ℕ) (v₀ : Word) (k : ℕ) (v : Word) : Type 0 where
  bits : v.bits ≡ v₀.bits
  keeps_m : v.m ≡ v₀.m
  bit_y : Bit v.y
  count : v.taken ≡ v₀.taken + k
  mark : Mark (Compares less (digits_of (λ j. v₀.bits (a + j)) k) (digits_of (digit number) k)) v.x

-- what a search leaves of it: X and Y mark the word if its field compares with the number
pub record Found (less : Bool) (a n number : ℕ) (v₀ v : Word) : Type 0 where
  pub bits : v.bits ≡ v₀.bits
  pub keeps_m : v.m ≡ v₀.m
  pub count : v.taken ≡ v₀.taken + n
  pub same_x : v.x ≡ v.y
  pub mark : Mark (Compares less (digits_of (λ j. v₀.bits (a + j)) n) number) v.y

module _ (less : Bool) (a n number : ℕ) (o : ℕ → ℕ) (v₀ : Word) (low : (i : ℕ) → Bit (v₀.bits i))
    (items : (j : ℕ) → j < n → o (v₀.taken + j) ≡ digit number j) where
  round : (k : ℕ) (v : Word) → k < n → After less a number v₀ k v → After less a number v₀ (suc k) (ran_word (search_round less (a + k)) o v)
  unfolding digits_of
  round k v h i =
      subst (After less a number v₀ (suc k)) (sym (round-run less (a + k) o v))
      (record {
        bits = i.bits;
        keeps_m = i.keeps_m;
        bit_y = new_y-bit (differs 0).logic _ (v.bits (a + k)) (new_y-bit take_y.logic v.y (o v.taken) i.bit_y);
        count = omega (arith, i.count);
        mark =
            subst (Mark (Compares less (v₀.bits (a + k) * 2 ^ k + digits_of (λ j. v₀.bits (a + j)) k) (digit number k * 2 ^ k + digits_of (digit number) k)))
            (sym (ap₂ (turned less v.x) (ap (λ (f : ℕ → ℕ). f (a + k)) i.bits) taken
            ∙ turned-is less (mark-bit i.mark) (low (a + k)) (digit-bit number k)))
            (digit-more less (2 ^ k) _ _ (digits_of-lt (λ j. v₀.bits (a + j)) (λ j. low (a + j)) k) (digits_of-lt (digit number) (digit-bit number) k)
            (low (a + k)) (digit-bit number k) i.mark);
      })
    where
      taken : copied v.y (o v.taken) ≡ digit number k
      taken = ap (copied v.y) (ap o i.count ∙ items k h) ∙ copy i.bit_y (digit-bit number k)

  start : Bit v₀.x → Bit v₀.y → After less a number v₀ 0 (acted_word (started less) o v₀)
  unfolding digits_of
  start hx hy =
      subst (After less a number v₀ 0) (sym (start-run less o v₀))
      (record { bits = refl; keeps_m = refl; bit_y = hy; count = sym (add-zero v₀.taken); mark = start-mark less v₀.y hx })

  all-rounds : (v : Word) → After less a number v₀ 0 v → After less a number v₀ n (ran_word (search_rounds less a n) o v)
  all-rounds v i = folded-rounds (λ i. acted_word i o) (λ k. search_round less (a + k)) n (After less a number v₀) round n v (omega arith) i

  -- Y takes the marks
  moved : (v : Word) → number < 2 ^ n → After less a number v₀ n v → Found less a n number v₀ (acted_word move_x o v)
  moved v small i =
      subst (Found less a n number v₀) (sym (move-run o v))
      (record {
        bits = i.bits;
        keeps_m = i.keeps_m;
        count = i.count;
        same_x = sym same;
        mark =
            subst₂ (λ (w y : ℕ). Mark (Compares less (digits_of (λ j. v₀.bits (a + j)) n) w) y)
            (digits_of-digit number n ∙ mod-eq_of_lt small) (sym same) i.mark;
      })
    where
      same : copied v.y v.x ≡ v.x
      same = copy i.bit_y (mark-bit i.mark)

  pub search-word : number < 2 ^ n → Bit v₀.x → Bit v₀.y → Found less a n number v₀ (ran_word (search_list less a n) o v₀)
  unfolding folded
  search-word small hx hy =
      subst (Found less a n number v₀) (sym (folded-append (λ i. acted_word i o) (search_rounds less a n) (move_x ∷ []) (acted_word (started less) o v₀)))
      (moved (ran_word (search_rounds less a n) o (acted_word (started less) o v₀)) small (all-rounds (acted_word (started less) o v₀) (start hx hy)))
