-- Under a limit no store of a text's list reaches over it. Assumes nothing.
use mathlib.Core.Path.{◌≡◌, refl, sym, ap, ap₂, subst, ◌∙◌}
use mathlib.Core.Bool.{Bool, true, false, cond, ◌&&◌}
use mathlib.Core.List.{List, [], ◌∷◌, ◌++◌, append_assoc, append-nil}
use Prim.Native.Nat.{ℕ, zero, suc, ◌+◌, ◌-◌, ◌*◌, ◌<◌, ◌≤◌}
use native.Mathlib.Decide.{dec_le}
use native.Mathlib.Nat.{not-suc-le-zero}
use native.Mathlib.Omega.{arith}
use lib.Dec.{eqb}
use lib.ListN.{length, get_or, length-append, get_or-append}
use lib.Seq.{get_or-append-add}
use Rattle.bits.proofs.Rows.{taken}
use Rattle.registers.specs.declared.Modes.{Modes}
use Rattle.registers.specs.Modes.{none_set}
use Rattle.judge.specs.declared.Instruction.{Instruction}
use Rattle.judge.specs.Instructions.{instruction_at, stores}
use Rattle.judge.specs.Modes.{modes_by, modes_after, mode_of}
use Rattle.judge.specs.Judge.{fault_of}
use Rattle.builders.specs.Lists.{instruction, bytes_of, encoded, Each, none, more, store_at}
use Rattle.builders.specs.Sums.{sum_byte, difference_byte, bit_round, bit_rounds, sum_list, difference_list}
use Rattle.builders.specs.Searches.{started, decided, search_round, search_list, or_flipped, greatest_round, greatest_list}
use Rattle.builders.proofs.Folds.{each_append, each-rounds}
use Rattle.reach.specs.Reach.{reach_of, reach_by, reach_at}
use Rattle.reach.proofs.CountLaws.{reach-le}

-- ---- one instruction behind a list

module _ (list b : List ℕ) where
  front : (x : ℕ) → x < length list → get_or (list ++ b) x 0 ≡ get_or list x 0
  front x h = get_or-append list b 0 x h

  behind : (x t : ℕ) → x ≡ length list + t → get_or (list ++ b) x 0 ≡ get_or b t 0
  behind x t e = ap (λ (n : ℕ). get_or (list ++ b) n 0) e ∙ get_or-append-add list b t 0

  instruction-front : (j : ℕ) → 8 * j + 8 ≤ length list → instruction_at (list ++ b) j ≡ instruction_at list j
  unfolding instruction_at
  instruction-front j h =
      λ t. instruction (front (8 * j) (omega arith) t) (front (8 * j + 1) (omega arith) t) (front (8 * j + 2) (omega arith) t) (front (8 * j + 3) (omega arith) t)
      (front (8 * j + 4) (omega arith) t) (front (8 * j + 5) (omega arith) t) (front (8 * j + 6) (omega arith) t) (front (8 * j + 7) (omega arith) t)

  modes-front : (j : ℕ) → 8 * j ≤ length list → modes_after (list ++ b) none_set j ≡ modes_after list none_set j
  unfolding modes_after
  modes-front zero h = refl
  modes-front (suc j) h = ap₂ modes_by (instruction-front j (omega arith)) (modes-front j (omega arith))

instruction-last : (list : List ℕ) (i : Instruction) (k : ℕ) → length list ≡ 8 * k → instruction_at (list ++ bytes_of i) k ≡ i
unfolding instruction_at
instruction-last list i k e =
    let b = bytes_of i in
    λ t. instruction (behind list b (8 * k) 0 (omega arith) t) (behind list b (8 * k + 1) 1 (omega arith) t) (behind list b (8 * k + 2) 2 (omega arith) t) (behind list b (8 * k + 3) 3 (omega arith) t)
    (behind list b (8 * k + 4) 4 (omega arith) t) (behind list b (8 * k + 5) 5 (omega arith) t) (behind list b (8 * k + 6) 6 (omega arith) t) (behind list b (8 * k + 7) 7 (omega arith) t)

-- ---- lists that reach at most n words

-- The list has `count` instructions, none of them reaches more than n words, and they leave the mode registers m.
pub record Within (n : ℕ) (list : List ℕ) (m : Modes) : Type 0 where
  pub count : ℕ
  pub size : length list ≡ 8 * count
  pub modes : modes_after list none_set count ≡ m
  pub each : (j : ℕ) → j < count → reach_at none_set list j ≤ n

pub within_none : (n : ℕ) → Within n [] none_set
unfolding modes_after
within_none n = record { count = 0; size = refl; modes = refl; each = λ j h. absurd (not-suc-le-zero h) }

pub within-one : (n : ℕ) (list : List ℕ) (m : Modes) (i : Instruction) → Within n list m → reach_by m i ≤ n → Within n (list ++ bytes_of i) (modes_by i m)
unfolding modes_after
within-one n list m i w h = record {
  count = suc w.count;
  size = omega (arith, w.size, length-append list (bytes_of i));
  modes = ap₂ modes_by last before;
  each = λ j l. go j l (dec_le (j + 1) w.count);
}
  where
    last : instruction_at (list ++ bytes_of i) w.count ≡ i
    last = instruction-last list i w.count w.size

    before : modes_after (list ++ bytes_of i) none_set w.count ≡ m
    before = modes-front list (bytes_of i) w.count (omega (arith, w.size)) ∙ w.modes

    go : (j : ℕ) → j < suc w.count → Dec (j + 1 ≤ w.count) → reach_at none_set (list ++ bytes_of i) j ≤ n
    go j l (yes q) =
        let e = ap₂ reach_by (modes-front list (bytes_of i) j (omega (arith, w.size))) (instruction-front list (bytes_of i) j (omega (arith, w.size))) in
        omega (arith, e, w.each j (omega arith))
    go j l (no q) =
        let k : j ≡ w.count = omega arith in
        let e = ap (reach_at none_set (list ++ bytes_of i)) k ∙ ap₂ reach_by before last in
        omega (arith, e, h)

-- An instruction that sets no mode register and reaches at most n words, whatever the registers are.
pub record Mild (n : ℕ) (i : Instruction) : Type 0 where
  pub still : (m : Modes) → modes_by i m ≡ m
  pub low : (m : Modes) → reach_by m i ≤ n

pub within_more : (n : ℕ) (list : List ℕ) (m : Modes) (l : List Instruction) → Within n list m → Each (Mild n) l → Within n (list ++ encoded l) m
unfolding encoded
within_more n list m [] w e = subst (λ (x : List ℕ). Within n x m) (sym (append-nil list)) w
within_more n list m (i ∷ l) w (more p e) =
    subst (λ (x : List ℕ). Within n x m) (append_assoc list (bytes_of i) (encoded l))
    (within_more n (list ++ bytes_of i) m l (subst (Within n (list ++ bytes_of i)) (p.still m) (within-one n list m i w (p.low m))) e)

-- ---- the builders' lists

-- logic stores nothing
calm : (n : ℕ) (i : Instruction) → i.kind ≡ 0 → Mild n i
unfolding reach_by
calm n i e = record {
  still = λ m. simp e;
  low = λ m. let z : reach_by m i ≡ 0 = simp e in omega (arith, z);
}

-- and a store reaches at most all words
full : (n s g : ℕ) → 256 ≤ n → Mild n (store_at s g)
unfolding reach_by
full n s g h = record {
  still = λ m. refl;
  low = λ m. taken (λ (x : ℕ). x ≤ n) (reach_of (mode_of m (store_at s g))) 0 (stores (store_at s g) && eqb (fault_of m (store_at s g)).number 0) (omega (arith, reach-le (mode_of m (store_at s g)))) (omega arith);
}

bits-mild : (n t a b s k : ℕ) → 256 ≤ n → Each (Mild n) (bit_rounds t a b s k)
bits-mild n t a b s k h =
    each-rounds (λ j. bit_round t (a + j) (b + j) (s + j)) k (λ j l.
    more (calm n _ refl) (more (calm n _ refl) (more (full n 3 (s + j) h) (more (calm n _ refl) (more (calm n _ refl) none)))))

pub sum-mild : (n : ℕ) (d : Bool) (a b s k : ℕ) → 256 ≤ n → Each (Mild n) (cond d (difference_list a b s k) (sum_list a b s k))
sum-mild n true a b s k h = more (calm n _ refl) (more (calm n _ refl) (bits-mild n difference_byte a b s k h))
sum-mild n false a b s k h = more (calm n _ refl) (bits-mild n sum_byte a b s k h)

decided-mild : (n : ℕ) (l : Bool) (g : ℕ) → Mild n (decided l g)
decided-mild n true g = calm n _ refl
decided-mild n false g = calm n _ refl

started-mild : (n : ℕ) (l : Bool) → Mild n (started l)
started-mild n true = calm n _ refl
started-mild n false = calm n _ refl

pub search-mild : (n : ℕ) (l : Bool) (a k : ℕ) → Each (Mild n) (search_list l a k)
search-mild n l a k =
    more (started-mild n l)
    (each_append (each-rounds (λ j. search_round l (a + j)) k (λ j h. more (calm n _ refl) (more (calm n _ refl) (more (decided-mild n l (a + j)) none))))
    (more (calm n _ refl) none))

pub greatest-mild : (n a k : ℕ) → Each (Mild n) (greatest_list a k)
greatest-mild n a k =
    more (calm n _ refl)
    (each-rounds (λ j. greatest_round (a + (k - suc j))) k (λ j h.
    more (calm n _ refl) (each_append (each-rounds or_flipped 8 (λ e q. more (calm n _ refl) none)) (more (calm n _ refl) (more (calm n _ refl) none)))))
