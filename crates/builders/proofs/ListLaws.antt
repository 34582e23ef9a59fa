-- Laws of lists of instructions and of items as bytes: their length, one behind the other, and what is read back. Assumes nothing.
use mathlib.Core.Path.{◌≡◌, refl, sym, ap, ap₂, ◌∙◌}
use mathlib.Core.Bool.{Bool}
use mathlib.Core.List.{List, [], ◌∷◌, ◌++◌, append_assoc, append-nil}
use Prim.Native.Nat.{ℕ, zero, suc, ◌+◌, ◌-◌, ◌*◌, ◌<◌}
use native.Mathlib.Nat.{add-zero, add-suc, one-mul}
use native.Mathlib.Decide.{ℕ_discrete}
use native.Mathlib.Omega.{arith}
use lib.ListN.{length, length-append, get_or, take, drop}
use lib.Seq.{get_or-append-add, take_at, drop_at}
use Rattle.bits.specs.Bits.{digit, byte_of, item}
use Rattle.bits.proofs.Items.{length-listed}
use Rattle.judge.specs.declared.Instruction.{Instruction}
use Rattle.judge.specs.Instructions.{instruction_at}
use Rattle.builders.specs.Lists.{instruction, bytes_of, encoded, rounds, decoded, items_of}
use Rattle.builders.specs.Searches.{move_x, search_round, search_rounds, search_list, search_length, number_items, items_length}
use Rattle.builders.specs.Searches.{or_flipped, without, unmark, greatest_round, greatest_rounds, greatest_list, greatest_length}
use Rattle.builders.specs.Sums.{clear, set_y, bit_round, bit_rounds, sum_byte, difference_byte, sum_list, difference_list, list_length}

pub length-encoded : (l : List Instruction) → length (encoded l) ≡ 8 * length l
unfolding encoded
length-encoded [] = refl
length-encoded (i ∷ l) = length-append (bytes_of i) (encoded l) ∙ omega (arith, length-encoded l)

pub encoded-append : (l r : List Instruction) → encoded (l ++ r) ≡ encoded l ++ encoded r
unfolding encoded
encoded-append [] r = refl
encoded-append (i ∷ l) r = ap (λ (z : List ℕ). bytes_of i ++ z) (encoded-append l r)

-- the first k rounds, and those behind them
pub rounds-apart : {A : Type 0} (g : ℕ → List A) (k n : ℕ) → rounds g (k + n) ≡ rounds g k ++ rounds (λ j. g (k + j)) n
unfolding rounds
rounds-apart g k zero = ap (rounds g) (add-zero k) ∙ sym (append-nil (rounds g k))
rounds-apart g k (suc n) =
    ap (rounds g) (add-suc k n)
    ∙ ap (λ (l : List _). l ++ g (k + n)) (rounds-apart g k n)
    ∙ append_assoc (rounds g k) (rounds (λ j. g (k + j)) n) (g (k + n))

-- ---- what is read back

skip : (i : Instruction) (e : List ℕ) (k j : ℕ) → get_or (bytes_of i ++ e) (8 * suc k + j) 0 ≡ get_or e (8 * k + j) 0
skip i e k j =
    let h : 8 * suc k + j ≡ 8 + (8 * k + j) = omega arith in
    ap (λ (z : ℕ). get_or (bytes_of i ++ e) z 0) h ∙ get_or-append-add (bytes_of i) e (8 * k + j) 0

skip₀ : (i : Instruction) (e : List ℕ) (k : ℕ) → get_or (bytes_of i ++ e) (8 * suc k) 0 ≡ get_or e (8 * k) 0
skip₀ i e k =
    let h : 8 * suc k ≡ 8 + 8 * k = omega arith in
    ap (λ (z : ℕ). get_or (bytes_of i ++ e) z 0) h ∙ get_or-append-add (bytes_of i) e (8 * k) 0

pub later : (i : Instruction) (e : List ℕ) (k : ℕ) → instruction_at (bytes_of i ++ e) (suc k) ≡ instruction_at e k
unfolding instruction_at
later i e k =
    λ t. instruction (skip₀ i e k t) (skip i e k 1 t) (skip i e k 2 t) (skip i e k 3 t) (skip i e k 4 t) (skip i e k 5 t) (skip i e k 6 t) (skip i e k 7 t)

decoded-more : (i : Instruction) (e : List ℕ) (n : ℕ) → decoded (bytes_of i ++ e) (suc n) ≡ i ∷ decoded e n
unfolding decoded instruction_at
decoded-more i e zero = refl
decoded-more i e (suc n) = ap₂ (λ (x : List Instruction) (y : Instruction). x ++ (y ∷ [])) (decoded-more i e n) (later i e n)

-- what was written as bytes is read back, whatever stands behind it
pub decoded-encoded : (l : List Instruction) (r : List ℕ) → decoded (encoded l ++ r) (length l) ≡ l
unfolding encoded decoded
decoded-encoded [] r = refl
decoded-encoded (i ∷ l) r = decoded-more i (encoded l ++ r) (length l) ∙ ap (λ (z : List Instruction). i ∷ z) (decoded-encoded l r)

-- ---- the lengths

-- every round has m elements
pub length-rounds : {A : Type 0} (g : ℕ → List A) (m n : ℕ) → ((k : ℕ) → length (g k) ≡ m) → length (rounds g n) ≡ m * n
unfolding rounds
length-rounds g m zero h = omega arith
length-rounds g m (suc n) h = length-append (rounds g n) (g n) ∙ omega (arith, length-rounds g m n h, h n)

pub length-bits : (t a b s n : ℕ) → length (bit_rounds t a b s n) ≡ 5 * n
length-bits t a b s n = length-rounds (λ k. bit_round t (a + k) (b + k) (s + k)) 5 n (λ k. refl)

-- behind what leads
pub fields-length : (lead : List Instruction) (t a b s n : ℕ) → length (encoded (lead ++ bit_rounds t a b s n)) ≡ list_length (length lead) n
fields-length lead t a b s n =
    length-encoded (lead ++ bit_rounds t a b s n) ∙ omega (arith, length-append lead (bit_rounds t a b s n), length-bits t a b s n)

-- 8(1+5n) bytes
pub sum-length : (a b s n : ℕ) → length (encoded (sum_list a b s n)) ≡ list_length 1 n
sum-length = fields-length (clear ∷ []) sum_byte

-- and 8(2+5n)
pub difference-length : (a b s n : ℕ) → length (encoded (difference_list a b s n)) ≡ list_length 2 n
difference-length = fields-length (clear ∷ set_y ∷ []) difference_byte

pub length-search-rounds : (less : Bool) (a n : ℕ) → length (search_rounds less a n) ≡ 3 * n
length-search-rounds less a n = length-rounds (λ k. search_round less (a + k)) 3 n (λ k. refl)

-- 8(2+3n), for equal and for less
pub search-length : (less : Bool) (a n : ℕ) → length (encoded (search_list less a n)) ≡ search_length n
search-length less a n =
    length-encoded (search_list less a n)
    ∙ omega (arith, length-append (search_rounds less a n) (move_x ∷ []), length-search-rounds less a n)

-- the first e of greatest's flips
pub length-flips : (e : ℕ) → length (rounds or_flipped e) ≡ e
length-flips e = length-rounds or_flipped 1 e (λ k. refl) ∙ one-mul e

-- the first k rounds of n
pub length-greatest-rounds : (a n k : ℕ) → length (greatest_rounds a n k) ≡ 11 * k
length-greatest-rounds a n k = length-rounds (λ k. greatest_round (a + (n - suc k))) 11 k (λ k. eleven (a + (n - suc k)))
  where
    eleven : (g : ℕ) → length (greatest_round g) ≡ 11
    eleven g = omega (arith, length-append (rounds or_flipped 8) (without g ∷ unmark ∷ []), length-flips 8)

-- 8(1+11n)
pub greatest-length : (a n : ℕ) → length (encoded (greatest_list a n)) ≡ greatest_length n
greatest-length a n = length-encoded (greatest_list a n) ∙ omega (arith, length-greatest-rounds a n n)

-- ---- items

pub length-items : (g : ℕ → ℕ → ℕ) (n : ℕ) → length (items_of g n) ≡ 32 * n
length-items g n = length-rounds (λ k. item (g k)) 32 n (λ k. length-listed (byte_of (g k)) 32)

pub number-length : (number n : ℕ) → length (number_items number n) ≡ items_length n
number-length number = length-items (λ k p. digit number k)

-- item k is read back, whatever stands behind the items
pub items_at : (g : ℕ → ℕ → ℕ) (n k : ℕ) (r : List ℕ) → k < n → take 32 (drop (32 * k) (items_of g n ++ r)) ≡ item (g k)
unfolding rounds
items_at g zero k r h = absurd (omega arith)
items_at g (suc n) k r h =
    ap (λ (l : List ℕ). take 32 (drop (32 * k) l)) (append_assoc (items_of g n) (item (g n)) r)
    ∙ go (ℕ_discrete k n) (items_at g n k (item (g n) ++ r))
  where
    rest : List ℕ
    rest = items_of g n ++ (item (g n) ++ r)

    go : Dec (k ≡ n) → (k < n → take 32 (drop (32 * k) rest) ≡ item (g k)) → take 32 (drop (32 * k) rest) ≡ item (g k)
    go (yes e) ih =
        ap (take 32) (drop_at (items_of g n) (item (g n) ++ r) (32 * k) (length-items g n ∙ ap (λ (z : ℕ). 32 * z) (sym e)))
        ∙ take_at (item (g n)) r 32 (length-listed (byte_of (g n)) 32)
        ∙ ap (λ (z : ℕ). item (g z)) (sym e)
    go (no u) ih = ih (omega arith)
