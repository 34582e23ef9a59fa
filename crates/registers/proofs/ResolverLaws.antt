-- The smallest responder and the count of responders, byte by byte; what a resolve delivers. Assumes nothing.
use mathlib.Core.Path.{◌≡◌, refl, sym, ap, ap₂, ◌∙◌}
use mathlib.Core.Bool.{Bool, true, false, cond}
use mathlib.Core.List.{List, [], ◌∷◌, ◌++◌, replicate}
use mathlib.Core.Logic.{◌≢◌}
use Prim.Native.Nat.{ℕ, ◌+◌, ◌*◌, ◌/◌, ◌%◌, ◌^◌, ◌<◌, ◌≤◌}
use native.Mathlib.Omega.{arith}
use mir.Val.{bool_byte}
use lib.Dec.{ltb}
use lib.Count.{count_trailing_zeros, ones}
use lib.ListN.{get_or}
use borrow.Author.Tests.{eqb-true, eq-eqb, ne_eqb, lt-ltb, ltb-false}
use borrow.Rule.Slice.PartMut.{put_mid}
use Rattle.std.specs.Prelude.{Option, Some, None}
use Rattle.std.specs.Option.{is_some, unwrap_or}
use Rattle.std.specs.Int.{w16, to_le_bytes}
use Rattle.bits.specs.Bits.{bit_of, two}
use Rattle.bits.specs.Search.{count, is_one, Numbered}
use Rattle.bits.proofs.Counts.{count-block, skip_block, hit-block, trailing_lt}
use Rattle.bits.proofs.Items.{bit_of-at}
use Rattle.bits.proofs.Search.{NoneBelow, first-le, found, found_none, count-le, count_none, count-numbers, numbered-once}
use Rattle.registers.specs.Resolver.{smallest, responder_count, activity, resolved}

-- ---- the smallest, by bytes

-- no line of the bytes before byte i is 1
abbrev pub NoneTo : List ℕ → ℕ → Type 0
NoneTo y i = NoneBelow (is_one (bit_of y)) (8 * i)

-- the smallest, if a line is 1
abbrev pub if_line : ℕ → Option ℕ
if_line s = cond (ltb s 256) (Some s) None

line-if : (s : ℕ) → s < 256 → Some s ≡ if_line s
line-if s h = sym (ap (λ (t : Bool). cond t (Some s) None) (lt-ltb s 256 h))

module _ (y : List ℕ) (i : ℕ) (bound : get_or y i 0 < 2 ^ 8) (before : NoneTo y i) where
  -- a byte that is 0 is passed
  pub skip-byte : get_or y i 0 ≡ 0 → NoneTo y (i + 1)
  skip-byte e k h = skip_block (bit_of y) (8 * i) 8 (get_or y i 0) bound (bit_of-at y i) before e k (omega arith)

  -- one that is not has the smallest
  pub hit-byte : i < 32 → 0 < get_or y i 0 → 8 * i + count_trailing_zeros 8 (get_or y i 0) ≡ smallest (bit_of y)
  unfolding smallest
  hit-byte h p = hit-block (bit_of y) (8 * i) 8 (get_or y i 0) bound (bit_of-at y i) before p 256 (omega arith)

  pub hit-found : (k : ℕ) → k ≡ count_trailing_zeros 8 (get_or y i 0) → i < 32 → 0 < get_or y i 0 → Some (8 * i + k) ≡ if_line (smallest (bit_of y))
  hit-found k e h p =
      let small : k < 8 = omega (arith, e, trailing_lt 8 (get_or y i 0) p bound) in
      line-if (8 * i + k) (omega arith) ∙ ap if_line (ap (λ (j : ℕ). 8 * i + j) e ∙ hit-byte h p)

-- where all 32 were passed there is none
pub all-passed : (y : List ℕ) (i : ℕ) → i ≡ 32 → NoneTo y i → 256 ≡ smallest (bit_of y)
unfolding smallest
all-passed y i e before = found_none (is_one (bit_of y)) 256 (λ k h. before k (omega arith))

-- so the search finds none
pub hit-none : (y : List ℕ) (i : ℕ) → i ≡ 32 → NoneTo y i → None ≡ if_line (smallest (bit_of y))
hit-none y i e before = ap if_line (all-passed y i e before)

-- ---- the count, by bytes

-- how many lines of the bytes before byte i are 1
abbrev pub count_to : List ℕ → ℕ → ℕ
count_to y i = count (is_one (bit_of y)) (8 * i)

-- each byte adds its ones
pub count-byte : (y : List ℕ) (i : ℕ) → get_or y i 0 < 2 ^ 8 → count_to y i + ones (get_or y i 0) ≡ count_to y (i + 1)
count-byte y i bound =
    let next : 8 * i + 8 ≡ 8 * (i + 1) = omega arith in
    sym (count-block (bit_of y) (8 * i) 8 (get_or y i 0) bound (bit_of-at y i)) ∙ ap (count (is_one (bit_of y))) next

-- and that is the count of all 32
pub all-counted : (y : List ℕ) (i n : ℕ) → i ≡ 32 → n ≡ count_to y i → n ≡ responder_count (bit_of y)
unfolding responder_count
all-counted y i n e c = c ∙ ap (count_to y) e

-- ---- what a resolve delivers

-- the count is the number of lines with a 1
pub responders-numbered : (y : ℕ → ℕ) → Numbered (λ k. y k ≡ 1) 256 (responder_count y)
unfolding responder_count
responders-numbered y = count-numbers (λ k. y k ≡ 1) (is_one y) (λ k. eqb-true (y k) 1) (λ k. eq-eqb (y k) 1) 256

-- and no other number is
pub responders-once : (y : ℕ → ℕ) (c : ℕ) → Numbered (λ k. y k ≡ 1) 256 c → responder_count y ≡ c
responders-once y c m = numbered-once (λ k. y k ≡ 1) 256 (responder_count y) c (responders-numbered y) m

pub responders-le : (y : ℕ → ℕ) → responder_count y ≤ 256
unfolding responder_count
responders-le y = count-le (is_one y) 256

-- the item of the smallest responder s and the count c
abbrev item_of : ℕ → ℕ → List ℕ
item_of s c = activity s ∷ (two s ++ two c ++ replicate 27 0)

-- the activity, and the number given for the smallest
pub activity-if : (s : ℕ) → bool_byte (is_some (if_line s)) ≡ activity s
activity-if s = elim (ltb s 256) as (λ t. bool_byte (is_some (cond t (Some s) None)) ≡ cond t 1 0) [ true ↦ refl | false ↦ refl ]

pub smallest-if : (s : ℕ) → s ≤ 256 → unwrap_or (if_line s) 256 ≡ s
smallest-if s h = go (ltb s 256) refl
  where
    go : (t : Bool) → ltb s 256 ≡ t → unwrap_or (cond t (Some s) None) 256 ≡ s
    go true e = refl
    go false e = omega (arith, ltb-false s 256 e)

pub smallest-le : (y : ℕ → ℕ) → smallest y ≤ 256
unfolding smallest
smallest-le y = omega (arith, first-le (is_one y) 0 256)

-- a number below 65,536 as two bytes
pub two-bytes : (n : ℕ) → n < 65536 → to_le_bytes w16 n ≡ two n
two-bytes n h = ap₂ (λ (a b : ℕ). a ∷ b ∷ []) (omega arith) (omega arith)

-- the item byte by byte
pub resolved-is : (y : ℕ → ℕ) (s c a low high low' high' : ℕ) → s ≡ smallest y → c ≡ responder_count y
    → a ≡ activity s → low ≡ s % 256 → high ≡ s / 256 → low' ≡ c % 256 → high' ≡ c / 256
    → a ∷ low ∷ high ∷ low' ∷ high' ∷ replicate 27 0 ≡ resolved y
unfolding resolved
resolved-is y s c a low high low' high' es ec ea el eh el' eh' =
    ap₂ (λ (x z : ℕ). x ∷ z ∷ high ∷ low' ∷ high' ∷ replicate 27 0) ea el
    ∙ ap₂ (λ (x z : ℕ). activity s ∷ s % 256 ∷ x ∷ z ∷ high' ∷ replicate 27 0) eh el'
    ∙ ap (λ (x : ℕ). activity s ∷ s % 256 ∷ s / 256 ∷ c % 256 ∷ x ∷ replicate 27 0) eh'
    ∙ ap₂ item_of es ec

-- as code puts it together: the activity, and two bytes each of the smallest and of the count
pub resolved-put : (y : ℕ → ℕ) (a : ℕ) (s c : List ℕ) → a ≡ activity (smallest y) → s ≡ two (smallest y) → c ≡ two (responder_count y)
    → put_mid 3 2 (put_mid 1 2 (a ∷ replicate 31 0) s) c ≡ resolved y
unfolding resolved
resolved-put y a s c ea es ec =
    ap (λ (z : ℕ). put_mid 3 2 (put_mid 1 2 (z ∷ replicate 31 0) s) c) ea
    ∙ ap₂ (λ (p q : List ℕ). put_mid 3 2 (put_mid 1 2 (activity (smallest y) ∷ replicate 31 0) p) q) es ec

pub resolved-first : (y : ℕ → ℕ) (k : ℕ) → k < 256 → y k ≡ 1 → ((j : ℕ) → j < k → y j ≢ 1)
    → resolved y ≡ 1 ∷ k ∷ 0 ∷ responder_count y % 256 ∷ responder_count y / 256 ∷ replicate 27 0
unfolding resolved smallest
resolved-first y k h one before =
    let e : k ≡ smallest y = found (is_one y) 256 k h (λ j q. ne_eqb (y j) 1 (before j q)) (eq-eqb (y k) 1 one) in
    ap (λ (s : ℕ). item_of s (responder_count y)) (sym e)
    ∙ ap₂ (λ (t : Bool) (x : ℕ). cond t 1 0 ∷ (x ∷ k / 256 ∷ two (responder_count y) ++ replicate 27 0)) (lt-ltb k 256 h) (omega arith)
    ∙ ap (λ (x : ℕ). 1 ∷ k ∷ x ∷ (two (responder_count y) ++ replicate 27 0)) (omega arith)

pub resolved-none : (y : ℕ → ℕ) → ((k : ℕ) → k < 256 → y k ≢ 1) → resolved y ≡ 0 ∷ 0 ∷ 1 ∷ 0 ∷ 0 ∷ replicate 27 0
unfolding resolved smallest responder_count
resolved-none y none =
    let before : NoneBelow (is_one y) 256 = λ j q. ne_eqb (y j) 1 (none j q) in
    ap₂ item_of (sym (found_none (is_one y) 256 before)) (count_none (is_one y) 256 before)
