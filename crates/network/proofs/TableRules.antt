-- The rules of the two tables, each by one computed test. Assumes nothing.
use mathlib.Core.Path.{◌≡◌, refl, sym, ap, ap₂, subst, ◌∙◌}
use mathlib.Core.Bool.{Bool, true, false, cond, not, ◌&&◌, true≢false, false≢true}
use mathlib.Core.Logic.{◌⊎◌, ◌↔◌, inl, inr}
use mathlib.Core.List.{List, []}
use Prim.Native.Nat.{ℕ, suc, ◌+◌, ◌*◌, ◌/◌, ◌%◌, ◌<◌, ◌≤◌, suc-le-suc}
use native.Mathlib.Omega.{arith}
use lib.Dec.{T, eqb, eqb→eq, leb, ltb, ltb→lt}
use lib.ListN.{length, get_or}
use borrow.Author.Tests.{ne_eqb, eqb-true, lt-ltb, le-ltb, lt-leb, ltb-true, ltb-false, leb-false}
use Rattle.std.specs.Prelude.{Some, None}
use Rattle.std.specs.Option.{is_some}
use Rattle.std.proofs.lemmas.List.Recursion.{is_position_or_len}
use Rattle.std.specs.List.{position_or_len}
use Rattle.bits.specs.Bits.{listed}
use Rattle.bits.specs.Rows.{number_of, NoRow}
use Rattle.bits.specs.Search.{index_of}
use Rattle.bits.proofs.Find.{found_at}
use Rattle.bits.proofs.Tests.{all, all-at}
use Rattle.network.specs.Shifts.{codes_to, codes, p_of, m_of, shift_of, permitted, found, signal, row, rows, signals, place}
use Rattle.network.specs.Unlisted.{wide_group, not_below, code_rows}
use Rattle.network.specs.Steps.{SignalsOf}

-- ---- the signals

signal-right : ℕ → ℕ → ℕ → Bool
signal-right s j k = eqb (get_or (get_or signals s []) (place j k) 0) (signal (p_of s) (m_of s) j k)

signals-tested : T (all 37 λ s. all 8 λ j. all (suc j) λ k. signal-right s j k)
unfolding signal-right signals rows row signal codes codes_to listed
signals-tested = tt

-- entry k of level j of shift s is the signal that the rule gives for the shift of code s
pub signal-rule : (s j k : ℕ) → s < 37 → j < 8 → k ≤ j → get_or (get_or signals s []) (place j k) 0 ≡ signal (p_of s) (m_of s) j k
unfolding signal-right
signal-rule s j k hs hj hk =
    eqb→eq _ _ (all-at (suc j) (λ k. signal-right s j k) (all-at 8 (λ j. all (suc j) λ k. signal-right s j k) (all-at 37 (λ s. all 8 λ j. all (suc j) λ k. signal-right s j k) signals-tested s hs) j hj) k (suc-le-suc hk))

-- and so it is in a list that has the signals of one shift
pub signal-of : (s : ℕ) (l : List ℕ) (j k : ℕ) → SignalsOf s l → j < 8 → k ≤ j → get_or l (place j k) 0 ≡ signal (p_of s) (m_of s) j k
signal-of s l j k w hj hk = ap (λ (x : List ℕ). get_or x (place j k) 0) w.are ∙ signal-rule s j k w.within hj hk

-- ---- the codes

pub codes-length : length codes ≡ 37
unfolding codes codes_to listed
codes-length = refl

-- the entry that a permitted code is found at is the code
pub entry_of : (c : ℕ) → permitted c ≡ true → get_or codes (shift_of c) 0 ≡ c
unfolding permitted
entry_of c t = let h : shift_of c < length codes = omega (arith, codes-length, ltb-true (shift_of c) 37 t) in found_at c codes h

-- ---- the codes

-- neither 16 nor 17
abbrev by-rule : ℕ → Bool
by-rule c = not (wide_group c) && not (not_below c)

abbrev same : Bool → Bool → Bool
same true b = b
same false b = not b

same-is : (a b : Bool) → T (same a b) → a ≡ b
same-is true true t = refl
same-is true false t = absurd t
same-is false true t = absurd t
same-is false false t = refl

-- a code whose p is at most 8 is below 144
codes-tested : T (all 144 λ c. same (permitted c) (by-rule c))
unfolding permitted index_of codes codes_to listed
codes-tested = tt

entries-tested : T (all 37 λ s. ltb (get_or codes s 0) 144)
unfolding codes codes_to listed
entries-tested = tt

permitted-small : (c : ℕ) → permitted c ≡ true → c < 144
unfolding permitted
permitted-small c t =
    let h = all-at 37 (λ s. ltb (get_or codes s 0) 144) entries-tested (shift_of c) (ltb-true (shift_of c) 37 t) in
    subst (λ (x : ℕ). x < 144) (entry_of c t) (ltb→lt (get_or codes (shift_of c) 0) 144 h)

-- "A byte 6 that is neither 16 nor 17 is one of the 37", and the other way
pub listed-exactly : (c : ℕ) → permitted c ≡ (not (wide_group c) && not (not_below c))
listed-exactly c = go (ltb c 144) refl
  where
    large : (b : Bool) → permitted c ≡ b → 144 ≤ c → permitted c ≡ false
    large true e h = absurd (omega (arith, permitted-small c e))
    large false e h = e

    go : (b : Bool) → ltb c 144 ≡ b → permitted c ≡ by-rule c
    go true e = same-is (permitted c) (by-rule c) (all-at 144 (λ c. same (permitted c) (by-rule c)) codes-tested c (ltb-true c 144 e))
    go false e =
        let h = ltb-false c 144 e in
        large (permitted c) refl h ∙ sym (ap (λ (b : Bool). not b && not (not_below c)) (lt-ltb 8 (c / 16) (omega arith)))

-- the same, as facts
pub listed-none : (c : ℕ) → NoRow (code_rows c) ↔ (permitted c ≡ true)
listed-none c = go (wide_group c) refl (not_below c) refl (listed-exactly c)
  where
    go : (x : Bool) → wide_group c ≡ x → (y : Bool) → not_below c ≡ y → permitted c ≡ (not x && not y) → NoRow (code_rows c) ↔ (permitted c ≡ true)
    go true ex y ey e = (λ n. absurd (true≢false (sym ex ∙ n.0)), λ t. absurd (false≢true (sym e ∙ t)))
    go false ex true ey e = (λ n. absurd (true≢false (sym ey ∙ n.1.0)), λ t. absurd (false≢true (sym e ∙ t)))
    go false ex false ey e = (λ n. e, λ t. (ex, (ey, tt)))

pub none-permitted : permitted 0 ≡ true
none-permitted = listed-exactly 0

-- a pair that stands has neither number
pair-within : (p m : ℕ) → m < p → p ≤ 8 → wide_group (16 * p + m) ≡ false
pair-within p m h k = le-ltb 8 ((16 * p + m) / 16) (omega arith)

pair-below : (p m : ℕ) → m < p → p ≤ 8 → not_below (16 * p + m) ≡ false
pair-below p m h k =
    ap₂ (λ (x y : Bool). not x && y) (ne_eqb (16 * p + m) 0 (λ e. omega arith)) (lt-leb ((16 * p + m) / 16) ((16 * p + m) % 16) (omega arith))

pub pair-permitted : (p m : ℕ) → m < p → p ≤ 8 → permitted (16 * p + m) ≡ true
pair-permitted p m h k = listed-exactly (16 * p + m) ∙ ap₂ (λ (x y : Bool). not x && not y) (pair-within p m h k) (pair-below p m h k)

pub permitted-pair : (c : ℕ) → permitted c ≡ true → (c ≡ 0) ⊎ ((c % 16 < c / 16) × (c / 16 ≤ 8))
permitted-pair c e = go (eqb c 0) refl ((listed-none c).1 e)
  where
    go : (b : Bool) → eqb c 0 ≡ b → NoRow (code_rows c) → (c ≡ 0) ⊎ ((c % 16 < c / 16) × (c / 16 ≤ 8))
    go true z n = inl (eqb-true c 0 z)
    go false z n = inr (leb-false (c / 16) (c % 16) (sym (ap (λ (b : Bool). not b && leb (c / 16) (c % 16)) z) ∙ n.1.0), ltb-false 8 (c / 16) n.0)

-- ---- the table of one that is not found

pub unlisted-wide : (c : ℕ) → 8 < c / 16 → 16 ≡ number_of (code_rows c)
unlisted-wide c h = sym (ap (λ (x : Bool). cond x 16 (cond (not_below c) 17 0)) (lt-ltb 8 (c / 16) h))

pub unlisted-below : (c : ℕ) → permitted c ≡ false → c / 16 ≤ 8 → 17 ≡ number_of (code_rows c)
unlisted-below c e h = go (not_below c) refl
  where
    narrow : wide_group c ≡ false
    narrow = le-ltb 8 (c / 16) h

    go : (x : Bool) → not_below c ≡ x → 17 ≡ number_of (code_rows c)
    go true q = sym (ap₂ (λ (x y : Bool). cond x 16 (cond y 17 0)) narrow q)
    go false q = absurd (false≢true (sym e ∙ listed-exactly c ∙ ap₂ (λ (x y : Bool). not x && not y) narrow q))

-- what the laws of a pass ask of a code
pub record Shift (c : ℕ) : Type 0 where
  pub below : c % 16 ≤ c / 16
  pub within : c / 16 ≤ 8

pub shift : (c : ℕ) → permitted c ≡ true → Shift c
shift c e = go (permitted-pair c e)
  where
    go : (c ≡ 0) ⊎ ((c % 16 < c / 16) × (c / 16 ≤ 8)) → Shift c
    go (inl z) = record { below = omega arith; within = omega arith }
    go (inr q) = record { below = omega (arith, q.0); within = q.1 }

-- ---- where a code is found, in the library's words

index-position : (x : ℕ) (l : List ℕ) → index_of x l ≡ position_or_len (λ y. eqb y x) l
unfolding index_of
index-position x l =
    is_position_or_len (index_of x) (λ y. eqb y x) refl (λ y ys. ap (λ (n : ℕ). cond (eqb y x) 0 n) (omega arith)) l

pub found-is : (c : ℕ) → found c ≡ cond (permitted c) (Some (shift_of c)) None
unfolding permitted
found-is c = ap₂ (λ (k n : ℕ). cond (ltb k n) (Some k) None) (sym (index-position c codes)) codes-length

pub found-some : (c s : ℕ) → found c ≡ Some s → (permitted c ≡ true) × (s ≡ shift_of c) × (s < 37)
unfolding permitted
found-some c s e = go (permitted c) refl (sym (found-is c) ∙ e)
  where
    go : (b : Bool) → permitted c ≡ b → cond b (Some (shift_of c)) None ≡ Some s → (permitted c ≡ true) × (s ≡ shift_of c) × (s < 37)
    go true t e = let same : s ≡ shift_of c = cc in (t, same, omega (arith, ltb-true (shift_of c) 37 t))
    go false t e = cc

pub found_none : (c : ℕ) → found c ≡ None → permitted c ≡ false
found_none c e = go (permitted c) refl (sym (found-is c) ∙ e)
  where
    go : (b : Bool) → permitted c ≡ b → cond b (Some (shift_of c)) None ≡ None → permitted c ≡ false
    go true t e = cc
    go false t e = t

pub found-test : (c : ℕ) → is_some (found c) ≡ permitted c
found-test c = ap is_some (found-is c) ∙ elim (permitted c) as (λ b. is_some (cond b (Some (shift_of c)) None) ≡ b) [ true ↦ refl | false ↦ refl ]
