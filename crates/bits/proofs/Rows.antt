-- Laws of a table of numbers: the number that it gives and the first row that holds, both ways; a row by its number, and not by its position. Assumes nothing.
use mathlib.Core.Path.{◌≡◌, refl, ap, ap₂, ◌∙◌}
use mathlib.Core.Bool.{Bool, true, false, cond, not, ◌&&◌, ◌||◌, true≢false, false≢true}
use mathlib.Core.List.{List, [], ◌∷◌}
use mathlib.Core.Logic.{inl, inr}
use Prim.Native.Nat.{ℕ, ◌≤◌}
use native.Mathlib.Omega.{arith}
use lib.Dec.{eqb, leb}
use borrow.Author.Tests.{eq-eqb, eqb-false, leb-true, not-true}
use Rattle.bits.specs.Rows.{Row, number_of, NoRow, FirstRow}

-- ---- what is asked of the numbers of a table, as tests: a table that is written out passes them by `refl`

-- none of them is 0
abbrev pub numbered : List Row → Bool
numbered [] = true
numbered (r ∷ rows) = not (eqb r.number 0) && numbered rows

-- none of them is over m
abbrev pub up_to : ℕ → List Row → Bool
up_to m [] = true
up_to m (r ∷ rows) = leb r.number m && up_to m rows

pub and_left : (a b : Bool) → (a && b) ≡ true → a ≡ true
and_left true b e = refl
and_left false b e = absurd (false≢true e)

pub and_right : (a b : Bool) → (a && b) ≡ true → b ≡ true
and_right true b e = e
and_right false b e = absurd (false≢true e)

pub or_right : (a b : Bool) → b ≡ true → (a || b) ≡ true
or_right true b e = refl
or_right false b e = e

pub or-none : (a b : Bool) → (a || b) ≡ false → (a ≡ false) × (b ≡ false)
or-none true b e = absurd (true≢false e)
or-none false b e = (refl, e)

pub and_none : (a b : Bool) → (a && b) ≡ false → a ≡ true → b ≡ false
and_none true b e p = e
and_none false b e p = absurd (false≢true p)

-- one of two, whichever a test takes
pub taken : {A : Type 0} (P : A → Type 0) (x y : A) (b : Bool) → P x → P y → P (cond b x y)
taken P x y true p q = p
taken P x y false p q = q

-- ---- the number, and the rows

pub none_number : (rows : List Row) → NoRow rows → number_of rows ≡ 0
none_number [] t = refl
none_number (r ∷ rows) t = ap (λ (b : Bool). cond b r.number (number_of rows)) t.0 ∙ none_number rows t.1

pub number-none : (rows : List Row) → numbered rows ≡ true → number_of rows ≡ 0 → NoRow rows
number-none [] n e = tt
number-none (r ∷ rows) n e = go r.holds refl (number-none rows (and_right (not (eqb r.number 0)) _ n)) e
  where
    go : (b : Bool) → r.holds ≡ b → (number_of rows ≡ 0 → NoRow rows) → cond b r.number (number_of rows) ≡ 0 → (r.holds ≡ false) × NoRow rows
    go true h ih z = absurd (eqb-false r.number 0 (not-true (eqb r.number 0) (and_left _ (numbered rows) n)) z)
    go false h ih z = (h, ih z)

pub first-number : (rows : List Row) (n : ℕ) → FirstRow rows n → number_of rows ≡ n
first-number [] n f = absurd f
first-number (r ∷ rows) n (inl (h, e)) = ap (λ (b : Bool). cond b r.number (number_of rows)) h ∙ e
first-number (r ∷ rows) n (inr (h, f)) = ap (λ (b : Bool). cond b r.number (number_of rows)) h ∙ first-number rows n f

pub number-first : (rows : List Row) (n : ℕ) → (n ≡ 0 → ⊥) → number_of rows ≡ n → FirstRow rows n
number-first [] n u e = absurd (u (omega arith))
number-first (r ∷ rows) n u e = go r.holds refl (number-first rows n u) e
  where
    go : (b : Bool) → r.holds ≡ b → (number_of rows ≡ n → FirstRow rows n) → cond b r.number (number_of rows) ≡ n → FirstRow (r ∷ rows) n
    go true h ih z = inl (h, z)
    go false h ih z = inr (h, ih z)

-- ---- a row by its number

-- whether the row of number n holds
abbrev pub row_at : List Row → ℕ → Bool
row_at [] n = false
row_at (r ∷ rows) n = cond (eqb r.number n) r.holds (row_at rows n)

pub row-off : (rows : List Row) → NoRow rows → (n : ℕ) → row_at rows n ≡ false
row-off [] t n = refl
row-off (r ∷ rows) t n = taken (λ (b : Bool). b ≡ false) r.holds (row_at rows n) (eqb r.number n) t.0 (row-off rows t.1 n)

-- ---- a number is one of the table's

-- n is the number of some row
abbrev pub among : ℕ → List Row → Bool
among n [] = false
among n (r ∷ rows) = eqb r.number n || among n rows

pub first-among : (rows : List Row) (n : ℕ) → FirstRow rows n → among n rows ≡ true
first-among [] n f = absurd f
first-among (r ∷ rows) n (inl (h, e)) = ap (λ (b : Bool). b || among n rows) (eq-eqb r.number n e)
first-among (r ∷ rows) n (inr (h, f)) = or_right (eqb r.number n) (among n rows) (first-among rows n f)

-- ---- a row as code makes it, t with x behind it, is a row of the table, u with y behind it

pub chosen : {A : Type 0} (v : A) {t u : Bool} {r x y : A} → r ≡ cond t v x → t ≡ u → x ≡ y → r ≡ cond u v y
chosen {A = A} v e p q = e ∙ ap₂ (λ (t : Bool) (x : A). cond t v x) p q

-- the same where code makes the very test
pub placed : (number : ℕ) (t : Bool) {r x y : ℕ} → r ≡ cond t number x → x ≡ y → r ≡ cond t number y
placed number t e q = e ∙ ap (λ (x : ℕ). cond t number x) q

-- ---- how high a number can be

pub number-high : (m : ℕ) (rows : List Row) → up_to m rows ≡ true → number_of rows ≤ m
number-high m [] t = omega arith
number-high m (r ∷ rows) t =
    taken (λ (n : ℕ). n ≤ m) r.number (number_of rows) r.holds (leb-true r.number m (and_left _ (up_to m rows) t))
    (number-high m rows (and_right (leb r.number m) _ t))
