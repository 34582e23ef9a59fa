-- Laws of a table whose rows say which byte is wrong: what it gives and the first row and condition that hold, both ways; a condition by its number and byte. Assumes nothing.
use mathlib.Core.Path.{◌≡◌, refl, sym, ap, subst, ◌∙◌}
use mathlib.Core.Bool.{Bool, true, false, cond, not, ◌&&◌, ◌||◌}
use mathlib.Core.List.{List, [], ◌∷◌, ◌++◌}
use mathlib.Core.Logic.{◌⊎◌, inl, inr}
use Prim.Native.Nat.{ℕ, ◌≤◌}
use native.Mathlib.Omega.{arith}
use lib.Dec.{eqb, leb, ltb}
use borrow.Author.Tests.{eq-eqb, eqb-false, leb-true, ltb-true, not-true}
use Rattle.bits.specs.Rows.{Row, row, NoRow, FirstRow}
use Rattle.bits.proofs.Rows.{numbered, up_to, among, and_left, and_right, or_right, taken, row_at, row-off}
use Rattle.std.specs.Prelude.{Result, Ok, Err}
use Rattle.std.specs.Result.{IsErrAnd}
use Rattle.bits.specs.Refusals.{number_of_refusal}
use Rattle.bits.proofs.RefusalLaws.{number-never-zero}
use Rattle.judge.specs.declared.Fault.{Fault as Wrong}
use Rattle.judge.specs.Answers.{Fault, fault_given}
use Rattle.judge.specs.ByteRows.{ByteRow, fault_by, fault_before, fault_in, Rising, InOrder, NoByteRow, FirstByteRow}

-- ---- one row

module _ (n : ℕ) (behind : Fault) where
  -- none of its conditions holds
  none-by : (cs : List Row) → NoRow cs → fault_by n cs behind ≡ behind
  none-by [] t = refl
  none-by (c ∷ cs) t = ap (λ (h : Bool). cond h (record { number = n; byte = c.number }) (fault_by n cs behind)) t.0 ∙ none-by cs t.1

  -- the one about byte b is the first
  first_by : (cs : List Row) (b : ℕ) → FirstRow cs b → fault_by n cs behind ≡ record { number = n; byte = b }
  first_by [] b f = absurd f
  first_by (c ∷ cs) b (inl (h, e)) =
      ap (λ (t : Bool). cond t (record { number = n; byte = c.number }) (fault_by n cs behind)) h ∙ ap (λ (x : ℕ). record { number = n; byte = x }) e
  first_by (c ∷ cs) b (inr (h, f)) =
      ap (λ (t : Bool). cond t (record { number = n; byte = c.number }) (fault_by n cs behind)) h ∙ first_by cs b f

-- one of both is so
none-or-first-by : (cs : List Row) → NoRow cs ⊎ ((b : ℕ) × FirstRow cs b)
none-or-first-by [] = inl tt
none-or-first-by (c ∷ cs) = go c.holds refl (none-or-first-by cs)
  where
    go : (t : Bool) → c.holds ≡ t → NoRow cs ⊎ ((b : ℕ) × FirstRow cs b) → NoRow (c ∷ cs) ⊎ ((b : ℕ) × FirstRow (c ∷ cs) b)
    go true h rest = inr (c.number, inl (h, refl))
    go false h (inl t) = inl (h, t)
    go false h (inr (b, f)) = inr (b, inr (h, f))

-- ---- the table

pub none-fault : (rows : List ByteRow) → NoByteRow rows → fault_in rows ≡ record { number = 0; byte = 0 }
none-fault [] t = refl
none-fault (r ∷ rows) t = none-by r.number (fault_in rows) r.conditions t.0 ∙ none-fault rows t.1

pub first-fault : (rows : List ByteRow) (n b : ℕ) → FirstByteRow rows n b → fault_in rows ≡ record { number = n; byte = b }
first-fault [] n b f = absurd f
first-fault (r ∷ rows) n b (inl (e, f)) =
    first_by r.number (fault_in rows) r.conditions b f ∙ ap (λ (x : ℕ). record { number = x; byte = b }) e
first-fault (r ∷ rows) n b (inr (t, f)) = none-by r.number (fault_in rows) r.conditions t ∙ first-fault rows n b f

-- before what stands behind it a table that holds gives its own, and one that does not what is behind
pub none-before : (rows : List ByteRow) (behind : Fault) → NoByteRow rows → fault_before rows behind ≡ behind
none-before [] behind t = refl
none-before (r ∷ rows) behind t = none-by r.number (fault_before rows behind) r.conditions t.0 ∙ none-before rows behind t.1

pub first-before : (rows : List ByteRow) (behind : Fault) (n b : ℕ) → FirstByteRow rows n b → fault_before rows behind ≡ record { number = n; byte = b }
first-before [] behind n b f = absurd f
first-before (r ∷ rows) behind n b (inl (e, f)) =
    first_by r.number (fault_before rows behind) r.conditions b f ∙ ap (λ (x : ℕ). record { number = x; byte = b }) e
first-before (r ∷ rows) behind n b (inr (t, f)) = none-by r.number (fault_before rows behind) r.conditions t ∙ first-before rows behind n b f

-- no row holds, or one is the first
none-or-first : (rows : List ByteRow) → NoByteRow rows ⊎ ((n : ℕ) × (b : ℕ) × FirstByteRow rows n b)
none-or-first [] = inl tt
none-or-first (r ∷ rows) = go (none-or-first-by r.conditions) (none-or-first rows)
  where
    go : NoRow r.conditions ⊎ ((b : ℕ) × FirstRow r.conditions b) → NoByteRow rows ⊎ ((n : ℕ) × (b : ℕ) × FirstByteRow rows n b)
        → NoByteRow (r ∷ rows) ⊎ ((n : ℕ) × (b : ℕ) × FirstByteRow (r ∷ rows) n b)
    go (inr (b, f)) rest = inr (r.number, b, inl (refl, f))
    go (inl t) (inl u) = inl (t, u)
    go (inl t) (inr (n, b, f)) = inr (n, b, inr (t, f))

-- the table's numbers, as rows that do not hold: the tests `numbered` and `among` of them are those of a table of numbers, and one that is written out passes them by `refl`
abbrev pub heads : List ByteRow → List Row
heads [] = []
heads (r ∷ rows) = row r.number false ∷ heads rows

first-numbered : (rows : List ByteRow) (n b : ℕ) → numbered (heads rows) ≡ true → FirstByteRow rows n b → n ≡ 0 → ⊥
first-numbered [] n b t f = absurd f
first-numbered (r ∷ rows) n b t (inl (e, f)) =
    λ z. eqb-false r.number 0 (not-true (eqb r.number 0) (and_left _ (numbered (heads rows)) t)) (e ∙ z)
first-numbered (r ∷ rows) n b t (inr (u, f)) = first-numbered rows n b (and_right (not (eqb r.number 0)) _ t) f

pub fault-none : (rows : List ByteRow) → numbered (heads rows) ≡ true → (fault_in rows).number ≡ 0 → NoByteRow rows
fault-none rows t z = go (none-or-first rows)
  where
    go : NoByteRow rows ⊎ ((n : ℕ) × (b : ℕ) × FirstByteRow rows n b) → NoByteRow rows
    go (inl u) = u
    go (inr (n, b, f)) = absurd (first-numbered rows n b t f (sym (ap (λ (x : Fault). x.number) (first-fault rows n b f)) ∙ z))

pub fault-first : (rows : List ByteRow) → ((fault_in rows).number ≡ 0 → ⊥) → FirstByteRow rows (fault_in rows).number (fault_in rows).byte
fault-first rows u = go (none-or-first rows)
  where
    go : NoByteRow rows ⊎ ((n : ℕ) × (b : ℕ) × FirstByteRow rows n b) → FirstByteRow rows (fault_in rows).number (fault_in rows).byte
    go (inl t) = absurd (u (ap (λ (x : Fault). x.number) (none-fault rows t)))
    go (inr (n, b, f)) = subst (λ (x : Fault). FirstByteRow rows x.number x.byte) (sym (first-fault rows n b f)) f

-- ---- a condition by its row's number and its byte

abbrev pub condition_at : List ByteRow → ℕ → ℕ → Bool
condition_at [] n b = false
condition_at (r ∷ rows) n b = cond (eqb r.number n) (row_at r.conditions b) (condition_at rows n b)

pub condition-off : (rows : List ByteRow) → NoByteRow rows → (n b : ℕ) → condition_at rows n b ≡ false
condition-off [] t n b = refl
condition-off (r ∷ rows) t n b =
    taken (λ (h : Bool). h ≡ false) (row_at r.conditions b) (condition_at rows n b) (eqb r.number n)
    (row-off r.conditions t.0 b) (condition-off rows t.1 n b)

-- ---- the order of the bytes, by a test that a table that is written out passes by `refl`

abbrev rising_test : List Row → Bool
rising_test [] = true
rising_test (c ∷ []) = true
rising_test (c ∷ d ∷ cs) = ltb c.number d.number && rising_test (d ∷ cs)

rising : (cs : List Row) → rising_test cs ≡ true → Rising cs
rising [] t = tt
rising (c ∷ []) t = tt
rising (c ∷ d ∷ cs) t =
    (ltb-true c.number d.number (and_left _ (rising_test (d ∷ cs)) t), rising (d ∷ cs) (and_right (ltb c.number d.number) _ t))

abbrev pub order_test : List ByteRow → Bool
order_test [] = true
order_test (r ∷ rows) = rising_test r.conditions && order_test rows

pub in_order : (rows : List ByteRow) → order_test rows ≡ true → InOrder rows
in_order [] t = tt
in_order (r ∷ rows) t = (rising r.conditions (and_left _ (order_test rows) t), in_order rows (and_right (rising_test r.conditions) _ t))

-- ---- a number is one of the table's

pub first-among-heads : (rows : List ByteRow) (n b : ℕ) → FirstByteRow rows n b → among n (heads rows) ≡ true
first-among-heads [] n b f = absurd f
first-among-heads (r ∷ rows) n b (inl (e, f)) = ap (λ (t : Bool). t || among n (heads rows)) (eq-eqb r.number n e)
first-among-heads (r ∷ rows) n b (inr (t, f)) = or_right (eqb r.number n) (among n (heads rows)) (first-among-heads rows n b f)

-- ---- how high number and byte can be, and when there is none

-- no number is over m, and no byte over k
abbrev pub rows_up_to : ℕ → ℕ → List ByteRow → Bool
rows_up_to m k [] = true
rows_up_to m k (r ∷ rows) = leb r.number m && (up_to k r.conditions && rows_up_to m k rows)

module _ (m k : ℕ) where
  abbrev pub Within : Fault → Type 0
  Within f = (f.number ≤ m) × (f.byte ≤ k)

  high-by : (n : ℕ) → n ≤ m → (behind : Fault) → Within behind → (cs : List Row) → up_to k cs ≡ true → Within (fault_by n cs behind)
  high-by n h behind w [] t = w
  high-by n h behind w (c ∷ cs) t =
      taken Within (record { number = n; byte = c.number }) (fault_by n cs behind) c.holds
      (h, leb-true c.number k (and_left _ (up_to k cs) t))
      (high-by n h behind w cs (and_right (leb c.number k) _ t))

  pub fault-high : (rows : List ByteRow) → rows_up_to m k rows ≡ true → Within (fault_in rows)
  fault-high [] t = (omega arith, omega arith)
  fault-high (r ∷ rows) t =
      let rest = and_right (leb r.number m) _ t in
      high-by r.number (leb-true r.number m (and_left _ (up_to k r.conditions && rows_up_to m k rows) t)) (fault_in rows)
      (fault-high rows (and_right (up_to k r.conditions) _ rest)) r.conditions (and_left _ (rows_up_to m k rows) rest)

-- no row holds, as a test
abbrev none_of : List Row → Bool → Bool
none_of [] rest = rest
none_of (c ∷ cs) rest = not c.holds && none_of cs rest

abbrev pub no_byte_row : List ByteRow → Bool
no_byte_row [] = true
no_byte_row (r ∷ rows) = none_of r.conditions (no_byte_row rows)

pub fault-test : (rows : List ByteRow) → numbered (heads rows) ≡ true → eqb (fault_in rows).number 0 ≡ no_byte_row rows
fault-test [] t = refl
fault-test (r ∷ rows) t = by r.conditions (fault-test rows (and_right (not (eqb r.number 0)) _ t))
  where
    by : (cs : List Row) → eqb (fault_in rows).number 0 ≡ no_byte_row rows → eqb (fault_by r.number cs (fault_in rows)).number 0 ≡ none_of cs (no_byte_row rows)
    by [] e = e
    by (c ∷ cs) e = go c.holds (by cs e)
      where
        go : (h : Bool) → eqb (fault_by r.number cs (fault_in rows)).number 0 ≡ none_of cs (no_byte_row rows)
            → eqb (cond {A = Fault} h (record { number = r.number; byte = c.number }) (fault_by r.number cs (fault_in rows))).number 0
            ≡ (not h && none_of cs (no_byte_row rows))
        go true ih = not-true (eqb r.number 0) (and_left _ (numbered (heads rows)) t)
        go false ih = ih

-- the test of two tables one behind the other is that of both
none-append-by : (cs : List Row) (x y : Bool) → none_of cs (x && y) ≡ (none_of cs x && y)
none-append-by [] x y = refl
none-append-by (c ∷ cs) x y = go (not c.holds) (none-append-by cs x y)
  where
    go : (h : Bool) → none_of cs (x && y) ≡ (none_of cs x && y) → (h && none_of cs (x && y)) ≡ ((h && none_of cs x) && y)
    go true e = e
    go false e = refl

pub none-append : (rows more : List ByteRow) → no_byte_row (rows ++ more) ≡ (no_byte_row rows && no_byte_row more)
none-append [] more = refl
none-append (r ∷ rows) more = ap (none_of r.conditions) (none-append rows more) ∙ none-append-by r.conditions (no_byte_row rows) (no_byte_row more)

-- ---- a result of the code, as what a table gives

-- a refusal by a table is one by that table and those behind it
pub given-first : {A : Type 0} (rows : List ByteRow) (behind : Fault) (r : Result A Wrong) (f : Wrong) → IsErrAnd r (λ e. e ≡ f)
    → record { number = number_of_refusal f.why; byte = f.byte } ≡ fault_in rows → fault_given r ≡ fault_before rows behind
given-first rows behind (Ok x) f h e = absurd h
given-first rows behind (Err x) f h e =
    ap (λ (y : Wrong). record { number = number_of_refusal y.why; byte = y.byte }) h
    ∙ e
    ∙ sym (first-before rows behind (fault_in rows).number (fault_in rows).byte
    (fault-first rows (λ z. eqb-false (number_of_refusal f.why) 0 (number-never-zero f.why) (ap (λ (x : Fault). x.number) e ∙ z))))

-- and where it refuses nothing those behind it are asked
pub given-none : (rows : List ByteRow) (behind : Fault) → numbered (heads rows) ≡ true → record { number = 0; byte = 0 } ≡ fault_in rows → fault_before rows behind ≡ behind
given-none rows behind n e = none-before rows behind (fault-none rows n (sym (ap (λ (x : Fault). x.number) e)))
