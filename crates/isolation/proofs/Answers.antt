-- The answer, outcome by outcome, and the table of its numbers, both ways. Assumes nothing.
use mathlib.Core.Path.{◌≡◌, refl, sym, ap, ap₂, subst₂, ◌∙◌}
use mathlib.Core.Bool.{Bool, true, cond}
use mathlib.Core.List.{List}
use mathlib.Core.Logic.{◌↔◌}
use Prim.Native.Nat.{ℕ, ◌/◌, ◌<◌, ◌≤◌}
use native.Mathlib.Decide.{ℕ_discrete, dec_lt}
use native.Mathlib.Omega.{arith}
use lib.Dec.{eqb}
use lib.ListN.{length}
use borrow.Author.Tests.{eqb-false, ne_eqb, lt-ltb, le-ltb}
use Rattle.std.specs.Prelude.{Result, Ok, Err}
use Rattle.std.specs.Result.{IsErrAnd}
use Rattle.bits.specs.Refusals.{number_of_refusal}
use Rattle.bits.proofs.RefusalLaws.{number-injective, number-never-zero}
use Rattle.bits.specs.Rows.{Row, number_of, NoRow}
use Rattle.bits.proofs.Rows.{none_number, number-none, first-number, number-first, row-off}
use Rattle.bits.proofs.Search.{found, found_none, found_at, found-le, none_found}
use Rattle.registers.specs.declared.Modes.{Modes}
use Rattle.registers.specs.Modes.{modes_of}
use Rattle.judge.proofs.RowLaws.{fit-size}
use Rattle.fields.specs.Isolation.{breaks_at, Keeps, first_breaking, isolated}
use Rattle.fields.proofs.Isolation.{isolated-keeps, keeps-isolated}
use Rattle.isolation.specs.declared.Refused.{Refused}
use Rattle.isolation.specs.Isolation.{Isolation, isolation_given, ask_rows, broken_at, isolation_of}
use Rattle.isolation.specs.Numbers.{Answered, by-lent, by-instruction}

-- ---- what a result of the code tells of the answer

pub given-err : (r : Result (Unit {0}) Refused) (e : Refused) → IsErrAnd r (λ x. x ≡ e) → isolation_given r ≡ record { number = number_of_refusal e.why; place = e.place }
given-err (Ok x) e h = absurd h
given-err (Err x) e h = ap (λ (y : Refused). record { number = number_of_refusal y.why; place = y.place }) h

pub isolation_given-injective : (r s : Result (Unit {0}) Refused) → isolation_given r ≡ isolation_given s → r ≡ s
isolation_given-injective (Ok x) (Ok y) p = refl
isolation_given-injective (Ok x) (Err g) p = absurd (eqb-false (number_of_refusal g.why) 0 (number-never-zero g.why) (sym (ap (λ (f : Isolation). f.number) p)))
isolation_given-injective (Err f) (Ok y) p = absurd (eqb-false (number_of_refusal f.why) 0 (number-never-zero f.why) (ap (λ (f : Isolation). f.number) p))
isolation_given-injective (Err f) (Err g) p =
    let q = number-injective f.why g.why (ap (λ (f : Isolation). f.number) p) in
    λ j. Err (record { why = q j; place = (p j).place })

-- ---- the three outcomes, as code comes to them: `wrong` is the number of what is lent, and k the first instruction that breaks the condition

module _ (list registers : List ℕ) where
  abbrev start : Modes
  start = modes_of registers

  abbrev rows : List Row
  rows = ask_rows (length registers) start list

  -- the answer, from a number of what is lent and a first that breaks the condition
  abbrev answer_by : ℕ → ℕ → Isolation
  answer_by wrong k = cond (eqb wrong 0) (broken_at k (length list / 8)) (record { number = wrong; place = 0 })

  module _ (wrong : ℕ) (ew : wrong ≡ number_of rows) where
    pub refused-is : (wrong ≡ 0 → ⊥) → ◌≡◌ {A = Isolation} (record { number = wrong; place = 0 }) (isolation_of list registers)
    unfolding isolation_of
    refused-is u =
        sym (ap (λ (b : Bool). cond b (broken_at (first_breaking start list) (length list / 8)) (record { number = wrong; place = 0 })) (ne_eqb wrong 0 u))
        ∙ ap (λ (w : ℕ). answer_by w (first_breaking start list)) ew

    module _ (z : wrong ≡ 0) (k : ℕ) (ek : k ≡ first_breaking start list) where
      judged : broken_at k (length list / 8) ≡ isolation_of list registers
      unfolding isolation_of
      judged = ap₂ answer_by (sym z ∙ ew) ek

      pub broken-is : k < length list / 8 → ◌≡◌ {A = Isolation} (record { number = 40; place = k }) (isolation_of list registers)
      broken-is h = sym (ap (λ (b : Bool). cond b (record { number = 40; place = k }) (record { number = 0; place = 0 })) (lt-ltb k (length list / 8) h)) ∙ judged

      pub kept-is : length list / 8 ≤ k → ◌≡◌ {A = Isolation} (record { number = 0; place = 0 }) (isolation_of list registers)
      kept-is h = sym (ap (λ (b : Bool). cond b (record { number = 40; place = k }) (record { number = 0; place = 0 })) (le-ltb k (length list / 8) h)) ∙ judged

  -- ---- the same, of the answer itself: one of the three

  abbrev given : Isolation
  given = isolation_of list registers

  data Outcome : Type 0 where
    refused : (number_of rows ≡ 0 → ⊥) → given ≡ record { number = number_of rows; place = 0 } → Outcome
    broken : NoRow rows → first_breaking start list < length list / 8 → given ≡ record { number = 40; place = first_breaking start list } → Outcome
    kept : NoRow rows → Keeps start list (length list / 8) → given ≡ record { number = 0; place = 0 } → Outcome

  outcome : Outcome
  outcome = go (ℕ_discrete (number_of rows) 0) (dec_lt (first_breaking start list) (length list / 8))
    where
      go : Dec (number_of rows ≡ 0) → Dec (first_breaking start list < length list / 8) → Outcome
      go (no u) d = refused u (sym (refused-is (number_of rows) refl u))
      go (yes z) (yes h) = broken (number-none rows refl z) h (sym (broken-is (number_of rows) refl z (first_breaking start list) refl h))
      go (yes z) (no u) =
          let end = found-le (breaks_at start list) (length list / 8) in
          kept (number-none rows refl z) (λ j h. none_found (breaks_at start list) (length list / 8) j (omega arith))
          (sym (kept-is (number_of rows) refl z (first_breaking start list) refl (omega arith)))

  -- 40 is not 0
  apart : ◌≡◌ {A = ℕ} 40 0 → ⊥
  apart q = absurd (omega arith)

  -- ---- the table, both ways

  abbrev Gives : ℕ → ℕ → Type 0
  Gives n k = (given.number ≡ n) × (given.place ≡ k)

  gives-by : {n k : ℕ} → given ≡ record { number = n; place = k } → Gives n k
  gives-by e = (ap (λ (a : Isolation). a.number) e, ap (λ (a : Isolation). a.place) e)

  pub isolated-refusals : (n k : ℕ) → (n ≡ 0 → ⊥) → Gives n k ↔ Answered rows start list n k
  isolated-refusals n k u = (λ g. why g outcome, λ b. is u b)
    where
      told : {n' k' : ℕ} → Gives n k → given ≡ record { number = n'; place = k' } → Answered rows start list n' k' → Answered rows start list n k
      told g e = let h = gives-by e in subst₂ (Answered rows start list) (sym h.0 ∙ g.0) (sym h.1 ∙ g.1)

      why : Gives n k → Outcome → Answered rows start list n k
      why g (refused v e) = told g e (by-lent (number_of rows) (number-first rows (number_of rows) v refl))
      why g (broken none h e) =
          let f = breaks_at start list in
          let n = length list / 8 in
          told g e (by-instruction (first_breaking start list) none h (none_found f n) (found_at f n h))
      why g (kept none k e) = absurd (u (sym g.0 ∙ (gives-by e).0))

      is : {n k : ℕ} → (n ≡ 0 → ⊥) → Answered rows start list n k → Gives n k
      is u (by-lent n f) = gives-by (sym (refused-is n (sym (first-number rows n f)) u))
      is u (by-instruction k none h keeps b) =
          gives-by (sym (broken-is 0 (sym (none_number rows none)) refl k (found (breaks_at start list) (length list / 8) k h keeps b) h))

  pub unbroken : (given.number ≡ 0) ↔ NoRow rows × Keeps start list (length list / 8)
  unbroken = (λ z. why z outcome, λ k. (gives-by (is k)).0)
    where
      why : given.number ≡ 0 → Outcome → NoRow rows × Keeps start list (length list / 8)
      why z (refused u e) = absurd (u (sym (gives-by e).0 ∙ z))
      why z (broken none h e) = absurd (apart (sym (gives-by e).0 ∙ z))
      why z (kept none k e) = (none, k)

      is : NoRow rows × Keeps start list (length list / 8) → given ≡ record { number = 0; place = 0 }
      is k = sym (kept-is 0 (sym (none_number rows k.0)) refl (length list / 8) (found_none (breaks_at start list) (length list / 8) k.1) (omega arith))

  pub kept-place : given.number ≡ 0 → given.place ≡ 0
  kept-place z = go outcome
    where
      go : Outcome → given.place ≡ 0
      go (refused u e) = (gives-by e).1
      go (broken none h e) = absurd (apart (sym (gives-by e).0 ∙ z))
      go (kept none k e) = (gives-by e).1

  -- a place is one of at most 4,096 instructions
  pub place-few : given.place ≤ 4096
  place-few = go outcome
    where
      go : Outcome → given.place ≤ 4096
      go (refused u e) = let q = (gives-by e).1 in omega arith
      go (broken none h e) =
          let q = (gives-by e).1 in
          let size = fit-size 8 (length list) (row-off rows none 3) in
          omega arith
      go (kept none k e) = let q = (gives-by e).1 in omega arith

  -- 0 is the condition, of what is lent right
  pub answers-exactly : (given.number ≡ 0) ↔ NoRow rows × (isolated start list ≡ true)
  answers-exactly = (
    λ z. let u = unbroken.0 z in (u.0, keeps-isolated start list u.1),
    λ q. unbroken.1 (q.0, isolated-keeps start list q.1),
  )
