-- What a result of the code tells of an answer, an exit by `?` and what is lent before the list among them. Assumes nothing.
use mathlib.Core.Path.{◌≡◌, refl, sym, ap, ◌∙◌}
use mathlib.Core.List.{List}
use Prim.Native.Nat.{ℕ}
use Rattle.std.specs.Prelude.{Result, Ok, Err}
use mathlib.Core.Bool.{true, false, true≢false, false≢true}
use Rattle.std.specs.Result.{is_err, IsErrAnd}
use borrow.Author.Tests.{eqb-false}
use Rattle.bits.specs.declared.refusals.Refusal.{Refusal}
use Rattle.bits.specs.Rows.{Row, number_of}
use Rattle.bits.specs.Refusals.{number_of_refusal}
use Rattle.bits.proofs.RefusalLaws.{number-injective, number-never-zero}
use Rattle.registers.specs.declared.Modes.{Modes}
use Rattle.judge.specs.declared.Lengths.{Lengths}
use Rattle.judge.specs.declared.Fault.{Fault as Wrong}
use Rattle.judge.specs.declared.Done.{Done}
use Rattle.judge.specs.declared.Refused.{Refused}
use Rattle.judge.specs.Answers.{Fault, Answer, fault_given, answer_of}
use Rattle.judge.specs.Judge.{judged_list, judged_by}

pub answer-err : (r : Result Done Refused) (x : Refused) → IsErrAnd r (λ e. e ≡ x) → answer_of r ≡ answer_of (Err x)
answer-err (Ok d) x h = absurd h
answer-err (Err e) x h = ap (λ (y : Refused). answer_of (Err y)) h

-- no two results are one answer, nor one number and byte: what is said of the answer tells the result
pub answer_of-injective : (r s : Result Done Refused) → answer_of r ≡ answer_of s → r ≡ s
answer_of-injective (Ok d) (Ok e) p = ap (λ (a : Answer). Ok (record { steps = a.steps; taken = a.taken; given = a.given })) p
answer_of-injective (Ok d) (Err s) p = absurd (eqb-false (number_of_refusal s.why) 0 (number-never-zero s.why) (sym (ap (λ (a : Answer). a.number) p)))
answer_of-injective (Err r) (Ok e) p = absurd (eqb-false (number_of_refusal r.why) 0 (number-never-zero r.why) (ap (λ (a : Answer). a.number) p))
answer_of-injective (Err r) (Err s) p =
    let q = number-injective r.why s.why (ap (λ (a : Answer). a.number) p) in
    λ j. Err (record { why = q j; place = (p j).place; byte = (p j).byte })

pub fault_given-injective : (r s : Result (Unit {0}) Wrong) → fault_given r ≡ fault_given s → r ≡ s
fault_given-injective (Ok x) (Ok y) p = refl
fault_given-injective (Ok x) (Err g) p = absurd (eqb-false (number_of_refusal g.why) 0 (number-never-zero g.why) (sym (ap (λ (f : Fault). f.number) p)))
fault_given-injective (Err f) (Ok y) p = absurd (eqb-false (number_of_refusal f.why) 0 (number-never-zero f.why) (ap (λ (f : Fault). f.number) p))
fault_given-injective (Err f) (Err g) p =
    let q = number-injective f.why g.why (ap (λ (f : Fault). f.number) p) in
    λ j. Err (record { why = q j; byte = (p j).byte })

-- a fault has a number, and nothing else has
pub fault-numbered : {A : Type 0} (r : Result A Wrong) → is_err r ≡ true → (fault_given r).number ≡ 0 → ⊥
fault-numbered (Ok x) e z = false≢true e
fault-numbered (Err f) e z = eqb-false (number_of_refusal f.why) 0 (number-never-zero f.why) z

pub fault-numberless : {A : Type 0} (r : Result A Wrong) → is_err r ≡ false → (fault_given r).number ≡ 0
fault-numberless (Ok x) e = refl
fault-numberless (Err f) e = absurd (true≢false e)

module _ (rows : List Row) (l : Lengths) (modes : Modes) (list : List ℕ) where
  -- what is lent is refused
  pub lent-refused : (r : Result Done Refused) (x : Refusal) → IsErrAnd r (λ e. e ≡ record { why = x; place = 0; byte = 0 }) → number_of_refusal x ≡ number_of rows
      → answer_of r ≡ judged_by rows l modes list
  unfolding judged_by
  lent-refused r x h e = answer-err r _ h ∙ simp (sym e, number-never-zero x)

  -- or stands, and then the list answers
  pub lent-stands : 0 ≡ number_of rows → judged_list l modes list ≡ judged_by rows l modes list
  unfolding judged_by
  lent-stands e = simp (sym e)
