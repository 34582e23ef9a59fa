-- The answer says which result it is of: no reason to refuse has number 0, and no two results have one answer. Assumes nothing.
use mathlib.Core.Path.{◌≡◌, sym, ap, ap₂}
use Prim.Native.Nat.{ℕ}
use borrow.Author.Tests.{eqb-false}
use Rattle.std.specs.Prelude.{Result, Ok, Err}
use Rattle.bits.specs.declared.refusals.Refusal.{Refusal}
use Rattle.bits.specs.Refusals.{number_of_refusal}
use Rattle.bits.proofs.RefusalLaws.{number-injective, number-never-zero}
use Rattle.contents.specs.declared.Refused.{Refused}
use Rattle.contents.specs.Moved.{Moved, moved_of}

pub number-some : (why : Refusal) → number_of_refusal why ≡ 0 → ⊥
number-some why = eqb-false (number_of_refusal why) 0 (number-never-zero why)

-- a refusal that has no place
abbrev pub at_0 : Refusal → Refused
at_0 why = record { why = why; place = 0 }

refused-same : (r s : Refused) → r.why ≡ s.why → r.place ≡ s.place → r ≡ s
refused-same r s e p = ap₂ (λ (why : Refusal) (place : ℕ). record { why = why; place = place }) e p

pub moved-injective : (r s : Result ℕ Refused) → moved_of r ≡ moved_of s → r ≡ s
moved-injective (Ok n) (Ok m) h = ap Ok (ap (λ (x : Moved). x.bytes) h)
moved-injective (Ok n) (Err s) h = absurd (number-some s.why (sym (ap (λ (x : Moved). x.number) h)))
moved-injective (Err r) (Ok m) h = absurd (number-some r.why (ap (λ (x : Moved). x.number) h))
moved-injective (Err r) (Err s) h =
    ap Err (refused-same r s (number-injective r.why s.why (ap (λ (x : Moved). x.number) h)) (ap (λ (x : Moved). x.place) h))
