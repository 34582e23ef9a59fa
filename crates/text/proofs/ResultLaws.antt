-- What making and showing give back, as the documents' answers, tells which result it is of. Assumes nothing.
use Rattle.std.proofs.Common.{◌≡◌, ℕ, Result, Ok, Err, ap, ap₂, ◌∙◌, arith}
use Rattle.bits.specs.declared.refusals.Refusal.{Refusal}
use Rattle.bits.proofs.RefusalLaws.{number-injective, number-positive}
use Rattle.text.specs.declared.Refused.{Refused}
use Rattle.text.specs.Make.{Made}
use Rattle.text.specs.Show.{Shown}
use Rattle.text.specs.Results.{made_of, shown_of}

abbrev refused : Refusal → ℕ → ℕ → Refused
refused w l k = record { why = w; line = l; column = k }

pub made_of-injective : (a b : Result ℕ Refused) → made_of a ≡ made_of b → a ≡ b
made_of-injective (Ok n) (Ok m) e = ap Ok (ap (λ (x : Made). x.count) e)
made_of-injective (Ok n) (Err s) e = absurd (omega (arith, number-positive s.why, ap (λ (x : Made). x.number) e))
made_of-injective (Err r) (Ok m) e = absurd (omega (arith, number-positive r.why, ap (λ (x : Made). x.number) e))
made_of-injective (Err r) (Err s) e =
    ap (λ (w : Refusal). Err (refused w r.line r.column)) (number-injective r.why s.why (ap (λ (x : Made). x.number) e))
    ∙ ap₂ (λ (l k : ℕ). Err (refused s.why l k)) (ap (λ (x : Made). x.line) e) (ap (λ (x : Made). x.column) e)

pub shown_of-injective : (a b : Result ℕ Refusal) → shown_of a ≡ shown_of b → a ≡ b
shown_of-injective (Ok n) (Ok m) e = ap Ok (ap (λ (x : Shown). x.count) e)
shown_of-injective (Ok n) (Err s) e = absurd (omega (arith, number-positive s, ap (λ (x : Shown). x.number) e))
shown_of-injective (Err r) (Ok m) e = absurd (omega (arith, number-positive r, ap (λ (x : Shown). x.number) e))
shown_of-injective (Err r) (Err s) e = ap Err (number-injective r s (ap (λ (x : Shown). x.number) e))
