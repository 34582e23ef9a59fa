-- No two results of assembling have one answer in the documents' numbers. Assumes nothing.
use mathlib.Core.Path.{◌≡◌, ap, ap₂}
use native.Mathlib.Omega.{arith}
use Rattle.std.specs.Prelude.{Result, Ok, Err}
use Rattle.bits.specs.declared.refusals.Refusal.{Refusal}
use Rattle.bits.proofs.RefusalLaws.{number-injective, number-positive}
use Rattle.builders.specs.declared.Sizes.{Sizes}
use Rattle.text.specs.declared.Refused.{Refused}
use Rattle.assembly.specs.Assembly.{Assembled}
use Rattle.assembly.specs.Results.{assembled_of}

pub assembled_of-injective : (r s : Result Sizes Refused) → assembled_of r ≡ assembled_of s → r ≡ s
assembled_of-injective (Ok x) (Ok y) e = ap (λ (a : Assembled). Ok (record { list = a.list; items = a.items })) e
assembled_of-injective (Ok x) (Err s) e = absurd (omega (arith, number-positive s.why, ap (λ (a : Assembled). a.number) e))
assembled_of-injective (Err r) (Ok y) e = absurd (omega (arith, number-positive r.why, ap (λ (a : Assembled). a.number) e))
assembled_of-injective (Err r) (Err s) e =
    let why = number-injective r.why s.why (ap (λ (a : Assembled). a.number) e) in
    ap₂ (λ (w : Refusal) (a : Assembled). Err (record { why = w; line = a.line; column = a.column })) why e
