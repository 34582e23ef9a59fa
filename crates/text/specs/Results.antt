-- What making and showing give back, as the documents' answers: 0 and a count, or a number with its place.
use Rattle.std.specs.Prelude.{ℕ, Result, Ok, Err}
use Rattle.bits.specs.declared.refusals.Refusal.{Refusal}
use Rattle.bits.specs.Refusals.{number_of_refusal}
use Rattle.text.specs.declared.Refused.{Refused}
use Rattle.text.specs.Make.{Made, answer}
use Rattle.text.specs.Show.{Shown, shown_as}

-- A refusal at no place of the text.
abbrev pub nowhere : Refusal → Refused
nowhere r = record { why = r; line = 0; column = 0 }

abbrev pub made_of : Result ℕ Refused → Made
made_of (Ok n) = answer 0 0 0 n
made_of (Err r) = answer (number_of_refusal r.why) r.line r.column 0

abbrev pub shown_of : Result ℕ Refusal → Shown
shown_of (Ok n) = shown_as 0 n
shown_of (Err r) = shown_as (number_of_refusal r) 0
