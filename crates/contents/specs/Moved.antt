-- The answer of reading and writing: "success gives 0, place 0 and the number of bytes put out; a refusal gives 0 bytes." Document 01, Blocks on disk.
use Rattle.std.specs.Prelude.{ℕ, Result, Ok, Err}
use Rattle.bits.specs.Refusals.{number_of_refusal}
use Rattle.contents.specs.declared.Refused.{Refused}

pub record Moved : Type 0 where
  pub number : ℕ
  pub place : ℕ
  pub bytes : ℕ

-- The answer that a result is.
abbrev pub moved_of : Result ℕ Refused → Moved
moved_of (Ok n) = record { number = 0; place = 0; bytes = n }
moved_of (Err r) = record { number = number_of_refusal r.why; place = r.place; bytes = 0 }
