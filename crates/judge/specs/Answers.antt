-- What is given back, as the documents write it: a number with its byte, and the six numbers of a run; and what a result of the code says in these. Document 01, Numbers given back; document 02, Six.
use Rattle.std.specs.Prelude.{ℕ, Result, Ok, Err}
use Rattle.bits.specs.Refusals.{number_of_refusal}
use Rattle.judge.specs.declared.Done.{Done}
use Rattle.judge.specs.declared.Refused.{Refused}
use Rattle.judge.specs.declared.Fault.{Fault as Wrong}

-- What is wrong with an instruction: a number, 0 for nothing, and the first byte that is wrong by it.
pub record Fault : Type 0 where
  pub number : ℕ
  pub byte : ℕ

-- What a run gives back.
pub record Answer : Type 0 where
  pub number : ℕ
  pub place : ℕ
  pub byte : ℕ
  pub steps : ℕ
  pub taken : ℕ
  pub given : ℕ

abbrev pub fault_given : {A : Type 0} → Result A Wrong → Fault
fault_given (Ok _) = record { number = 0; byte = 0 }
fault_given (Err f) = record { number = number_of_refusal f.why; byte = f.byte }

abbrev pub answer_of : Result Done Refused → Answer
answer_of (Ok d) = record { number = 0; place = 0; byte = 0; steps = d.steps; taken = d.taken; given = d.given }
answer_of (Err r) = record { number = number_of_refusal r.why; place = r.place; byte = r.byte; steps = 0; taken = 0; given = 0 }
