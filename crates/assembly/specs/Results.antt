-- What the result of assembling is in the documents' numbers: `Assembled` of Assembly. docs/TEXT.md, Refusals.
use Rattle.std.specs.Prelude.{Result, Ok, Err}
use Rattle.bits.specs.Refusals.{number_of_refusal}
use Rattle.builders.specs.declared.Sizes.{Sizes}
use Rattle.text.specs.declared.Refused.{Refused}
use Rattle.assembly.specs.Assembly.{Assembled, answer}

abbrev pub assembled_of : Result Sizes Refused → Assembled
assembled_of (Ok sizes) = answer 0 0 0 sizes.list sizes.items
assembled_of (Err r) = answer (number_of_refusal r.why) r.line r.column 0 0
