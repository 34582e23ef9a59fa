-- What the loops carry and what inner functions ask for. Only contracts of inner functions cite this file: no promise to a user rests on it.
use Rattle.std.specs.Prelude.{Bool, true, Option, Some, None, ◌+◌, ◌≡◌, false, ℕ, ◌^◌, ◌<◌, length, Result, Ok, Err}
use Rattle.builders.specs.Field as builders
use Rattle.builders.specs.Sums.{crosses}
use Rattle.assembly.specs.Act.{Act, Nothing, Refused, Field, Limit, One, Sum, Search, Greatest}
use Rattle.bits.specs.declared.refusals.Refusal.{Refusal}
use Rattle.bits.specs.Refusals.{number_of_refusal}
use Rattle.builders.specs.declared.Sizes.{Sizes}
use Rattle.text.specs.declared.Refused as text
use Rattle.assembly.specs.declared.Adding.{Adding}
use Rattle.assembly.specs.declared.Adding.TheVariants as adding
use Rattle.assembly.specs.declared.Search.TheVariants as search
use Rattle.assembly.specs.declared.Search as program
use Rattle.assembly.specs.declared.Act as lines
use Rattle.assembly.specs.declared.Act.TheVariants as act
use Rattle.assembly.specs.declared.Word.{Word}
use Rattle.assembly.specs.declared.Fault.{Fault}
use Rattle.assembly.specs.Words.{Value, valued}
use Rattle.assembly.specs.Assembly.{Outcome}

-- A field that is named finds room behind the first `count`.
abbrev pub Room : ℕ → Act → Type 0
Room count Nothing = Unit {0}
Room count (Refused n k) = Unit {0}
Room count (Field w a n) = count < 256
Room count (Limit n) = Unit {0}
Room count (One i) = Unit {0}
Room count (Sum d a b s n) = Unit {0}
Room count (Search l a n v) = Unit {0}
Room count (Greatest a n) = Unit {0}

-- Fields of a sum that its builder does not refuse.
pub record Joined (a b s n : ℕ) : Type 0 where
  pub first : builders.Field a n
  pub second : builders.Field b n
  pub target : builders.Field s n
  pub clear_a : crosses s a n ≡ false
  pub clear_b : crosses s b n ≡ false

-- The builders refuse nothing of it.
abbrev pub Buildable : Act → Type 0
Buildable Nothing = Unit {0}
Buildable (Refused n k) = Unit {0}
Buildable (Field w a n) = builders.Field a n
Buildable (Limit n) = Unit {0}
Buildable (One i) = Unit {0}
Buildable (Sum d a b s n) = Joined a b s n
Buildable (Search l a n v) = builders.Field a n × (v < 2 ^ n)
Buildable (Greatest a n) = builders.Field a n

-- What the first walk over a text gives, by the text's outcome: the lengths of the list and of the items, or the first refusal.
abbrev pub Measures : Outcome → Result Sizes text.Refused → Type 0
Measures o (Ok s) = (o.number ≡ 0) × (s.list ≡ length o.state.list) × (s.items ≡ length o.state.items)
Measures o (Err r) = (o.number ≡ number_of_refusal r.why) × (o.line ≡ r.line) × (o.column ≡ r.column)

-- ---- what the program's types say, as these definitions do

abbrev pub is_difference : Adding → Bool
is_difference adding.Sum = false
is_difference adding.Difference = true

abbrev pub is_less : program.Search → Bool
is_less search.Equal = false
is_less search.Less = true

-- What a line makes that is not refused.
abbrev pub made : lines.Act → Act
made act.Nothing = Nothing
made (act.Field name span) = Field name span.start span.width
made (act.Limit n) = Limit n
made (act.One i) = One i
made (act.Sum d a b s) = Sum (is_difference d) a.start b s a.width
made (act.Search l a v) = Search (is_less l) a.start a.width v
made (act.Greatest a) = Greatest a.start a.width

-- What a line gives.
abbrev pub act_given : Result lines.Act Fault → Act
act_given (Ok act) = made act
act_given (Err fault) = Refused (number_of_refusal fault.why) fault.column

-- What is judged of a word, with the column of its first character where it is refused.
abbrev pub judged : {A : Type 0} → Word → Result A Refusal → Result A Fault
judged w (Ok x) = Ok x
judged w (Err r) = Err (record { why = r; column = w.start + 1 })

-- A number in decimal, or none.
abbrev pub value_given : Option ℕ → Value
value_given (Some n) = valued true n
value_given None = valued false 0
