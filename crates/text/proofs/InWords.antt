-- Whatever was read, an instruction that stands there in words is none that the judge refuses by itself. Assumes nothing.
use mathlib.Core.Path.{◌≡◌}
use mathlib.Core.Bool.{true}
use mathlib.Core.List.{List}
use Prim.Native.Nat.{ℕ}
use Rattle.lines.specs.Alone.{fault_alone}
use Rattle.lines.specs.Worded.{in_words}
use Rattle.lines.proofs.Formed.{Formed, formed-word, formed-whole}
use Rattle.text.specs.Make.{begin, ends, line_so_far}
use Rattle.text.proofs.Carried.{Carries, ended-carried, ends-carried}

carries : Carries Formed
carries = record { word = formed-word; head = λ l h. tt; comment = λ l h. tt; early = λ l h. tt }

-- after any characters from a text's start
pub words-stand : (cs : List ℕ) → in_words (line_so_far cs).phase ≡ true → (fault_alone (line_so_far cs).got).number ≡ 0
words-stand cs =
    let s = ends begin 0 cs in
    formed-whole (line_so_far cs) (ended-carried Formed carries s.line s.word (ends-carried Formed carries begin 0 cs tt))
