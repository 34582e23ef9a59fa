-- What a pass answers, in either form. Document 01, Network: "a zero item where byte 6 is none of the 37, and otherwise 0 and the passed item"; document 02, Six: 16 or 17 with the zero item.
use Rattle.std.specs.Prelude.{cond, List, ℕ, replicate, Result, Ok, Err}
use Rattle.bits.specs.Bits.{item}
use Rattle.bits.specs.Refusals.{number_of_refusal}
use Rattle.bits.specs.Rows.{number_of}
use Rattle.bits.specs.declared.refusals.Refusal.{Refusal}
use Rattle.network.specs.Shifts.{shift_of, permitted, p_of, m_of}
use Rattle.network.specs.Unlisted.{code_rows}
use Rattle.network.specs.Pass.{passed}

-- The item l passed with flip f and the shift that byte 6, c, gives by the table of codes.
unfoldable pub passed_item : List ℕ → ℕ → ℕ → List ℕ
passed_item l f c = item (passed l f (p_of (shift_of c)) (m_of (shift_of c)))

-- The number and the item.
pub record Passed : Type 0 where
  pub number : ℕ
  pub item : List ℕ

-- What a pass of the code gives back, as that: the item, or the reason with a zero item.
abbrev pub passed_of : Result (List ℕ) Refusal → Passed
passed_of (Ok l) = record { number = 0; item = l }
passed_of (Err r) = record { number = number_of_refusal r; item = replicate 32 0 }

unfoldable pub answer : List ℕ → ℕ → ℕ → Passed
answer l f c = cond (permitted c) (record { number = 0; item = passed_item l f c }) (record { number = number_of (code_rows c); item = replicate 32 0 })
