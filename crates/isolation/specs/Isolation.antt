-- What is answered of a list: whether it is one in which no station can disturb another. Document 02, Fourteen, whose condition is that of fields/specs/Isolation; the numbers of the answer are docs/DECISIONS.md's.
use Rattle.std.specs.Prelude.{Result, Ok, Err, cond, List, [], ◌∷◌, ℕ, ◌/◌, eqb, ltb, length}
use Rattle.bits.specs.Refusals.{number_of_refusal}
use Rattle.bits.specs.Rows.{Row, row, number_of}
use Rattle.registers.specs.declared.Modes.{Modes}
use Rattle.registers.specs.Modes.{modes_of, wrong_modes}
use Rattle.judge.specs.Judge.{wrong_registers, unfit}
use Rattle.fields.specs.Isolation.{first_breaking}
use Rattle.isolation.specs.declared.Refused.{Refused}

-- What is answered: 0, 2, 3 or 15, or 40 with the instruction's place.
pub record Isolation : Type 0 where
  pub number : ℕ
  pub place : ℕ

abbrev pub isolation_given : {A : Type 0} → Result A Refused → Isolation
isolation_given (Ok _) = record { number = 0; place = 0 }
isolation_given (Err r) = record { number = number_of_refusal r.why; place = r.place }

-- 2, 3, 15 as a run gives them, of what is lent, in a run's order.
abbrev pub ask_rows : ℕ → Modes → List ℕ → List Row
ask_rows registers m list =
    row 2 (wrong_registers registers)
    ∷ row 3 (unfit 8 (length list))
    ∷ row 15 (wrong_modes m)
    ∷ []

-- 0, or 40 with the place of the first instruction that breaks the condition: k, where it is one of n.
abbrev pub broken_at : ℕ → ℕ → Isolation
broken_at k n = cond (ltb k n) (record { number = 40; place = k }) (record { number = 0; place = 0 })

unfoldable pub isolation_of : List ℕ → List ℕ → Isolation
isolation_of list registers =
    let m = modes_of registers in
    let wrong = number_of (ask_rows (length registers) m list) in
    cond (eqb wrong 0) (broken_at (first_breaking m list) (length list / 8)) (record { number = wrong; place = 0 })
