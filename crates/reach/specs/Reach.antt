-- How many words each instruction of a list reaches, and what is answered of it. docs/TEXT.md, What a store reaches.
use Rattle.std.specs.Prelude.{Bool, Result, Ok, Err, cond, ◌&&◌, List, [], ◌∷◌, ◌++◌, ℕ, zero, suc, ◌*◌, ◌/◌, ◌^◌, eqb, ltb, length, drop}
use Rattle.std.specs.Int.Bits.{bit_and}
use Rattle.std.specs.Int.Count.{ones}
use Rattle.bits.specs.Bits.{two}
use Rattle.bits.specs.declared.refusals.Refusal.{Refusal}
use Rattle.bits.specs.Refusals.{number_of_refusal}
use Rattle.bits.specs.Rows.{Row, row, number_of}
use Rattle.memory.specs.Table.{not_of}
use Rattle.registers.specs.declared.Modes.{Modes}
use Rattle.registers.specs.Modes.{modes_of, wrong_modes}
use Rattle.judge.specs.declared.Instruction.{Instruction}
use Rattle.judge.specs.Instructions.{instruction_at, stores}
use Rattle.judge.specs.Modes.{modes_after, mode_of}
use Rattle.judge.specs.Judge.{wrong_registers, unfit, fault_of}

-- ---- the words

-- Word W is met by a line of an access under mode M and address G: M and W is M and G.
abbrev pub met : ℕ → ℕ → ℕ → Bool
met m g w = eqb (bit_and m w) (bit_and m g)

-- An instruction reaches word w, by the mode registers before it: it stores, and one of its lines meets the word.
abbrev pub reaches : Modes → Instruction → ℕ → Bool
reaches m i w = stores i && met (mode_of m i) i.addr w

-- "A store under mode M reaches 2 to the number of M's zero bits words": the ones of not M.
abbrev pub reach_of : ℕ → ℕ
reach_of m = 2 ^ ones (not_of 8 m)

-- How many words an instruction reaches, by the mode registers before it: "0 for one that does not store, or that the run would refuse".
unfoldable pub reach_by : Modes → Instruction → ℕ
reach_by m i = cond (stores i && eqb (fault_of m i).number 0) (reach_of (mode_of m i)) 0

-- Instruction k of a list whose run starts with these mode registers.
abbrev pub reach_at : Modes → List ℕ → ℕ → ℕ
reach_at m list k = reach_by (modes_after list m k) (instruction_at list k)

-- "Two bytes for each instruction, low byte first": of the first n.
unfoldable pub reach_bytes : Modes → List ℕ → ℕ → List ℕ
reach_bytes m list zero = []
reach_bytes m list (suc n) = reach_bytes m list n ++ two (reach_at m list n)

-- ---- the answer

-- The bytes of all of a list's instructions.
abbrev pub answer_bytes : List ℕ → ℕ
answer_bytes list = 2 * (length list / 8)

-- "2, 3 and 15 as a run does, and then 27 where the buffer has not two bytes for each instruction", of the lengths of the registers and of the buffer.
abbrev pub reach_rows : ℕ → Modes → List ℕ → ℕ → List Row
reach_rows registers m list out =
    row 2 (wrong_registers registers)
    ∷ row 3 (unfit 8 (length list))
    ∷ row 15 (wrong_modes m)
    ∷ row 27 (ltb out (answer_bytes list))
    ∷ []

abbrev pub reach_number : List ℕ → List ℕ → ℕ → ℕ
reach_number registers list out = number_of (reach_rows (length registers) (modes_of registers) list out)

-- What is answered: 0 and how many bytes were written, or 2, 3, 15 or 27 and 0.
pub record Reached : Type 0 where
  pub number : ℕ
  pub count : ℕ

abbrev pub reached_of : Result ℕ Refusal → Reached
reached_of (Ok n) = record { number = 0; count = n }
reached_of (Err r) = record { number = number_of_refusal r; count = 0 }

-- 0 and how many bytes were written, or the number of a refusal and 0; of the length of the buffer.
unfoldable pub reach_answer : List ℕ → List ℕ → ℕ → Reached
reach_answer registers list out =
    let number = reach_number registers list out in
    cond (eqb number 0) (record { number = 0; count = answer_bytes list }) (record { number = number; count = 0 })

-- The buffer afterwards: those bytes at its front, and behind them as it was; a refusal leaves all of it as it was.
unfoldable pub reach_out : List ℕ → List ℕ → List ℕ → List ℕ
reach_out registers list out =
    cond (eqb (reach_number registers list (length out)) 0)
    (reach_bytes (modes_of registers) list (length list / 8) ++ drop (answer_bytes list) out)
    out
