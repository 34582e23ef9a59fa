-- What a builder leaves: its answer, and its buffers afterwards; of a list alone, and of a list with its items. Document 01, Sum and difference lists; document 02, One and Five.
use Rattle.std.specs.Prelude.{cond, List, ◌++◌, ℕ, eqb, length, drop}

-- A buffer with these bytes at its front, and behind them as it was.
abbrev pub fronted : List ℕ → List ℕ → List ℕ
fronted bytes buffer = bytes ++ drop (length bytes) buffer

-- ---- a list

-- 0 and the count of the bytes written, or the number of a refusal and 0.
pub record Built : Type 0 where
  pub number : ℕ
  pub count : ℕ

-- The answer, and the list's buffer afterwards.
pub record BuiltLeft : Type 0 where
  pub answer : Built
  pub list : List ℕ

-- Refused with a number, "nothing is written and the count is 0. Else only those first bytes are, and their count is given."
abbrev pub built_with : ℕ → List ℕ → List ℕ → BuiltLeft
built_with number bytes buffer =
    cond (eqb number 0)
    (record { answer = record { number = 0; count = length bytes }; list = fronted bytes buffer })
    (record { answer = record { number = number; count = 0 }; list = buffer })

-- ---- a list with its items

-- 0 and the counts of the bytes written to each, or the number of a refusal and zeros.
pub record BuiltTwo : Type 0 where
  pub number : ℕ
  pub list : ℕ
  pub items : ℕ

-- The answer, and both buffers afterwards.
pub record BuiltTwoLeft : Type 0 where
  pub answer : BuiltTwo
  pub list : List ℕ
  pub items : List ℕ

-- The same of two buffers: a refusal writes neither, and both counts are 0. The bytes of the list and of the items, and then their buffers.
unfoldable pub built_two : ℕ → List ℕ → List ℕ → List ℕ → List ℕ → BuiltTwoLeft
built_two number bytes item_bytes list items =
    cond (eqb number 0)
    (record {
      answer = record { number = 0; list = length bytes; items = length item_bytes };
      list = fronted bytes list;
      items = fronted item_bytes items;
    })
    (record { answer = record { number = number; list = 0; items = 0 }; list = list; items = items })
