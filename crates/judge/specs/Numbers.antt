-- What the tables of numbers say, in facts, where the page of demand 1 says when each number is given: no contract cites this file. Document 01, Numbers given back.
use Rattle.std.specs.Prelude.{◌≡◌, Bool, true, List, ℕ, ◌+◌, ◌*◌, ◌/◌, ◌<◌, ◌≤◌, length}
use Rattle.bits.specs.Rows.{Row, NoRow, FirstRow}
use Rattle.bits.specs.Search.{count}
use Rattle.registers.specs.declared.Modes.{Modes}
use Rattle.judge.specs.declared.Instruction.{Instruction}
use Rattle.judge.specs.declared.Lengths.{Lengths}
use Rattle.judge.specs.Answers.{Answer}
use Rattle.judge.specs.ByteRows.{NoByteRow, FirstByteRow}
use Rattle.judge.specs.Instructions.{instruction_at, takes, gives}
use Rattle.judge.specs.Judge.{rows_at}

-- Number n, at place k, for byte b.
abbrev pub Gives : Answer → ℕ → ℕ → ℕ → Type 0
Gives a n k b = (a.number ≡ n) × (a.place ≡ k) × (a.byte ≡ b)

-- No row holds at any instruction before k, in a list that starts with these mode registers.
abbrev pub Formed : Modes → List ℕ → ℕ → Type 0
Formed m list k = (j : ℕ) → j < k → NoByteRow (rows_at m list j)

-- Instruction j has its item, or its room, in a buffer of `have` bytes: 32 beyond what those before it used.
abbrev pub Has : (Instruction → Bool) → List ℕ → ℕ → ℕ → Type 0
Has wants list have j = wants (instruction_at list j) ≡ true → 32 * count (λ i. wants (instruction_at list i)) j + 32 ≤ have

-- Each instruction before k has its.
abbrev pub Served : (Instruction → Bool) → List ℕ → ℕ → ℕ → Type 0
Served wants list have k = (j : ℕ) → j < k → Has wants list have j

-- Instruction k wants one, and it is not there.
abbrev pub Lacks : (Instruction → Bool) → List ℕ → ℕ → ℕ → Type 0
Lacks wants list have k = (wants (instruction_at list k) ≡ true) × (have < 32 * count (λ i. wants (instruction_at list i)) k + 32)

-- When a list is refused with number n at place k for byte b, where `rows` judge what is lent. "Order: 1 to 4 (place 0); then each instruction in turn ..; then 12; then 13", with 15 after 4 (document 02, Seven). The byte "is 0 .. for refusals without an instruction and for 12 and 13".
pub data Refused (rows : List Row) (l : Lengths) (m : Modes) (list : List ℕ) : ℕ → ℕ → ℕ → Type 0 where
  -- row n of what is lent is the first that holds
  by-lent : (n : ℕ) → FirstRow rows n → Refused rows l m list n 0 0
  -- nothing is wrong before instruction k, row n of its table is the first that holds, and byte b the first that is wrong by it
  by-instruction : (n k b : ℕ) → NoRow rows → k < length list / 8 → Formed m list k
      → FirstByteRow (rows_at m list k) n b → Refused rows l m list n k b
  -- every instruction stands, and k is the first that lacks its item
  by-item : (k : ℕ) → NoRow rows → Formed m list (length list / 8) → k < length list / 8
      → Served takes list l.items k → Lacks takes list l.items k → Refused rows l m list 12 k 0
  -- every instruction stands and has its item, and k is the first that lacks its room
  by-room : (k : ℕ) → NoRow rows → Formed m list (length list / 8) → Served takes list l.items (length list / 8) → k < length list / 8
      → Served gives list l.out k → Lacks gives list l.out k → Refused rows l m list 13 k 0

-- When it is not: no row holds anywhere, and every instruction has its item and its room.
pub record Unrefused (rows : List Row) (l : Lengths) (m : Modes) (list : List ℕ) : Type 0 where
  pub lent : NoRow rows
  pub formed : Formed m list (length list / 8)
  pub items : Served takes list l.items (length list / 8)
  pub room : Served gives list l.out (length list / 8)
