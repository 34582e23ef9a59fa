-- Lists of instructions and of items as bytes, and the instructions that lists on fields are made of. Document 01, Instructions.
use Rattle.std.specs.Prelude.{List, [], ◌∷◌, ◌++◌, ℕ, zero, suc, ◌+◌, ◌*◌}
use Rattle.bits.specs.Bits.{item}
use Rattle.judge.specs.declared.Instruction.{Instruction}
use Rattle.judge.specs.Instructions.{instruction_at}

-- ---- instructions

-- "Instructions, 8 bytes each", in their order.
abbrev pub instruction : ℕ → ℕ → ℕ → ℕ → ℕ → ℕ → ℕ → ℕ → Instruction
instruction k s t m g f c l = record { kind = k; source = s; tag = t; mode = m; addr = g; flip = f; code = c; logic = l }

-- Logic with byte 7 t: source a register, so that no memory is touched; or bit g of every word. "Slices have mode 0, given; no flip or shift."
abbrev pub logic_from : ℕ → ℕ → Instruction
logic_from s t = instruction 0 s 0 0 0 0 0 t

abbrev pub logic_at : ℕ → ℕ → Instruction
logic_at g t = instruction 0 0 1 0 g 0 0 t

-- Y takes the next item.
abbrev pub take_y : Instruction
take_y = logic_from 4 (16 * 1 + 10)

-- The store of a register to bit g of every word.
abbrev pub store_at : ℕ → ℕ → Instruction
store_at s g = instruction 2 s 1 0 g 0 0 0

-- ---- lists

abbrev pub bytes_of : Instruction → List ℕ
bytes_of i = i.kind ∷ i.source ∷ i.tag ∷ i.mode ∷ i.addr ∷ i.flip ∷ i.code ∷ i.logic ∷ []

-- The bytes of a list of instructions.
unfoldable pub encoded : List Instruction → List ℕ
encoded [] = []
encoded (i ∷ l) = bytes_of i ++ encoded l

-- What a list does for 0, then for 1, and so on to n - 1: bits of a field, or rounds of a bit; or the bytes of items 0 to n - 1.
unfoldable pub rounds : {A : Type 0} → (ℕ → List A) → ℕ → List A
rounds g zero = []
rounds g (suc n) = rounds g n ++ g n

-- The first n instructions of a list's bytes.
unfoldable pub decoded : List ℕ → ℕ → List Instruction
decoded l zero = []
decoded l (suc n) = decoded l n ++ (instruction_at l n ∷ [])

-- Each instruction of a list has P.
pub data Each (P : Instruction → Type 0) : List Instruction → Type 0 where
  none : Each P []
  more : {i : Instruction} {l : List Instruction} → P i → Each P l → Each P (i ∷ l)

-- ---- items

-- Items 0 to n - 1 one behind the other, where item k has g k p at line p.
abbrev pub items_of : (ℕ → ℕ → ℕ) → ℕ → List ℕ
items_of g = rounds (λ k. item (g k))
