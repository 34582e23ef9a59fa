-- Memories whose every line is the same are the same, byte for byte; bytes stay bytes in a fold of instructions. Assumes nothing.
use mathlib.Core.Path.{◌≡◌, sym, ap, ◌∙◌}
use mathlib.Core.List.{List, [], ◌∷◌}
use Prim.Native.Nat.{ℕ, ◌+◌, ◌*◌, ◌/◌, ◌%◌, ◌<◌}
use native.Mathlib.Omega.{arith}
use lib.Bits.{bit_xor, xor_lt}
use Rattle.bits.specs.Bits.{Bytes, bit_of}
use Rattle.bits.proofs.Xor.{xor-twice}
use Rattle.bits.proofs.ByteLaws.{bytes-ext}
use Rattle.memory.specs.Table.{table}
use Rattle.memory.specs.Memory.{cell}
use Rattle.judge.specs.declared.Instruction.{Instruction}
use Rattle.module.specs.Act.{State, acted}
use Rattle.module.proofs.Good.{Good, acted-good}
use Rattle.builders.specs.Word.{folded}

pub folded-good : (l : List Instruction) (items : List ℕ) (s : State) → Good s → Good (folded (λ i. acted i items) l s)
unfolding folded
folded-good [] items s g = g
folded-good (i ∷ l) items s g = folded-good l items (acted i items s) (acted-good i items s g)

-- ---- the same lines

-- every place of the memory is a bit of a word
place : (mem : List ℕ) (k : ℕ) → k < 65536 → bit_of mem k ≡ table (cell mem) (bit_xor (k % 256) (k / 256)) (k % 256)
place mem k h =
    let e : k ≡ 256 * (k / 256) + k % 256 = omega arith in
    ap (bit_of mem) e ∙ ap (λ (c : ℕ). cell mem c (k % 256)) (sym (xor-twice (k % 256) (k / 256)))

pub memory-ext : (mem mem' : List ℕ) → Bytes mem 8192 → Bytes mem' 8192
    → ((w b : ℕ) → w < 256 → b < 256 → table (cell mem) w b ≡ table (cell mem') w b) → mem ≡ mem'
memory-ext mem mem' a b h =
    bytes-ext mem mem' 8192 a b
    (λ k l. place mem k l
    ∙ h (bit_xor (k % 256) (k / 256)) (k % 256) (xor_lt 8 (k % 256) (k / 256) (omega arith) (omega arith)) (omega arith)
    ∙ sym (place mem' k l))
