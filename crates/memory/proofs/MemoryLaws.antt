-- Laws of a stored memory: its length and its bits. Assumes nothing.
use mathlib.Core.Path.{◌≡◌, ap₂, ◌∙◌}
use mathlib.Core.Bool.{◌&&◌}
use mathlib.Core.List.{List}
use Prim.Native.Nat.{ℕ, ◌+◌, ◌*◌, ◌/◌, ◌%◌, ◌<◌}
use native.Mathlib.Omega.{arith}
use lib.Dec.{eqb}
use lib.ListN.{length}
use Rattle.bits.specs.Bits.{byte_of}
use Rattle.bits.proofs.Binary.{Bit, cond-bit}
use Rattle.bits.proofs.Items.{length-listed, bit_of-bit, bit_of-pack}
use Rattle.memory.specs.Access.{local_of, line_of, stored_bit}
use Rattle.memory.specs.Memory.{cell, stored}

-- ---- the stored memory, by its bits

module _ (mem : List ℕ) (m g : ℕ) (mask f : ℕ → ℕ) where
  pub length-stored : length (stored mem m g mask f) ≡ 8192
  unfolding stored
  length-stored = length-listed (byte_of (λ k. stored_bit (cell mem) m g mask f (k / 256) (k % 256))) 8192

  pub stored-bit : ((p : ℕ) → Bit (f p)) → (c b : ℕ) → Bit (stored_bit (cell mem) m g mask f c b)
  stored-bit bits c b = cond-bit (eqb b (local_of m g c) && eqb (mask (line_of g c)) 1) (bits (line_of g c)) (bit_of-bit mem (256 * c + b))

  pub cell-stored : ((p : ℕ) → Bit (f p)) → (c b : ℕ) → c < 256 → b < 256
      → cell (stored mem m g mask f) c b ≡ stored_bit (cell mem) m g mask f c b
  unfolding stored
  cell-stored bits c b hc hb =
      let hi : (256 * c + b) / 256 ≡ c = omega arith in
      let lo : (256 * c + b) % 256 ≡ b = omega arith in
      bit_of-pack (λ k. stored_bit (cell mem) m g mask f (k / 256) (k % 256)) (λ k. stored-bit bits (k / 256) (k % 256)) 8192 (256 * c + b) (omega arith)
      ∙ ap₂ (stored_bit (cell mem) m g mask f) hi lo
