-- The memory of 256 chips of 256 locations as 8,192 lent bytes: what a load gives and what a store leaves. Document 01, Memory and Instructions.
use Rattle.std.specs.Prelude.{List, ℕ, ◌+◌, ◌*◌, ◌/◌, ◌%◌}
use Rattle.bits.specs.Bits.{bit_of, pack}
use Rattle.memory.specs.Access.{stored_bit}

-- "Chip C has bytes 32C to 32C+31"; as in any item, location B is bit B mod 8 of byte B div 8 of them.
abbrev pub cell : List ℕ → ℕ → ℕ → ℕ
cell mem c b = bit_of mem (256 * c + b)

-- The memory after a store under mode m and address g of the bit f p of each line p whose mask bit is 1.
unfoldable pub stored : List ℕ → ℕ → ℕ → (ℕ → ℕ) → (ℕ → ℕ) → List ℕ
stored mem m g mask f = pack (λ k. stored_bit (cell mem) m g mask f (k / 256) (k % 256)) 8192

-- The mask of a store that is not masked.
abbrev pub every : ℕ → ℕ
every p = 1
