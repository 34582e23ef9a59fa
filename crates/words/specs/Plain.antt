-- The memory's words in plain order, and the scrambled memory that has given words. Document 01, Blocks on disk: "the 256
-- words in plain order, 32 bytes each". By storage both are one rule, its own inverse: bit B of row R in the one order is bit B
-- of row B xor R in the other, where a row is a word or a chip.
use Rattle.std.specs.Prelude.{List, ℕ, ◌+◌, ◌*◌, ◌/◌, ◌%◌}
use Rattle.bits.specs.Bits.{bit_of, pack}
use Rattle.memory.specs.Access.{word_at}
use Rattle.memory.specs.Table.{table}
use Rattle.memory.specs.Memory.{cell}

-- Number k of the plain order: bit k mod 256 of word k div 256.
abbrev pub plain_bit : List ℕ → ℕ → ℕ
plain_bit memory k = table (cell memory) (k / 256) (k % 256)

-- The 256 words of a scrambled memory in plain order.
unfoldable pub plain_words : List ℕ → List ℕ
plain_words memory = pack (plain_bit memory) 8192

-- Number k of the memory that has a content's words: it is location k mod 256 of chip k div 256, which holds that bit of its word.
abbrev pub scrambled_bit : List ℕ → ℕ → ℕ
scrambled_bit content k = bit_of content (256 * word_at (k % 256) (k / 256) + k % 256)

-- The scrambled memory of the words that a content begins with.
unfoldable pub scrambled : List ℕ → List ℕ
scrambled content = pack (scrambled_bit content) 8192
