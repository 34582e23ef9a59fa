-- Where a content stands in its file. Only contracts of inner functions cite this file.
use Rattle.std.specs.Prelude.{List, ℕ, ◌+◌, ◌*◌, ◌/◌, ◌%◌, length, get_or}
use Rattle.bits.specs.Bits.{listed}
use Rattle.blocks.specs.Block.{block_bytes, payload_bytes}
use Rattle.bits.specs.Steps.{written}

-- The place of number q of a content. "All blocks but the last use 496", and a payload stands behind 12 bytes of its block.
abbrev pub payload_at : ℕ → ℕ
payload_at q = block_bytes * (q / payload_bytes) + (12 + q % payload_bytes)

-- The n bytes from number q on that stand in the payloads of a file.
abbrev pub payloads : List ℕ → ℕ → ℕ → List ℕ
payloads bytes q n = listed (λ k. get_or bytes (payload_at (q + k)) 0) n

-- An output with a part of a content in its payloads, from number q on.
abbrev pub laid : List ℕ → ℕ → List ℕ → List ℕ
laid part q out = written (λ k. payload_at (q + k)) (λ k o. get_or part k 0) out (length part)
