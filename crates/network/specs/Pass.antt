-- The arithmetic form of a pass. Document 01, Network: "A pass first flips, then shifts."
use Rattle.std.specs.Prelude.{List, ℕ, ◌+◌, ◌-◌, ◌*◌, ◌/◌, ◌%◌, ◌^◌}
use Rattle.std.specs.Int.Bits.{bit_xor}
use Rattle.bits.specs.Bits.{bit_of}

-- ---- where a line goes

-- "A shift of 2^m modulo 2^p keeps I div 2^p and moves the rest to (rest + 2^m) mod 2^p." Modulo 2^0 nothing moves: that is "none".
unfoldable pub shifted : ℕ → ℕ → ℕ → ℕ
shifted p m i = i / 2 ^ p * 2 ^ p + (i % 2 ^ p + 2 ^ m) % 2 ^ p

-- "Flip F moves line I to I xor F", and the shift comes after it.
unfoldable pub moved : ℕ → ℕ → ℕ → ℕ → ℕ
moved f p m i = shifted p m (bit_xor i f)

-- ---- where a line comes from

-- The line that a shift moves to line k.
unfoldable pub unshifted : ℕ → ℕ → ℕ → ℕ
unshifted p m k = k / 2 ^ p * 2 ^ p + (k % 2 ^ p + (2 ^ p - 2 ^ m)) % 2 ^ p

-- The line that a pass moves to line k.
unfoldable pub source : ℕ → ℕ → ℕ → ℕ → ℕ
source f p m k = bit_xor (unshifted p m k) f

-- Line k of a list after a pass.
unfoldable pub passed : List ℕ → ℕ → ℕ → ℕ → ℕ → ℕ
passed l f p m k = bit_of l (source f p m k)
