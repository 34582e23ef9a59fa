-- A shift quarter by quarter, as the code does it. Only contracts of inner functions cite this file: no promise to a user rests on it.
use Rattle.std.specs.Prelude.{cond, ℕ, ◌%◌, ◌^◌, ltb}
use Rattle.bits.specs.Bits.{digits_of}

-- 2^e places, at most the 64 of a quarter.
unfoldable pub reach : ℕ → ℕ
reach e = cond (ltb e 6) (2 ^ e) 64

-- The digits of a quarter that get what wraps round, in a shift of 2^m modulo 2^p.
unfoldable pub mask : ℕ → ℕ → ℕ
mask p m = digits_of (λ j. cond (ltb (j % reach p) (reach m)) 1 0) 64
