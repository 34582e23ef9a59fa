-- The two sums of a block. Document 01, Blocks on disk.
use Rattle.std.specs.Prelude.{List, ℕ, zero, suc, ◌+◌, ◌-◌, ◌*◌, ◌%◌, get_or}

-- Byte b(i).
abbrev pub at : List ℕ → ℕ → ℕ
at b i = get_or b i 0

-- The sum of f 0 to f (n - 1).
unfoldable pub total : (ℕ → ℕ) → ℕ → ℕ
total f zero = 0
total f (suc n) = total f n + f n

-- "s1 is the sum of bytes b(0)..b(507) modulo 65,535."
unfoldable pub s1 : List ℕ → ℕ
s1 b = total (λ i. at b i) 508 % 65535

-- "s2 the sum of (508 − i) × b(i), same modulus."
unfoldable pub s2 : List ℕ → ℕ
s2 b = total (λ i. (508 - i) * at b i) 508 % 65535
