-- Lists of bytes, digits of numbers, bits of byte lists, and items. Document 01, Memory: "In any 32-byte item, number k is bit k mod 8 (0 least significant) of byte k div 8."
use Rattle.std.specs.Prelude.{◌≡◌, List, [], ◌∷◌, ◌++◌, ℕ, zero, suc, ◌+◌, ◌*◌, ◌/◌, ◌%◌, ◌^◌, ◌<◌, length, get_or}
use Rattle.std.specs.Int.Bits.{bit_xor}

-- A list of n bytes.
pub record Bytes (l : List ℕ) (n : ℕ) : Type 0 where
  pub size : length l ≡ n
  pub low : (i : ℕ) → get_or l i 0 < 256

-- Digit j of a number in binary, 0 the least significant.
abbrev pub digit : ℕ → ℕ → ℕ
digit x j = x / 2 ^ j % 2

-- Number k of a list of bytes: bit k mod 8 of byte k div 8.
unfoldable pub bit_of : List ℕ → ℕ → ℕ
bit_of l k = digit (get_or l (k / 8) 0) (k % 8)

-- The n elements φ 0, φ 1 and so on.
unfoldable pub listed : (ℕ → ℕ) → ℕ → List ℕ
listed φ zero = []
listed φ (suc n) = listed φ n ++ (φ n ∷ [])

-- The number whose digit j is f j, for each j below n.
unfoldable pub digits_of : (ℕ → ℕ) → ℕ → ℕ
digits_of f zero = 0
digits_of f (suc n) = f n * 2 ^ n + digits_of f n

-- Byte i of the bytes whose number k is f k.
unfoldable pub byte_of : (ℕ → ℕ) → ℕ → ℕ
byte_of f i = digits_of (λ j. f (8 * i + j)) 8

-- The n bytes whose number k is f k.
abbrev pub pack : (ℕ → ℕ) → ℕ → List ℕ
pack f n = listed (byte_of f) n

-- The item, 32 bytes, whose number k is f k.
abbrev pub item : (ℕ → ℕ) → List ℕ
item f = pack f 32

-- Number k of a list flipped by f. Document 01, Network: "Flip F moves line I to I xor F", so line k has what line k xor f had.
abbrev pub flipped : List ℕ → ℕ → ℕ → ℕ
flipped l f k = bit_of l (bit_xor k f)

-- The two bytes of a number below 65,536. Document 01, Blocks on disk: "two bytes low first"; document 02, Four: "low byte first".
abbrev pub two : ℕ → List ℕ
two x = x % 256 ∷ x / 256 ∷ []
