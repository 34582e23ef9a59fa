-- Laws that connect an item, its lines and its four quarters. Assumes nothing.
use mathlib.Core.Path.{◌≡◌, refl, sym, ap, ap₂, ◌∙◌}
use mathlib.Core.List.{List, [], ◌∷◌}
use Prim.Native.Nat.{ℕ, zero, suc, ◌+◌, ◌*◌, ◌/◌, ◌%◌, ◌^◌, ◌<◌, ◌≤◌}
use native.Mathlib.Nat.{div-one, add-zero, add-suc, add_comm, mul_assoc, add_assoc, add-mul, pow-suc}
use native.Mathlib.Omega.{arith}
use lib.Bits.{bit_or, or_shifted_r}
use lib.ListN.{length, get_or}
use lib.Pow.{pow-add, shl_exact}
use mir.Syntax.{w64}
use Rattle.std.specs.Prelude.{slice_index}
use Rattle.std.specs.Int.{byte_at, byte_worth, bytes_low_first, sum_through, from_le_bytes, to_le_bytes}
use Rattle.bits.specs.Bits.{digit, bit_of, listed, digits_of, byte_of}
use Rattle.bits.specs.Quarters.{quarter_of, quarters, line_at}
use Rattle.bits.proofs.Binary.{Bit, digit-bit}
use Rattle.bits.proofs.Digits.{digit-mod, digit-down, digits_of-lt, digits_of-at, digits_of-ext, digits_are}
use Rattle.bits.proofs.Items.{get_d-listed, listed-ext, listed-is, bit_of-bit, byte_of-is, bit_of-at}

-- ---- numbers of an item by its quarters

pub line_at-bit : (q : List ℕ) (k : ℕ) → Bit (line_at q k)
unfolding line_at
line_at-bit q k = digit-bit (get_or q (k / 64) 0) (k % 64)

-- number 64 i + j is digit j of quarter i
pub line_at-digit : (q : List ℕ) (i j : ℕ) → j < 64 → line_at q (64 * i + j) ≡ digit (get_or q i 0) j
unfolding line_at
line_at-digit q i j h =
    let hi : (64 * i + j) / 64 ≡ i = omega arith in
    let lo : (64 * i + j) % 64 ≡ j = omega arith in
    ap₂ (λ (x y : ℕ). digit (get_or q x 0) y) hi lo

-- a number of 64 digits is quarter i of f when its digits are f's
pub quarter_of-is : (f : ℕ → ℕ) (i x : ℕ) → x < 2 ^ 64 → ((j : ℕ) → j < 64 → digit x j ≡ f (64 * i + j)) → x ≡ quarter_of f i
unfolding quarter_of
quarter_of-is f i x b h = digits_are (λ j. f (64 * i + j)) 64 x b h

-- number k of the quarters of f is f k
pub line_at-quarters : (f : ℕ → ℕ) → ((k : ℕ) → Bit (f k)) → (k : ℕ) → k < 256 → line_at (quarters f) k ≡ f k
unfolding line_at quarter_of
line_at-quarters f bits k h =
    let e : 64 * (k / 64) + k % 64 ≡ k = omega arith in
    ap (λ (x : ℕ). digit x (k % 64)) (get_d-listed (quarter_of f) 4 (k / 64) (omega arith))
    ∙ digits_of-at (λ j. f (64 * (k / 64) + j)) (λ j. bits (64 * (k / 64) + j)) 64 (k % 64) (omega arith)
    ∙ ap f e

pub quarters-ext : (f g : ℕ → ℕ) → ((k : ℕ) → k < 256 → f k ≡ g k) → quarters f ≡ quarters g
unfolding quarter_of
quarters-ext f g h =
    listed-ext (quarter_of f) (quarter_of g) 4
    (λ i l. digits_of-ext (λ j. f (64 * i + j)) (λ j. g (64 * i + j)) 64 (λ j m. h (64 * i + j) (omega arith)))

-- four numbers of 64 digits are the quarters of their own lines
pub quarters-line_at : (q : List ℕ) → length q ≡ 4 → ((i : ℕ) → get_or q i 0 < 2 ^ 64) → q ≡ quarters (line_at q)
quarters-line_at q e b =
    listed-is (quarter_of (line_at q)) 4 q e (λ i h. quarter_of-is (line_at q) i (get_or q i 0) (b i) (λ j l. sym (line_at-digit q i j l)))

-- four elements, one by one
pub four : (φ : ℕ → ℕ) (a b c d : ℕ) → a ≡ φ 0 → b ≡ φ 1 → c ≡ φ 2 → d ≡ φ 3 → a ∷ b ∷ c ∷ d ∷ [] ≡ listed φ 4
unfolding listed
four φ a b c d ea eb ec ed = ap₂ (λ (x y : ℕ). x ∷ y ∷ c ∷ d ∷ []) ea eb ∙ ap₂ (λ (x y : ℕ). φ 0 ∷ φ 1 ∷ x ∷ y ∷ []) ec ed

-- ---- a quarter from its bytes

-- the digits from a on stand above those below a
digits_of-append : (f : ℕ → ℕ) (a b : ℕ) → digits_of f (a + b) ≡ digits_of (λ j. f (a + j)) b * 2 ^ a + digits_of f a
unfolding digits_of
digits_of-append f a zero = ap (digits_of f) (add-zero a) ∙ omega arith
digits_of-append f a (suc b) =
    let more : ℕ = digits_of (λ j. f (a + j)) b in
    let e : a + b ≡ b + a = omega arith in
    ap (digits_of f) (add-suc a b)
    ∙ ap₂ (λ (x y : ℕ). f (a + b) * x + y) (ap (λ (x : ℕ). 2 ^ x) e ∙ pow-add 2 b a) (digits_of-append f a b)
    ∙ sym (add_assoc (f (a + b) * (2 ^ b * 2 ^ a)) (more * 2 ^ a) (digits_of f a))
    ∙ ap (λ (x : ℕ). x + digits_of f a)
    (ap (λ (x : ℕ). x + more * 2 ^ a) (sym (mul_assoc (f (a + b)) (2 ^ b) (2 ^ a))) ∙ sym (add-mul (f (a + b) * 2 ^ b) more (2 ^ a)))

-- one byte more, put in by "or"
pub or_byte : (l : List ℕ) (i n x q : ℕ) → n < 8 → x < 256 → x ≡ get_or l (8 * i + n) 0 → q ≡ digits_of (λ j. bit_of l (64 * i + j)) (8 * n)
    → bit_or q (x * 2 ^ (8 * n) % 2 ^ 64) ≡ digits_of (λ j. bit_of l (64 * i + j)) (8 * (n + 1))
or_byte l i n x q h b ex eq =
    let f : ℕ → ℕ = λ j. bit_of l (64 * i + j) in
    let bits : (j : ℕ) → Bit (f j) = λ j. bit_of-bit l (64 * i + j) in
    let e : 8 * n + 8 ≡ 8 * (n + 1) = omega arith in
    let byte : x ≡ digits_of (λ j. f (8 * n + j)) 8 =
    digits_are (λ j. f (8 * n + j)) 8 x b
    (λ j k.
    let p : 8 * (8 * i + n) + j ≡ 64 * i + (8 * n + j) = omega arith in
    ap (λ (y : ℕ). digit y j) ex ∙ sym (bit_of-at l (8 * i + n) j k) ∙ ap (bit_of l) p) in
    ap₂ bit_or eq (shl_exact 8 (8 * n) 64 b (omega arith))
    ∙ or_shifted_r x (8 * n) (digits_of f (8 * n)) (digits_of-lt f bits (8 * n))
    ∙ ap (λ (y : ℕ). y * 2 ^ (8 * n) + digits_of f (8 * n)) byte
    ∙ sym (digits_of-append f (8 * n) 8)
    ∙ ap (digits_of f) e

bytes_worth : (n : ℕ) → 256 ^ n ≡ 2 ^ (8 * n)
bytes_worth zero = refl
bytes_worth (suc n) =
    let e : 8 * n + 8 ≡ 8 * suc n = omega arith in
    pow-suc 256 n ∙ ap (λ (x : ℕ). x * 256) (bytes_worth n) ∙ sym (pow-add 2 (8 * n) 8) ∙ ap (λ (x : ℕ). 2 ^ x) e

-- bytes by what each is worth
bytes-sum : (f b : ℕ → ℕ) (k : ℕ) → ((n : ℕ) → n ≤ k → b n ≡ digits_of (λ j. f (8 * n + j)) 8) → sum_through (λ n. byte_worth n (b n)) k ≡ digits_of f (8 * suc k)
bytes-sum f b zero h = h 0 (omega arith) ∙ digits_of-ext (λ j. f (8 * 0 + j)) f 8 (λ j l. let e : 8 * 0 + j ≡ j = omega arith in ap f e)
bytes-sum f b (suc k) h =
    let n : ℕ = suc k in
    let e : 8 * n + 8 ≡ 8 * suc n = omega arith in
    ap₂ (λ (x y : ℕ). x + y) (bytes-sum f b k (λ m l. h m (omega arith))) (ap₂ (λ (x y : ℕ). x * y) (h n (omega arith)) (bytes_worth n))
    ∙ add_comm (digits_of f (8 * n)) (digits_of (λ j. f (8 * n + j)) 8 * 2 ^ (8 * n))
    ∙ sym (digits_of-append f (8 * n) 8)
    ∙ ap (digits_of f) e

-- quarter i is the number of its eight bytes, the lowest first
pub quarter-bytes : (l part : List ℕ) (i : ℕ) → ((k : ℕ) → get_or l k 0 < 256) → ((n : ℕ) → n < 8 → slice_index part n ≡ get_or l (8 * i + n) 0)
    → from_le_bytes w64 part ≡ quarter_of (bit_of l) i
unfolding quarter_of
quarter-bytes l part i b h =
    bytes-sum (λ j. bit_of l (64 * i + j)) (slice_index part) 7
    (λ n q.
    h n (omega arith)
    ∙ digits_are (λ j. bit_of l (64 * i + (8 * n + j))) 8 (get_or l (8 * i + n) 0) (b (8 * i + n))
    (λ j k.
    let p : 8 * (8 * i + n) + j ≡ 64 * i + (8 * n + j) = omega arith in
    sym (bit_of-at l (8 * i + n) j k) ∙ ap (bit_of l) p))

-- ---- and its bytes from a quarter

pub byte-is : (q : List ℕ) (i r : ℕ) → r < 256 → r ≡ get_or q (i / 8) 0 / 2 ^ (8 * (i % 8)) % 256 → r ≡ byte_of (line_at q) i
byte-is q i r b e =
    byte_of-is (line_at q) i r b
    (λ j h.
    let p : 64 * (i / 8) + (j + 8 * (i % 8)) ≡ 8 * i + j = omega arith in
    ap (λ (y : ℕ). digit y j) e
    ∙ digit-mod (get_or q (i / 8) 0 / 2 ^ (8 * (i % 8))) 8 j h
    ∙ digit-down (get_or q (i / 8) 0) (8 * (i % 8)) j
    ∙ sym (line_at-digit q (i / 8) (j + 8 * (i % 8)) (omega arith))
    ∙ ap (line_at q) p)

-- byte n of a number, by the power of two
byte_at-is : (x n : ℕ) → byte_at n x ≡ x / 2 ^ (8 * n) % 256
byte_at-is x zero = ap (λ (y : ℕ). y % 256) (sym (div-one x))
byte_at-is x (suc n) = ap (λ (y : ℕ). x / y % 256) (bytes_worth (suc n))

low_first-at : (s k x i : ℕ) → i < k → get_or (bytes_low_first s k x) i 0 ≡ byte_at (s + i) x
low_first-at s zero x i h = absurd (omega arith)
low_first-at s (suc k) x zero h = ap (λ (y : ℕ). byte_at y x) (sym (add-zero s))
low_first-at s (suc k) x (suc i) h =
    let e : suc s + i ≡ s + suc i = omega arith in
    low_first-at (suc s) k x i (omega arith) ∙ ap (λ (y : ℕ). byte_at y x) e

-- the eight bytes of quarter i, the lowest first
pub bytes-out : (q : List ℕ) (i : ℕ) → to_le_bytes w64 (get_or q i 0) ≡ listed (λ n. byte_of (line_at q) (8 * i + n)) 8
bytes-out q i =
    let x = get_or q i 0 in
    listed-is (λ n. byte_of (line_at q) (8 * i + n)) 8 (bytes_low_first 0 8 x) refl
    (λ n h.
    let hi : (8 * i + n) / 8 ≡ i = omega arith in
    let lo : (8 * i + n) % 8 ≡ n = omega arith in
    let none : 0 + n ≡ n = omega arith in
    let byte : byte_at n x ≡ x / 2 ^ (8 * n) % 256 = byte_at-is x n in
    low_first-at 0 8 x n h
    ∙ ap (λ (y : ℕ). byte_at y x) none
    ∙ byte-is q (8 * i + n) (byte_at n x) (omega arith) (byte ∙ sym (ap₂ (λ (y z : ℕ). get_or q y 0 / 2 ^ (8 * z) % 256) hi lo)))
