-- Laws that connect bytes and bits both ways: lists made of elements, bytes made of bits, lists known by their bits. Assumes nothing.
use mathlib.Core.Path.{◌≡◌, refl, sym, ap, ap₂, ◌∙◌}
use mathlib.Core.List.{List, [], ◌∷◌, ◌++◌, append_assoc, append-nil}
use Prim.Native.Nat.{ℕ, zero, suc, ◌+◌, ◌-◌, ◌*◌, ◌/◌, ◌%◌, ◌^◌, ◌<◌, ◌≤◌}
use native.Mathlib.Nat.{add-zero, add-suc}
use native.Mathlib.Numerals.{add-one}
use native.Mathlib.Decide.{dec_lt}
use native.Mathlib.Omega.{arith}
use lib.ListN.{length, get_or, take, set, length-append, get_or-append, get_or-eq_default}
use lib.Pow.{shl_exact}
use lib.Seq.{get_or_at, take_at, take-suc-set, take_all, ext_get_or}
use borrow.Rule.Slice.PartMut.{put_mid, post_of}
use Rattle.bits.specs.Bits.{digit, bit_of, listed, byte_of, pack}
use Rattle.bits.proofs.Binary.{Bit, bit-lt, digit-bit}
use Rattle.bits.proofs.Digits.{digits_of-lt, digits_of-at, digits_of-ext, digits_are}

-- ---- a list of elements

pub length-listed : (φ : ℕ → ℕ) (n : ℕ) → length (listed φ n) ≡ n
unfolding listed
length-listed φ zero = refl
length-listed φ (suc n) = length-append (listed φ n) (φ n ∷ []) ∙ omega (arith, length-listed φ n)

pub get_d-listed : (φ : ℕ → ℕ) (n i : ℕ) → i < n → get_or (listed φ n) i 0 ≡ φ i
unfolding listed
get_d-listed φ zero i h = absurd (omega arith)
get_d-listed φ (suc n) i h = go (dec_lt i n) (get_d-listed φ n i)
  where
    go : Dec (i < n) → (i < n → get_or (listed φ n) i 0 ≡ φ i) → get_or (listed φ n ++ (φ n ∷ [])) i 0 ≡ φ i
    go (yes l) ih = get_or-append (listed φ n) (φ n ∷ []) 0 i (omega (arith, length-listed φ n)) ∙ ih l
    go (no u) ih =
        let e : n ≡ i = omega arith in
        get_or_at (listed φ n) (φ n) [] 0 i (length-listed φ n ∙ e) ∙ ap φ e

pub listed-ext : (φ ψ : ℕ → ℕ) (n : ℕ) → ((i : ℕ) → i < n → φ i ≡ ψ i) → listed φ n ≡ listed ψ n
unfolding listed
listed-ext φ ψ zero h = refl
listed-ext φ ψ (suc n) h = ap₂ (λ (x : List ℕ) (y : ℕ). x ++ (y ∷ [])) (listed-ext φ ψ n (λ i l. h i (omega arith))) (h n (omega arith))

-- a list that has these elements
pub listed-is : (φ : ℕ → ℕ) (n : ℕ) (l : List ℕ) → length l ≡ n → ((i : ℕ) → i < n → get_or l i 0 ≡ φ i) → l ≡ listed φ n
listed-is φ n l e h =
    ext_get_or 0 l (listed φ n) (e ∙ sym (length-listed φ n)) (λ i q. let k : i < n = omega arith in h i k ∙ sym (get_d-listed φ n i k))

-- bytes listed are bytes
pub listed-bytes : (φ : ℕ → ℕ) (n : ℕ) → ((i : ℕ) → φ i < 256) → (i : ℕ) → get_or (listed φ n) i 0 < 256
listed-bytes φ n b i = go (dec_lt i n)
  where
    go : Dec (i < n) → get_or (listed φ n) i 0 < 256
    go (yes h) = omega (arith, get_d-listed φ n i h, b i)
    go (no u) = omega (arith, get_or-eq_default (listed φ n) 0 {n = i} (omega (arith, length-listed φ n)))

pub listed-append : (φ : ℕ → ℕ) (m n : ℕ) → listed φ m ++ listed (λ i. φ (m + i)) n ≡ listed φ (m + n)
unfolding listed
listed-append φ m zero = append-nil (listed φ m) ∙ sym (ap (listed φ) (add-zero m))
listed-append φ m (suc n) =
    sym (append_assoc (listed φ m) (listed (λ i. φ (m + i)) n) (φ (m + n) ∷ []))
    ∙ ap (λ (l : List ℕ). l ++ (φ (m + n) ∷ [])) (listed-append φ m n)
    ∙ sym (ap (listed φ) (add-suc m n))

-- ---- what a loop that fills a list cites

pub fill_more : (φ : ℕ → ℕ) (out : List ℕ) (i v : ℕ) → i < length out → take i out ≡ listed φ i → v ≡ φ i
    → take (i + 1) (set out i v) ≡ listed φ (i + 1)
unfolding listed
fill_more φ out i v h t e =
    rw add-one (take-suc-set out i v h ∙ ap₂ (λ (x : List ℕ) (y : ℕ). x ++ (y ∷ [])) t e)

pub fill_done : (φ : ℕ → ℕ) (out : List ℕ) (n i : ℕ) → length out ≡ n → i ≡ n → take i out ≡ listed φ i → out ≡ listed φ n
fill_done φ out n i l e t = sym (take_all i out (omega arith)) ∙ t ∙ ap (listed φ) e

-- a part that was lent on, and filled with the elements from a on
pub part-more : (φ : ℕ → ℕ) (out : List ℕ) (a e : ℕ) (ys : List ℕ) → a ≤ e → e ≤ length out → take a out ≡ listed φ a → ys ≡ listed (λ i. φ (a + i)) (e - a)
    → take e (put_mid a (e - a) out ys) ≡ listed φ e
part-more φ out a e ys h g t p =
    let n : a + (e - a) ≡ e = omega arith in
    ap (take e) (sym (append_assoc (take a out) ys (post_of a (e - a) out)))
    ∙ take_at (take a out ++ ys) (post_of a (e - a) out) e
    (length-append (take a out) ys ∙ ap₂ (λ (x y : ℕ). x + y) (ap length t ∙ length-listed φ a) (ap length p ∙ length-listed (λ i. φ (a + i)) (e - a)) ∙ n)
    ∙ ap₂ (λ (x y : List ℕ). x ++ y) t p
    ∙ listed-append φ a (e - a)
    ∙ ap (listed φ) n

-- ---- from bits to bytes

pub bit_of-bit : (l : List ℕ) (k : ℕ) → Bit (bit_of l k)
unfolding bit_of
bit_of-bit l k = digit-bit (get_or l (k / 8) 0) (k % 8)

pub byte_of-lt : (f : ℕ → ℕ) → ((k : ℕ) → Bit (f k)) → (i : ℕ) → byte_of f i < 256
unfolding byte_of
byte_of-lt f bits i = digits_of-lt (λ j. f (8 * i + j)) (λ j. bits (8 * i + j)) 8

-- number k of what f was packed into is f k
pub bit_of-pack : (f : ℕ → ℕ) → ((k : ℕ) → Bit (f k)) → (n k : ℕ) → k < 8 * n → bit_of (pack f n) k ≡ f k
unfolding bit_of byte_of
bit_of-pack f bits n k h =
    let e : 8 * (k / 8) + k % 8 ≡ k = omega arith in
    ap (λ (x : ℕ). digit x (k % 8)) (get_d-listed (byte_of f) n (k / 8) (omega arith))
    ∙ digits_of-at (λ j. f (8 * (k / 8) + j)) (λ j. bits (8 * (k / 8) + j)) 8 (k % 8) (omega arith)
    ∙ ap f e

pub pack-ext : (f g : ℕ → ℕ) (n : ℕ) → ((k : ℕ) → k < 8 * n → f k ≡ g k) → pack f n ≡ pack g n
unfolding byte_of
pack-ext f g n h =
    listed-ext (byte_of f) (byte_of g) n
    (λ i l. digits_of-ext (λ j. f (8 * i + j)) (λ j. g (8 * i + j)) 8 (λ j m. h (8 * i + j) (omega arith)))

-- ---- from bytes to bits

-- number 8 i + j of a list is digit j of byte i
pub bit_of-at : (l : List ℕ) (i j : ℕ) → j < 8 → bit_of l (8 * i + j) ≡ digit (get_or l i 0) j
unfolding bit_of
bit_of-at l i j h =
    let hi : (8 * i + j) / 8 ≡ i = omega arith in
    let lo : (8 * i + j) % 8 ≡ j = omega arith in
    ap₂ (λ (x y : ℕ). digit (get_or l x 0) y) hi lo

-- digit j of byte i, moved to digit s
pub bit_of-moved : (l : List ℕ) (i j s r : ℕ) → j < 8 → s < 8 → r ≡ digit (get_or l i 0) j * 2 ^ s % 256 → r ≡ bit_of l (8 * i + j) * 2 ^ s
bit_of-moved l i j s r h k e =
    e
    ∙ ap (λ (x : ℕ). x * 2 ^ s % 256) (sym (bit_of-at l i j h))
    ∙ shl_exact 1 s 8 (bit-lt (bit_of-bit l (8 * i + j))) (omega arith)

-- a byte is byte i of f when its digits are f's
pub byte_of-is : (f : ℕ → ℕ) (i x : ℕ) → x < 256 → ((j : ℕ) → j < 8 → digit x j ≡ f (8 * i + j)) → x ≡ byte_of f i
unfolding byte_of
byte_of-is f i x hx h = digits_are (λ j. f (8 * i + j)) 8 x hx h

-- a list of bytes is what its own bits pack into
pub pack-bit_of : (l : List ℕ) (n : ℕ) → length l ≡ n → ((i : ℕ) → get_or l i 0 < 256) → pack (bit_of l) n ≡ l
pack-bit_of l n e b =
    sym (listed-is (byte_of (bit_of l)) n l e (λ i h. byte_of-is (bit_of l) i (get_or l i 0) (b i) (λ j hj. sym (bit_of-at l i j hj))))

-- two lists of bytes, of one length and with the same bits, are equal
pub same_bits : (l m : List ℕ) → length l ≡ length m → ((i : ℕ) → get_or l i 0 < 256) → ((i : ℕ) → get_or m i 0 < 256)
    → ((k : ℕ) → k < 8 * length l → bit_of l k ≡ bit_of m k) → l ≡ m
same_bits l m e bl bm h =
    sym (pack-bit_of l (length l) refl bl) ∙ pack-ext (bit_of l) (bit_of m) (length l) h ∙ pack-bit_of m (length l) (sym e) bm

-- a list of bytes that has f's bits is what f packs into
pub pack-is : (f : ℕ → ℕ) (n : ℕ) (l : List ℕ) → length l ≡ n → ((i : ℕ) → get_or l i 0 < 256) → ((k : ℕ) → k < 8 * n → bit_of l k ≡ f k) → l ≡ pack f n
pack-is f n l e b h = sym (pack-bit_of l n e b) ∙ pack-ext (bit_of l) f n h
