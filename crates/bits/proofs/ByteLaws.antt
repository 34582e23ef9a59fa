-- Lists of n bytes: known by their bits, packed, cut and put together. Assumes nothing.
use mathlib.Core.Path.{◌≡◌, refl, sym, ap, ap₂, ◌∙◌}
use mathlib.Core.List.{List, ◌++◌}
use Prim.Native.Nat.{ℕ, ◌+◌, ◌-◌, ◌*◌, ◌<◌, ◌≤◌}
use native.Mathlib.Decide.{dec_lt}
use native.Mathlib.Omega.{arith}
use lib.ListN.{length, get_or, take, drop, replicate, length-append, length-take, length-drop, get_or-append, get_or-eq_default}
use lib.Seq.{get_or-append-add, get_or-take, get_or-drop}
use Rattle.bits.specs.Bits.{Bytes, bit_of, listed, byte_of, digits_of, pack, item}
use Rattle.bits.proofs.Binary.{Bit, off}
use Rattle.bits.proofs.Items.{length-listed, listed-bytes, bit_of-pack, byte_of-lt, same_bits}

pub bytes-ext : (l r : List ℕ) (n : ℕ) → Bytes l n → Bytes r n → ((k : ℕ) → k < 8 * n → bit_of l k ≡ bit_of r k) → l ≡ r
bytes-ext l r n a b h = same_bits l r (a.size ∙ sym b.size) a.low b.low (λ k q. h k (omega (arith, a.size)))

-- below the length the bytes, and 0 from there on
pub bytes-of : (l : List ℕ) (n : ℕ) → length l ≡ n → ((i : ℕ) → i < n → get_or l i 0 < 256) → Bytes l n
bytes-of l n size low = record { size = size; low = λ i. go i (dec_lt i n) }
  where
    go : (i : ℕ) → Dec (i < n) → get_or l i 0 < 256
    go i (yes h) = low i h
    go i (no u) = rw (get_or-eq_default l 0 {n = i} (omega arith)) (omega arith)

pub pack-bytes : (f : ℕ → ℕ) → ((k : ℕ) → Bit (f k)) → (n : ℕ) → Bytes (pack f n) n
pack-bytes f bits n = record { size = length-listed (byte_of f) n; low = listed-bytes (byte_of f) n (byte_of-lt f bits) }

zeros : item (λ k. 0) ≡ replicate 32 0
unfolding listed byte_of digits_of
zeros = refl

-- an item that is 0 on every line
pub zero-item : (l : List ℕ) → Bytes l 32 → ((k : ℕ) → k < 256 → bit_of l k ≡ 0) → l ≡ replicate 32 0
zero-item l a h =
    bytes-ext l (item (λ k. 0)) 32 a (pack-bytes (λ k. 0) (λ k. off) 32) (λ k q. h k q ∙ sym (bit_of-pack (λ k. 0) (λ k. off) 32 k q)) ∙ zeros

pub part_bytes : (l : List ℕ) (m k n : ℕ) → k + n ≤ m → Bytes l m → Bytes (take n (drop k l)) n
part_bytes l m k n h a =
    bytes-of (take n (drop k l)) n (simp (length-take, length-drop) (omega (arith, a.size)))
    (λ i q. rw (get_or-take n (drop k l) i 0 q, get_or-drop k l i 0) (a.low (k + i)))

pub append-bytes : (l r : List ℕ) (m n : ℕ) → Bytes l m → Bytes r n → Bytes (l ++ r) (m + n)
append-bytes l r m n a b = record { size = length-append l r ∙ ap₂ (λ (x y : ℕ). x + y) a.size b.size; low = λ i. go i (dec_lt i (length l)) }
  where
    go : (i : ℕ) → Dec (i < length l) → get_or (l ++ r) i 0 < 256
    go i (yes h) = rw (get_or-append l r 0 i h) (a.low i)
    go i (no u) =
        let e : i ≡ length l + (i - length l) = omega arith in
        let q : get_or (l ++ r) i 0 ≡ get_or r (i - length l) 0 = ap (λ (z : ℕ). get_or (l ++ r) z 0) e ∙ get_or-append-add l r (i - length l) 0 in
        rw q (b.low (i - length l))
