-- Eight chips at a time: the operations act on the three low digits of a number and on the rest apart. Assumes nothing.
use mathlib.Core.Path.{◌≡◌, sym, ap, ap₂, ◌∙◌}
use mathlib.Core.List.{List}
use Prim.Native.Nat.{ℕ, ◌+◌, ◌-◌, ◌*◌, ◌/◌, ◌%◌, ◌^◌, ◌<◌, ◌≤◌}
use native.Mathlib.Nat.{lt_of_le_of_lt, mul_comm, mod-eq_of_lt}
use native.Mathlib.Decide.{ℕ_discrete}
use native.Mathlib.Omega.{arith}
use lib.Bits.{bit_and, bit_or, bit_xor, xor_lt, xor_zero_r, xor_block, and_le_r, and_comm, and_mask, and_block}
use lib.ListN.{length, get_or, set, take, drop}
use lib.Seq.{get_or-take, get_or-drop, get_or-set_same, get_or-set_other}
use borrow.Rule.Slice.PartMut.{mid_of, put_mid, mid_len, set_mid_at}
use Rattle.bits.specs.Bits.{digit, bit_of, listed, digits_of, byte_of, item}
use Rattle.bits.specs.Steps.{written}
use Rattle.bits.proofs.Binary.{Bit}
use Rattle.bits.proofs.Digits.{or-digit, digits_of-ext}
use Rattle.bits.proofs.Items.{bit_of-at, get_d-listed, listed-ext, listed-is, part-more}
use Rattle.bits.proofs.Writes.{length-written, written_at, written_then}
use Rattle.bits.proofs.Xor.{xor_assoc, xor-twice, xor-split, and_xor, and_split}
use Rattle.memory.specs.Access.{local_of, chip_of, read_bit}
use Rattle.memory.specs.Memory.{cell}
use Rattle.memory.specs.Groups.{group_of, byte_at, place_of, spot, spot_from, line_digit, lane_byte}

-- ---- ranges

pub group_of-lt : (g i : ℕ) → g < 256 → i < 32 → group_of g i < 32
group_of-lt g i hg hi = xor_lt 5 (g / 8) i (omega arith) hi

pub byte_at-lt : (m g k : ℕ) → g < 256 → k < 32 → byte_at m g k < 32
byte_at-lt m g k hg hk = xor_lt 5 (g / 8) (bit_and (m / 8) k) (omega arith) (lt_of_le_of_lt (and_le_r (m / 8) k) hk)

pub partner-lt : (g t : ℕ) → t < 8 → bit_xor (g % 8) t < 8
partner-lt g t h = xor_lt 3 (g % 8) t (omega arith) h

pub place_of-lt : (m g t : ℕ) → t < 8 → place_of m g t < 8
place_of-lt m g t h = partner-lt g (bit_and (m % 8) t) (lt_of_le_of_lt (and_le_r (m % 8) t) h)

spot-lt : (m g i t : ℕ) → g < 256 → i < 32 → t < 8 → spot m g i t < 8192
spot-lt m g i t hg hi ht =
    let k = group_of-lt g i hg hi in
    omega (arith, k, byte_at-lt m g (group_of g i) hg k)

-- ---- eight neighbours

eights : (a i : ℕ) → a * 8 + i ≡ 8 * a + i
eights a i = ap (λ (x : ℕ). x + i) (mul_comm a 8)

xor-eights : (g i j : ℕ) → j < 8 → bit_xor g (8 * i + j) ≡ 8 * bit_xor (g / 8) i + bit_xor (g % 8) j
xor-eights g i j h = ap (bit_xor g) (sym (eights i j)) ∙ xor-split 3 g i j h ∙ eights (bit_xor (g / 8) i) (bit_xor (g % 8) j)

pub chip-group : (g i j : ℕ) → j < 8 → chip_of g (8 * i + j) ≡ 8 * group_of g i + bit_xor (g % 8) j
chip-group = xor-eights

pub local_group : (m g k t : ℕ) → t < 8 → local_of m g (8 * k + t) ≡ 8 * byte_at m g k + place_of m g t
local_group m g k t h =
    ap (bit_xor g) (ap (bit_and m) (sym (eights k t)) ∙ and_split 3 m k t h ∙ eights (bit_and (m / 8) k) (bit_and (m % 8) t))
    ∙ xor-eights g (bit_and (m / 8) k) (bit_and (m % 8) t) (lt_of_le_of_lt (and_le_r (m % 8) t) h)

-- the group that a group of lines meets is met by those lines
pub group_of-twice : (g i : ℕ) → group_of g (group_of g i) ≡ i
group_of-twice g i = xor-twice (g / 8) i

-- ---- a bit of a chip is a digit of one byte of the memory

pub cell-byte : (mem : List ℕ) (c at s : ℕ) → s < 8 → cell mem c (8 * at + s) ≡ digit (get_or mem (32 * c + at) 0) s
cell-byte mem c at s h =
    let e : 256 * c + (8 * at + s) ≡ 8 * (32 * c + at) + s = omega arith in
    ap (bit_of mem) e ∙ bit_of-at mem (32 * c + at) s h

-- under mode 255 the line that meets chip t of the group finds its bit at its own place among eight
pub place-word : (g j : ℕ) → j < 8 → j ≡ place_of 255 g (bit_xor (g % 8) j)
place-word g j h =
    let t = bit_xor (g % 8) j in
    sym (ap (bit_xor (g % 8)) (and_comm 7 t ∙ and_mask t 3 ∙ mod-eq_of_lt (partner-lt g j h)) ∙ xor-twice (g % 8) j)

-- what line 8i + j reads, from the byte read of the chip that it meets
pub read-group : (mem : List ℕ) (m g i j : ℕ) → j < 8
    → digit (get_or mem (spot m g i (bit_xor (g % 8) j)) 0) (place_of m g (bit_xor (g % 8) j)) ≡ read_bit (cell mem) m g (8 * i + j)
read-group mem m g i j h =
    let t = bit_xor (g % 8) j in
    let k = group_of g i in
    let ht : t < 8 = partner-lt g j h in
    sym (cell-byte mem (8 * k + t) (byte_at m g k) (place_of m g t) (place_of-lt m g t ht))
    ∙ ap (cell mem (8 * k + t)) (sym (local_group m g k t ht))
    ∙ sym (ap (λ (c : ℕ). cell mem c (local_of m g c)) (chip-group g i j h))

-- ---- what the loops know of their places

pub spot-at : (m g i t k b : ℕ) → t < 8 → k ≡ group_of g i → b ≡ byte_at m g k
    → 32 * (8 * k + t) + b ≡ spot m g ((8 * i + t) / 8) ((8 * i + t) % 8)
spot-at m g i t k b h ek eb =
    let hi : (8 * i + t) / 8 ≡ i = omega arith in
    let lo : (8 * i + t) % 8 ≡ t = omega arith in
    ap (λ (x : ℕ). 32 * (8 * k + t) + x) eb
    ∙ ap (λ (x : ℕ). 32 * (8 * x + t) + byte_at m g x) ek
    ∙ sym (ap₂ (spot m g) hi lo)

-- from the group that lines 0 to 7 meet to that of lines 8i to 8i+7
spot-from : (m g i k b n : ℕ) → m < 256 → g < 256 → i < 32 → k ≡ group_of g 0 → b ≡ byte_at m g k → n ≡ spot_from (256 * k + b) m i → n ≡ spot m g i 0
spot-from m g i k b n hm hg hi ek eb en =
    let start : 256 * k + b ≡ g / 8 * 256 + byte_at m g (g / 8) =
    ap (λ (x : ℕ). 256 * k + x) eb ∙ ap (λ (x : ℕ). 256 * x + byte_at m g x) (ek ∙ xor_zero_r (g / 8)) ∙ turned (g / 8) (byte_at m g (g / 8)) in
    let twice : 257 * i ≡ i * 256 + i = omega arith in
    let reach : 7936 + m / 8 ≡ 31 * 256 + m / 8 = omega arith in
    let low : bit_and i 31 ≡ i = and_mask i 5 ∙ mod-eq_of_lt hi in
    let step : bit_and (257 * i) (7936 + m / 8) ≡ i * 256 + bit_and (m / 8) i =
    ap₂ bit_and twice reach
    ∙ and_block 8 i 31 i (m / 8) (omega arith) (omega arith)
    ∙ ap₂ (λ (x y : ℕ). x * 256 + y) low (and_comm i (m / 8)) in
    let small : bit_and (m / 8) i < 256 = lt_of_le_of_lt (and_le_r (m / 8) i) (omega arith) in
    let byte : byte_at m g (g / 8) < 256 = omega (arith, byte_at-lt m g (g / 8) hg (omega arith)) in
    en
    ∙ ap₂ bit_xor start step
    ∙ xor_block 8 (g / 8) i (byte_at m g (g / 8)) (bit_and (m / 8) i) byte small
    ∙ ap (λ (x : ℕ). group_of g i * 256 + x)
    (xor_assoc (g / 8) (bit_and (m / 8) (g / 8)) (bit_and (m / 8) i) ∙ ap (bit_xor (g / 8)) (sym (and_xor (m / 8) (g / 8) i)))
    ∙ chips (group_of g i) (byte_at m g (group_of g i))
  where
    turned : (k b : ℕ) → 256 * k + b ≡ k * 256 + b
    turned k b = omega arith

    chips : (k b : ℕ) → k * 256 + b ≡ 32 * (8 * k + 0) + b
    chips k b = omega arith

-- where the eight chips of the group are then read, and that they are in the memory
pub spot-group : (m g i k b n : ℕ) → m < 256 → g < 256 → i < 32 → k ≡ group_of g 0 → b ≡ byte_at m g k → n ≡ spot_from (256 * k + b) m i
    → (n ≡ spot m g i 0) × (n + 224 < 8192)
spot-group m g i k b n hm hg hi ek eb en =
    let e : n ≡ spot m g i 0 = spot-from m g i k b n hm hg hi ek eb en in
    (e, omega (arith, spot-lt m g i 7 hg hi (omega arith)))

-- and on to chip t of the group
spot_on : (m g i t n : ℕ) → t < 8 → n ≡ spot m g i 0 → 32 * t + n ≡ spot m g ((8 * i + t) / 8) ((8 * i + t) % 8)
spot_on m g i t n h e =
    let hi : (8 * i + t) / 8 ≡ i = omega arith in
    let lo : (8 * i + t) % 8 ≡ t = omega arith in
    ap (λ (x : ℕ). 32 * t + x) e ∙ on (group_of g i) (byte_at m g (group_of g i)) ∙ sym (ap₂ (spot m g) hi lo)
  where
    on : (k b : ℕ) → 32 * t + (32 * (8 * k + 0) + b) ≡ 32 * (8 * k + t) + b
    on k b = omega arith

-- the digit that a lane of bytes holds for line 8i + j
pub lane-digit : (bytes : List ℕ) (m g j t from s n i : ℕ) → t ≡ bit_xor (g % 8) j → from ≡ 32 * t → s ≡ place_of m g t → i < n
    → digit (get_or (take n (drop from bytes)) i 0) s ≡ line_digit bytes m g i j
lane-digit bytes m g j t from s n i et ef es h =
    ap (λ (x : ℕ). digit x s) (get_or-take n (drop from bytes) i 0 h ∙ get_or-drop from bytes i 0)
    ∙ ap₂ (λ (x y : ℕ). digit (get_or bytes (x + i) 0) y) (ef ∙ ap (λ (x : ℕ). 32 * x) et) (es ∙ ap (place_of m g) et)

-- ---- the loops of a load

lane-inj : (n k : ℕ) → n < 256 → k < 256 → 32 * (n % 8) + n / 8 ≡ 32 * (k % 8) + k / 8 → n ≡ k
lane-inj n k hn hk e =
    let lo : n % 8 ≡ k % 8 = omega arith in
    let hi : n / 8 ≡ k / 8 = omega arith in
    omega arith

-- the bytes of lanes, group by group
pub lane-at : (ψ : ℕ → ℕ → ℕ) (l : List ℕ) → l ≡ listed (λ n. ψ (n % 32) (n / 32)) 256 → (k : ℕ) → k < 256
    → get_or l (32 * (k % 8) + k / 8) 0 ≡ ψ (k / 8) (k % 8)
lane-at ψ l e k h =
    let lo : (32 * (k % 8) + k / 8) % 32 ≡ k / 8 = omega arith in
    let hi : (32 * (k % 8) + k / 8) / 32 ≡ k % 8 = omega arith in
    ap (λ (x : List ℕ). get_or x (32 * (k % 8) + k / 8) 0) e
    ∙ get_d-listed (λ n. ψ (n % 32) (n / 32)) 256 (32 * (k % 8) + k / 8) (omega arith)
    ∙ ap₂ ψ lo hi

-- writes to 32t + i, group by group, fill a list lane by lane
pub lanes-filled : (ψ : ℕ → ℕ → ℕ) (l : List ℕ) → length l ≡ 256
    → written (λ n. 32 * (n % 8) + n / 8) (λ n o. ψ (n / 8) (n % 8)) l 256 ≡ listed (λ q. ψ (q % 32) (q / 32)) 256
lanes-filled ψ l size =
    listed-is (λ q. ψ (q % 32) (q / 32)) 256 (written (λ n. 32 * (n % 8) + n / 8) (λ n o. ψ (n / 8) (n % 8)) l 256)
    (length-written (λ n. 32 * (n % 8) + n / 8) (λ n o. ψ (n / 8) (n % 8)) l 256 ∙ size)
    (λ q h.
    let n = 8 * (q % 32) + q / 32 in
    let at : 32 * (n % 8) + n / 8 ≡ q = omega arith in
    let hi : n / 8 ≡ q % 32 = omega arith in
    let lo : n % 8 ≡ q / 32 = omega arith in
    ap (λ (x : ℕ). get_or (written (λ n. 32 * (n % 8) + n / 8) (λ n o. ψ (n / 8) (n % 8)) l 256) x 0) (sym at)
    ∙ written_at (λ n. 32 * (n % 8) + n / 8) (λ n o. ψ (n / 8) (n % 8)) l 256 n (λ j k e. lane-inj n j (omega arith) k e) (omega arith) (omega arith)
    ∙ ap₂ ψ hi lo)

-- one group more
pub read_more : (mem : List ℕ) (m g i j n : ℕ) (out₀ out : List ℕ) → j ≡ i + 1 → n ≡ spot m g i 0
    → out ≡ written (λ k. 32 * (k % 8) + k / 8) (λ k o. get_or mem (spot m g (k / 8) (k % 8)) 0) out₀ (8 * i)
    → written (λ t. 32 * t + i) (λ t o. get_or mem (32 * t + n) 0) out 8
    ≡ written (λ k. 32 * (k % 8) + k / 8) (λ k o. get_or mem (spot m g (k / 8) (k % 8)) 0) out₀ (8 * j)
read_more mem m g i j n out₀ out ej en e =
    written_then (λ k. 32 * (k % 8) + k / 8) (λ k o. get_or mem (spot m g (k / 8) (k % 8)) 0) out₀ (λ t. 32 * t + i) (λ t o. get_or mem (32 * t + n) 0) out (8 * i) 8 (8 * j) e (omega arith)
    (λ t h. omega arith)
    (λ t o h. ap (λ (x : ℕ). get_or mem x 0) (spot_on m g i t n h en))

-- one lane more
pub gather-more : (F : ℕ → ℕ → ℕ) → ((i j : ℕ) → Bit (F i j)) → (out lane : List ℕ) (s j : ℕ) → j < 8
    → out ≡ listed (λ i. digits_of (F i) j) 32 → ((i : ℕ) → i < 32 → digit (get_or lane i 0) s ≡ F i j)
    → listed (λ i. bit_or (get_or out i 0) (digit (get_or lane i 0) s * 2 ^ j % 256)) 32 ≡ listed (λ i. digits_of (F i) (j + 1)) 32
gather-more F bits out lane s j h e d =
    listed-ext (λ i. bit_or (get_or out i 0) (digit (get_or lane i 0) s * 2 ^ j % 256)) (λ i. digits_of (F i) (j + 1)) 32
    (λ i q.
    ap₂ (λ (x y : ℕ). bit_or x (y * 2 ^ j % 256)) (ap (λ (x : List ℕ). get_or x i 0) e ∙ get_d-listed (λ i. digits_of (F i) j) 32 i q) (d i q)
    ∙ or-digit (F i) (bits i) j 8 h)

-- what the lanes gather is what the lines read
pub gathered : (mem bytes : List ℕ) (m g : ℕ) → bytes ≡ listed (λ n. get_or mem (spot m g (n % 32) (n / 32)) 0) 256
    → listed (λ i. digits_of (line_digit bytes m g i) 8) 32 ≡ item (read_bit (cell mem) m g)
unfolding byte_of
gathered mem bytes m g e =
    listed-ext (λ i. digits_of (line_digit bytes m g i) 8) (byte_of (read_bit (cell mem) m g)) 32
    (λ i hi.
    digits_of-ext (line_digit bytes m g i) (λ j. read_bit (cell mem) m g (8 * i + j)) 8
    (λ j hj.
    let t = bit_xor (g % 8) j in
    let ht : t < 8 = partner-lt g j hj in
    let lo : (32 * t + i) % 32 ≡ i = omega arith in
    let hi : (32 * t + i) / 32 ≡ t = omega arith in
    ap (λ (x : ℕ). digit x (place_of m g t))
    (ap (λ (x : List ℕ). get_or x (32 * t + i) 0) e
    ∙ get_d-listed (λ n. get_or mem (spot m g (n % 32) (n / 32)) 0) 256 (32 * t + i) (omega arith)
    ∙ ap₂ (λ (x y : ℕ). get_or mem (spot m g x y) 0) lo hi)
    ∙ read-group mem m g i j hj))

-- ---- the loops that spread an item

-- a lane as it is made, at the places that the code computed; c is what is made of each byte, to be put or to be kept
pub lane_made : (f c : ℕ → ℕ) (m g t p s : ℕ) → p ≡ bit_xor (g % 8) t → s ≡ place_of m g t
    → listed (λ i. c (f (8 * i + p) * 2 ^ s)) 32 ≡ listed (λ i. c (lane_byte f m g i t)) 32
lane_made f c m g t p s ep es = ap₂ (λ (x y : ℕ). listed (λ i. c (f (8 * i + x) * 2 ^ y)) 32) ep es

-- one lane more, in the part that was lent on: lane i t is byte i of lane t
pub lane-more : (lane : ℕ → ℕ → ℕ) (t w : ℕ) (out ys : List ℕ) → t < 8 → length out ≡ 256 → w ≡ t
    → take (32 * t) out ≡ listed (λ n. lane (n % 32) (n / 32)) (32 * t)
    → ys ≡ listed (λ i. lane i t) 32
    → take (32 * (t + 1)) (put_mid (32 * w) (32 * w + 32 - 32 * w) out ys) ≡ listed (λ n. lane (n % 32) (n / 32)) (32 * (t + 1))
lane-more lane t w out ys h size ew e ey =
    let φ : ℕ → ℕ = λ n. lane (n % 32) (n / 32) in
    let n : 32 * (t + 1) ≡ 32 * w + 32 = omega arith in
    let k : 32 ≡ 32 * w + 32 - 32 * w = omega arith in
    ap (λ (x : ℕ). take x (put_mid (32 * w) (32 * w + 32 - 32 * w) out ys)) n
    ∙ part-more φ out (32 * w) (32 * w + 32) ys (omega arith) (omega arith)
    (ap (λ (x : ℕ). take (32 * x) out) ew ∙ e ∙ sym (ap (λ (x : ℕ). listed φ (32 * x)) ew))
    (ey ∙ listed-ext (λ i. lane i t) (λ i. φ (32 * w + i)) 32 same ∙ ap (listed (λ i. φ (32 * w + i))) k)
    ∙ sym (ap (listed φ) n)
  where
    same : (i : ℕ) → i < 32 → lane i t ≡ lane ((32 * w + i) % 32) ((32 * w + i) / 32)
    same i hi =
        let lo : (32 * w + i) % 32 ≡ i = omega arith in
        let hi : (32 * w + i) / 32 ≡ t = omega arith in
        sym (ap₂ lane lo hi)

-- ---- the first byte of each lane, one lane more

pub first_more : (φ : ℕ → ℕ) (out : List ℕ) (t k v : ℕ) → 32 * t < length out → k ≡ 32 * t → v ≡ φ t → ((s : ℕ) → s < t → get_or out (32 * s) 0 ≡ φ s)
    → (s : ℕ) → s < t + 1 → get_or (set out k v) (32 * s) 0 ≡ φ s
first_more φ out t k v size ek ev h s hs = ap (λ (x : ℕ). get_or (set out x v) (32 * s) 0) ek ∙ go (ℕ_discrete s t)
  where
    go : Dec (s ≡ t) → get_or (set out (32 * t) v) (32 * s) 0 ≡ φ s
    go (yes e) = ap (λ (x : ℕ). get_or (set out (32 * t) v) (32 * x) 0) e ∙ get_or-set_same out (32 * t) v 0 size ∙ ev ∙ sym (ap φ e)
    go (no u) = get_or-set_other out (32 * t) (32 * s) v 0 (λ e. u (omega arith)) ∙ h s (omega arith)

-- ---- the chip writer, seen from the whole memory

pub chip-written : (v : ℕ → ℕ) (l : List ℕ) (c at : ℕ) (ys : List ℕ) → 32 * c + 32 ≤ length l → at < 32
    → ys ≡ set (mid_of (32 * c) (32 * c + 32 - 32 * c) l) at (v (get_or (mid_of (32 * c) (32 * c + 32 - 32 * c) l) at 0))
    → put_mid (32 * c) (32 * c + 32 - 32 * c) l ys ≡ set l (32 * c + at) (v (get_or l (32 * c + at) 0))
chip-written v l c at ys h ha e =
    let k = 32 * c + 32 - 32 * c in
    let n : k ≡ 32 = omega arith in
    let part = mid_of (32 * c) k l in
    let m : length part ≡ k = mid_len (32 * c) (32 * c + 32) l h in
    let old : get_or part at 0 ≡ get_or l (32 * c + at) 0 = get_or-take k (drop (32 * c) l) at 0 (omega arith) ∙ get_or-drop (32 * c) l at 0 in
    ap (put_mid (32 * c) k l) e
    ∙ set_mid_at (32 * c) k at l (v (get_or part at 0)) (omega arith)
    ∙ ap (λ (x : ℕ). set l (32 * c + at) (v x)) old

-- lanes that are not turned over
pub as-they-are : (φ : ℕ → ℕ) (n : ℕ) → listed (λ i. bit_xor (φ i) 0) n ≡ listed φ n
as-they-are φ n = listed-ext (λ i. bit_xor (φ i) 0) φ n (λ i h. xor_zero_r (φ i))
