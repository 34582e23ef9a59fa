-- Writing one byte of each chip, eight chips at a time, makes the stored memory. Assumes nothing.
use mathlib.Core.Path.{◌≡◌, refl, sym, ap, ap₂, ◌∙◌}
use mathlib.Core.Bool.{Bool, cond}
use mathlib.Core.List.{List}
use Prim.Native.Nat.{ℕ, ◌+◌, ◌*◌, ◌/◌, ◌%◌, ◌^◌, ◌<◌, min, max}
use native.Mathlib.Decide.{ℕ_discrete}
use native.Mathlib.Omega.{arith}
use lib.Bits.{bit_and, bit_xor, differ, and_le_l, or_lt, xor_lt}
use lib.Dec.{eqb, eqb→eq}
use lib.ListN.{length, get_or}
use lib.Pow.{shl_lt, pow_mono}
use native.Mathlib.Nat.{lt_of_lt_of_le, lt_of_le_of_lt}
use borrow.Author.Tests.{eq-eqb, ne_eqb}
use Rattle.bits.specs.Bits.{digit, bit_of, listed}
use Rattle.bits.specs.Steps.{written}
use Rattle.bits.proofs.Binary.{Bit, off, on, bit-lt, min-bit, digit-bit}
use Rattle.bits.proofs.Digits.{digit-moved}
use Rattle.bits.proofs.Items.{get_d-listed, bit_of-bit, bit_of-at, pack-is}
use Rattle.bits.proofs.Tests.{all-at}
use Rattle.bits.proofs.Xor.{digit-xor, digit_and, digit_or}
use Rattle.bits.proofs.Writes.{length-written, written-off, written_at, written-ext, written-bytes}
use Rattle.memory.specs.Access.{local_of, line_of, stored_bit}
use Rattle.memory.specs.Memory.{cell, stored, every}
use Rattle.memory.specs.Groups.{group_of, byte_at, place_of, spot, lane_byte, keep_byte, renewed}
use Rattle.memory.proofs.GroupLaws.{group_of-lt, byte_at-lt, place_of-lt, local_group, chip-group, group_of-twice, lane-at}
use Rattle.memory.proofs.TableLaws.{stored-hit, stored-miss}

-- a lane's byte is a byte
lane_byte-lt : (f : ℕ → ℕ) (m g i t : ℕ) → ((p : ℕ) → Bit (f p)) → t < 8 → lane_byte f m g i t < 256
lane_byte-lt f m g i t bits h =
    lt_of_lt_of_le
    (shl_lt 1 (place_of m g t) (bit-lt (bits (8 * i + bit_xor (g % 8) t))))
    (pow_mono {j = 8} (omega (arith, place_of-lt m g t h)))

-- ---- when chip c has its turn

module _ (m g c : ℕ) (hg : g < 256) (hc : c < 256) where
  turn : ℕ
  turn = 8 * group_of g (c / 8) + c % 8

  whole : 8 * (c / 8) + c % 8 ≡ c
  whole = omega arith

  turn-lt : turn < 256
  unfolding turn
  turn-lt = omega (arith, group_of-lt g (c / 8) hg (omega arith))

  turn-group : turn / 8 ≡ group_of g (c / 8)
  unfolding turn
  turn-group = omega arith

  turn-chip : turn % 8 ≡ c % 8
  unfolding turn
  turn-chip = omega arith

  spot-turn : spot m g (turn / 8) (turn % 8) ≡ 32 * c + byte_at m g (c / 8)
  spot-turn =
      ap₂ (spot m g) turn-group turn-chip
      ∙ ap (λ (k : ℕ). 32 * (8 * k + c % 8) + byte_at m g k) (group_of-twice g (c / 8))
      ∙ ap (λ (x : ℕ). 32 * x + byte_at m g (c / 8)) whole

  lane-turn : (f : ℕ → ℕ) → lane_byte f m g (turn / 8) (turn % 8) ≡ f (line_of g c) * 2 ^ place_of m g (c % 8)
  lane-turn f =
      ap₂ (lane_byte f m g) turn-group turn-chip
      ∙ ap (λ (p : ℕ). f p * 2 ^ place_of m g (c % 8)) (sym (chip-group g (c / 8) (c % 8) (omega arith)) ∙ ap (line_of g) whole)

  local-turn : local_of m g c ≡ 8 * byte_at m g (c / 8) + place_of m g (c % 8)
  local-turn = ap (local_of m g) (sym whole) ∙ local_group m g (c / 8) (c % 8) (omega arith)

-- no two turns write one byte
spot-inj : (m g n k : ℕ) → g < 256 → n < 256 → k < 256 → spot m g (n / 8) (n % 8) ≡ spot m g (k / 8) (k % 8) → n ≡ k
spot-inj m g n k hg hn hk e =
    let gn = group_of-lt g (n / 8) hg (omega arith) in
    let gk = group_of-lt g (k / 8) hg (omega arith) in
    let bn = byte_at-lt m g (group_of g (n / 8)) hg gn in
    let bk = byte_at-lt m g (group_of g (k / 8)) hg gk in
    let same : group_of g (n / 8) ≡ group_of g (k / 8) = omega arith in
    let hi : n / 8 ≡ k / 8 = sym (group_of-twice g (n / 8)) ∙ ap (group_of g) same ∙ group_of-twice g (k / 8) in
    omega arith

-- ---- one bit of the byte that is renewed: the line's bit where its mask bit is 1, else what was there

full : ℕ → Bool
full j = eqb (digit 255 j) 1

digit-full : (j : ℕ) → j < 8 → digit 255 j ≡ 1
unfolding full
digit-full j h = eqb→eq (digit 255 j) 1 (all-at 8 full tt j h)

-- where w of the line's digit is chosen and v of it comes
digit-renewed : (o v w s j : ℕ) → Bit v → Bit w → j < 8
    → digit (renewed o (bit_xor (w * 2 ^ s) 255) (v * 2 ^ s)) j ≡ max (min (digit o j) (differ (cond (eqb j s) w 0) 1)) (cond (eqb j s) v 0)
digit-renewed o v w s j bv bw h =
    digit_or (bit_and o (bit_xor (w * 2 ^ s) 255)) (v * 2 ^ s) j
    ∙ ap₂ max
    (digit_and o (bit_xor (w * 2 ^ s) 255) j
    ∙ ap (min (digit o j)) (digit-xor (w * 2 ^ s) 255 j ∙ ap₂ differ (digit-moved w s j bw) (digit-full j h)))
    (digit-moved v s j bv)

renewed-place : (o u v w s j : ℕ) → Bit v → Bit w → u ≡ min v w → j < 8 → j ≡ s
    → digit (renewed o (bit_xor (w * 2 ^ s) 255) (u * 2 ^ s)) j ≡ cond (eqb w 1) v (digit o j)
renewed-place o u v w s j bv bw eu h e =
    ap (λ (y : ℕ). digit (renewed o (bit_xor (w * 2 ^ s) 255) (y * 2 ^ s)) j) eu
    ∙ digit-renewed o (min v w) w s j (min-bit bv bw) bw h
    ∙ ap (λ (t : Bool). max (min (digit o j) (differ (cond t w 0) 1)) (cond t (min v w) 0)) (eq-eqb j s e)
    ∙ chosen (digit-bit o j) bv bw
  where
    chosen : {a v w : ℕ} → Bit a → Bit v → Bit w → max (min a (differ w 1)) (min v w) ≡ cond (eqb w 1) v a
    chosen off off off = refl
    chosen off off on = refl
    chosen off on off = refl
    chosen off on on = refl
    chosen on off off = refl
    chosen on off on = refl
    chosen on on off = refl
    chosen on on on = refl

renewed-other : (o u w s j : ℕ) → Bit u → Bit w → j < 8 → (j ≡ s → ⊥) → digit (renewed o (bit_xor (w * 2 ^ s) 255) (u * 2 ^ s)) j ≡ digit o j
renewed-other o u w s j bu bw h n =
    digit-renewed o u w s j bu bw h
    ∙ ap (λ (t : Bool). max (min (digit o j) (differ (cond t w 0) 1)) (cond t u 0)) (ne_eqb j s n)
    ∙ stays (digit-bit o j)
  where
    stays : {a : ℕ} → Bit a → max (min a 1) 0 ≡ a
    stays off = refl
    stays on = refl

-- ---- the law: put has the item's bits at the lines of the mask, and 0 at the others

module _ (mem item put : List ℕ) (mask : ℕ → ℕ) (m g : ℕ) (size : length mem ≡ 8192) (bytes : (i : ℕ) → get_or mem i 0 < 256) (hg : g < 256)
    (bits : (p : ℕ) → Bit (mask p)) (joined : (p : ℕ) → p < 256 → bit_of put p ≡ min (bit_of item p) (mask p)) where
  place : ℕ → ℕ
  place n = spot m g (n / 8) (n % 8)

  value : ℕ → ℕ → ℕ
  value n o = renewed o (keep_byte mask m g (n / 8) (n % 8)) (lane_byte (bit_of put) m g (n / 8) (n % 8))

  after : List ℕ
  after = written place value mem 256

  -- the byte of chip c at which it is read
  hit : (c : ℕ) → c < 256 → get_or after (32 * c + byte_at m g (c / 8)) 0
      ≡ renewed (get_or mem (32 * c + byte_at m g (c / 8)) 0) (bit_xor (mask (line_of g c) * 2 ^ place_of m g (c % 8)) 255) (bit_of put (line_of g c) * 2 ^ place_of m g (c % 8))
  unfolding after place value
  hit c hc =
      let n = turn m g c hg hc in
      let at : place n ≡ 32 * c + byte_at m g (c / 8) = spot-turn m g c hg hc in
      ap (λ (x : ℕ). get_or after x 0) (sym at)
      ∙ written_at place value mem 256 n (λ j h e. spot-inj m g n j hg (turn-lt m g c hg hc) h e) (turn-lt m g c hg hc)
      (omega (arith, size, at, byte_at-lt m g (c / 8) hg (omega arith)))
      ∙ ap (λ (x : ℕ). value n (get_or mem x 0)) at
      ∙ ap₂ (λ (x y : ℕ). renewed (get_or mem (32 * c + byte_at m g (c / 8)) 0) (bit_xor x 255) y) (lane-turn m g c hg hc mask) (lane-turn m g c hg hc (bit_of put))

  -- every other byte of the chip
  miss : (c at : ℕ) → c < 256 → at < 32 → (at ≡ byte_at m g (c / 8) → ⊥) → get_or after (32 * c + at) 0 ≡ get_or mem (32 * c + at) 0
  unfolding after place
  miss c at hc ha u =
      written-off place value mem 256 (32 * c + at)
      (λ k h e.
      let gk = group_of-lt g (k / 8) hg (omega arith) in
      let bk = byte_at-lt m g (group_of g (k / 8)) hg gk in
      let same : group_of g (k / 8) ≡ c / 8 = omega arith in
      let byte : at ≡ byte_at m g (group_of g (k / 8)) = omega arith in
      u (byte ∙ ap (byte_at m g) same))

  bit : (c b : ℕ) → c < 256 → b < 256 → bit_of after (256 * c + b) ≡ stored_bit (cell mem) m g mask (bit_of item) c b
  bit c b hc hb = go (ℕ_discrete (b / 8) (byte_at m g (c / 8))) (ℕ_discrete (b % 8) (place_of m g (c % 8)))
    where
      at : (l : List ℕ) → bit_of l (256 * c + b) ≡ digit (get_or l (32 * c + b / 8) 0) (b % 8)
      at l =
          let e : 256 * c + b ≡ 8 * (32 * c + b / 8) + b % 8 = omega arith in
          ap (bit_of l) e ∙ bit_of-at l (32 * c + b / 8) (b % 8) (omega arith)

      line : ℕ
      line = line_of g c

      go : Dec (b / 8 ≡ byte_at m g (c / 8)) → Dec (b % 8 ≡ place_of m g (c % 8))
          → bit_of after (256 * c + b) ≡ stored_bit (cell mem) m g mask (bit_of item) c b
      go (yes e) (yes d) =
          at after
          ∙ ap (λ (x : ℕ). digit (get_or after (32 * c + x) 0) (b % 8)) e
          ∙ ap (λ (x : ℕ). digit x (b % 8)) (hit c hc)
          ∙ renewed-place (get_or mem (32 * c + byte_at m g (c / 8)) 0) (bit_of put (line_of g c)) (bit_of item (line_of g c)) (mask (line_of g c)) (place_of m g (c % 8)) (b % 8) (bit_of-bit item (line_of g c)) (bits (line_of g c)) (joined (line_of g c) (xor_lt 8 g c hg hc)) (omega arith) d
          ∙ ap (λ (x : ℕ). cond (eqb (mask (line_of g c)) 1) (bit_of item (line_of g c)) (digit (get_or mem (32 * c + x) 0) (b % 8))) (sym e)
          ∙ ap (cond (eqb (mask (line_of g c)) 1) (bit_of item (line_of g c))) (sym (at mem))
          ∙ sym (stored-hit (cell mem) m g mask (bit_of item) c b (omega (arith, local-turn m g c hg hc)))
      go (yes e) (no v) =
          at after
          ∙ ap (λ (x : ℕ). digit (get_or after (32 * c + x) 0) (b % 8)) e
          ∙ ap (λ (x : ℕ). digit x (b % 8)) (hit c hc)
          ∙ renewed-other (get_or mem (32 * c + byte_at m g (c / 8)) 0) (bit_of put (line_of g c)) (mask (line_of g c)) (place_of m g (c % 8)) (b % 8) (bit_of-bit put (line_of g c)) (bits (line_of g c)) (omega arith) v
          ∙ ap (λ (x : ℕ). digit (get_or mem (32 * c + x) 0) (b % 8)) (sym e)
          ∙ sym (at mem)
          ∙ sym (stored-miss (cell mem) m g mask (bit_of item) c b (λ q. v (omega (arith, local-turn m g c hg hc, place_of-lt m g (c % 8) (omega arith)))))
      go (no u) d =
          at after
          ∙ ap (λ (x : ℕ). digit x (b % 8)) (miss c (b / 8) hc (omega arith) u)
          ∙ sym (at mem)
          ∙ sym (stored-miss (cell mem) m g mask (bit_of item) c b (λ q. u (omega (arith, local-turn m g c hg hc, place_of-lt m g (c % 8) (omega arith)))))

  written-stored : after ≡ stored mem m g mask (bit_of item)
  unfolding stored after value
  written-stored =
      pack-is (λ k. stored_bit (cell mem) m g mask (bit_of item) (k / 256) (k % 256)) 8192 after
      (length-written place value mem 256 ∙ size)
      (written-bytes place value mem 256 bytes
      (λ k o h l. or_lt 8 _ _ (lt_of_le_of_lt (and_le_l o _) l) (lane_byte-lt (bit_of put) m g (k / 8) (k % 8) (bit_of-bit put) (omega arith))))
      (λ k h.
      let e : k ≡ 256 * (k / 256) + k % 256 = omega arith in
      ap (bit_of after) e ∙ bit (k / 256) (k % 256) (omega arith) (omega arith))

  -- as the loops leave it, w: what comes and what stays stand in two lists
  pub store-written : (lanes keep w : List ℕ) (n : ℕ)
      → w ≡ written (λ k. spot m g (k / 8) (k % 8)) (λ k o. renewed o (get_or keep (32 * (k % 8) + k / 8 % n) 0) (get_or lanes (32 * (k % 8) + k / 8) 0)) mem 256
      → lanes ≡ listed (λ k. lane_byte (bit_of put) m g (k % 32) (k / 32)) 256
      → ((k : ℕ) → k < 256 → get_or keep (32 * (k % 8) + k / 8 % n) 0 ≡ keep_byte mask m g (k / 8) (k % 8))
      → w ≡ stored mem m g mask (bit_of item)
  unfolding after place value
  store-written lanes keep w n ew el ek =
      ew
      ∙ written-ext mem (λ k. spot m g (k / 8) (k % 8)) (λ k o. renewed o (get_or keep (32 * (k % 8) + k / 8 % n) 0) (get_or lanes (32 * (k % 8) + k / 8) 0)) place value 256
      (λ k h. refl)
      (λ k o h. ap₂ (renewed o) (ek k h) (lane-at (lane_byte (bit_of put) m g) lanes el k h))
      ∙ written-stored

-- the item's bits at the lines of a mask, as the two are put together
pub masked-bits : (item mask put : List ℕ) → put ≡ listed (λ i. bit_and (get_or item i 0) (get_or mask i 0)) 32 → (p : ℕ) → p < 256
    → bit_of put p ≡ min (bit_of item p) (bit_of mask p)
unfolding bit_of
masked-bits item mask put e p h =
    ap (λ (l : List ℕ). digit (get_or l (p / 8) 0) (p % 8)) e
    ∙ ap (λ (x : ℕ). digit x (p % 8)) (get_d-listed (λ i. bit_and (get_or item i 0) (get_or mask i 0)) 32 (p / 8) (omega arith))
    ∙ digit_and (get_or item (p / 8) 0) (get_or mask (p / 8) 0) (p % 8)

-- at all lines they are the item's own
pub every-bits : (item : List ℕ) (p : ℕ) → bit_of item p ≡ min (bit_of item p) (every p)
every-bits item p = same (bit_of-bit item p)
  where
    same : {x : ℕ} → Bit x → x ≡ min x 1
    same off = refl
    same on = refl
