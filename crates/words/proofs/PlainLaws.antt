-- Laws of the plain order: bit by bit, that it and the scrambled one are each other's inverse, and what the bytes of the chips say of eight neighbouring words. Assumes nothing.
use mathlib.Core.Path.{◌≡◌, refl, sym, ap, ap₂, ◌∙◌}
use mathlib.Core.List.{List, ◌++◌}
use Prim.Native.Nat.{ℕ, ◌+◌, ◌-◌, ◌*◌, ◌/◌, ◌%◌, ◌^◌, ◌<◌, ◌≤◌}
use native.Mathlib.Nat.{mod-eq_of_lt}
use native.Mathlib.Decide.{ℕ_discrete}
use native.Mathlib.Omega.{arith}
use lib.Bits.{bit_and, bit_xor, and_mask, and_comm, xor_comm, xor_lt}
use lib.ListN.{length, get_or, take, drop, length-drop, get_or-append}
use lib.Seq.{length-take-le, get_or-take, get_or-drop, ext_get_or}
use borrow.Rule.Slice.PartMut.{put_mid}
use Rattle.bits.specs.Bits.{digit, bit_of, listed, digits_of, byte_of}
use Rattle.bits.specs.Steps.{put_at, written}
use Rattle.bits.proofs.Binary.{Bit, digit-bit}
use Rattle.bits.proofs.Digits.{digits_of-lt, digits_of-at}
use Rattle.bits.proofs.Items.{length-listed, get_d-listed, listed-ext, listed-bytes, part-more, bit_of-bit, byte_of-lt, bit_of-pack, byte_of-is, pack-ext, pack-is}
use Rattle.bits.proofs.Puts.{put-at, put-off}
use Rattle.bits.proofs.Writes.{length-written, then-written, written_at, written-off, written-bytes}
use Rattle.bits.proofs.Xor.{xor-twice, xor-cancel}
use Rattle.memory.specs.Table.{table}
use Rattle.memory.specs.Memory.{cell}
use Rattle.words.specs.Plain.{plain_bit, plain_words, scrambled_bit, scrambled}
use Rattle.memory.specs.Groups.{spot, line_digit}
use Rattle.words.specs.Turned.{turned_byte, turned}
use Rattle.memory.proofs.GroupLaws.{chip-group, cell-byte, place-word}

-- ---- one rule for both

pub one-rule : (l : List ℕ) → plain_words l ≡ scrambled l
unfolding plain_words scrambled
one-rule l = refl

pub length-plain : (mem : List ℕ) → length (plain_words mem) ≡ 8192
unfolding plain_words
length-plain mem = length-listed (byte_of (plain_bit mem)) 8192

plain-bits : (mem : List ℕ) (k : ℕ) → Bit (plain_bit mem k)
plain-bits mem k = bit_of-bit mem (256 * bit_xor (k % 256) (k / 256) + k % 256)

pub plain-bytes : (mem : List ℕ) (i : ℕ) → get_or (plain_words mem) i 0 < 256
unfolding plain_words
plain-bytes mem = listed-bytes (byte_of (plain_bit mem)) 8192 (byte_of-lt (plain_bit mem) (plain-bits mem))

pub length-scrambled : (words : List ℕ) → length (scrambled words) ≡ 8192
length-scrambled words = ap length (sym (one-rule words)) ∙ length-plain words

-- ---- bit b of word w

pub plain-bit : (mem : List ℕ) (w b : ℕ) → w < 256 → b < 256 → bit_of (plain_words mem) (256 * w + b) ≡ table (cell mem) w b
unfolding plain_words
plain-bit mem w b hw hb =
    let hi : (256 * w + b) / 256 ≡ w = omega arith in
    let lo : (256 * w + b) % 256 ≡ b = omega arith in
    bit_of-pack (plain_bit mem) (plain-bits mem) 8192 (256 * w + b) (omega arith)
    ∙ ap₂ (table (cell mem)) hi lo

pub scrambled-bit : (words : List ℕ) (w b : ℕ) → w < 256 → b < 256 → table (cell (scrambled words)) w b ≡ bit_of words (256 * w + b)
scrambled-bit words w b hw hb =
    ap (λ (l : List ℕ). table (cell l) w b) (sym (one-rule words))
    ∙ plain-bit words (bit_xor b w) b (xor_lt 8 b w hb hw) hb
    ∙ ap (λ (x : ℕ). bit_of words (256 * x + b)) (xor-twice b w)

-- ---- there and back

pub plain-scrambled : (words : List ℕ) → length words ≡ 8192 → ((i : ℕ) → get_or words i 0 < 256) → plain_words (scrambled words) ≡ words
unfolding plain_words
plain-scrambled words size bytes =
    sym (pack-is (plain_bit (scrambled words)) 8192 words size bytes
    (λ k h.
    let s : k ≡ 256 * (k / 256) + k % 256 = omega arith in
    ap (bit_of words) s ∙ sym (scrambled-bit words (k / 256) (k % 256) (omega arith) (omega arith))))

pub scrambled-plain : (mem : List ℕ) → length mem ≡ 8192 → ((i : ℕ) → get_or mem i 0 < 256) → scrambled (plain_words mem) ≡ mem
scrambled-plain mem size bytes = sym (one-rule (plain_words mem)) ∙ ap plain_words (one-rule mem) ∙ plain-scrambled mem size bytes

-- ---- what stands behind the words is not looked at

bit_of-front : (l r : List ℕ) (n k : ℕ) → length l ≡ n → k < 8 * n → bit_of (l ++ r) k ≡ bit_of l k
unfolding bit_of
bit_of-front l r n k e h = ap (λ (x : ℕ). x / 2 ^ (k % 8) % 2) (get_or-append l r 0 (k / 8) (omega arith))

pub scrambled-front : (l r : List ℕ) → length l ≡ 8192 → scrambled (l ++ r) ≡ scrambled l
unfolding scrambled
scrambled-front l r e =
    pack-ext (scrambled_bit (l ++ r)) (scrambled_bit l) 8192
    (λ k h.
    let w = bit_xor (k % 256) (k / 256) in
    let hw : w < 256 = xor_lt 8 (k % 256) (k / 256) (omega arith) (omega arith) in
    bit_of-front l r 8192 (256 * w + k % 256) e (omega arith))

-- ---- eight neighbouring words, by the bytes of the chips

-- the chip of bit 8i + j of word 8v + a
eight-chip : (v a i j : ℕ) → a < 8 → j < 8 → bit_xor (8 * i + j) (8 * v + a) ≡ 8 * bit_xor v i + bit_xor a j
eight-chip v a i j ha hj =
    let hi : (8 * i + j) / 8 ≡ i = omega arith in
    let lo : (8 * i + j) % 8 ≡ j = omega arith in
    chip-group (8 * i + j) v a ha
    ∙ ap₂ (λ (x y : ℕ). 8 * bit_xor x v + bit_xor y a) hi lo
    ∙ ap₂ (λ (x y : ℕ). 8 * x + y) (xor_comm i v) (xor_comm j a)

-- mode 255 reads the chips at the byte that has the bits 8i to 8i+7
spot-word : (v i t : ℕ) → v < 32 → i < 32 → spot 255 (8 * v) i t ≡ 32 * (8 * bit_xor v i + t) + i
spot-word v i t hv hi =
    let k = bit_xor v i in
    let g : 8 * v / 8 ≡ v = omega arith in
    let all : bit_and 31 k ≡ k = and_comm 31 k ∙ and_mask k 5 ∙ mod-eq_of_lt (xor_lt 5 v i hv hi) in
    ap (λ (x : ℕ). 32 * (8 * bit_xor x i + t) + bit_xor x (bit_and 31 (bit_xor x i))) g
    ∙ ap (λ (x : ℕ). 32 * (8 * k + t) + x) (ap (bit_xor v) all ∙ xor-twice v i)

module _ (bytes : List ℕ) where
  length-turned : length (turned bytes) ≡ 256
  unfolding turned
  length-turned = length-listed (turned_byte bytes) 256

  turned-bytes : (n : ℕ) → get_or (turned bytes) n 0 < 256
  unfolding turned
  turned-bytes = listed-bytes (turned_byte bytes) 256 (λ n. digits_of-lt (line_digit bytes 255 (n / 32) (n % 32)) (λ j. digit-bit _ _) 8)

  -- digit j of byte i of row a
  turned-digit : (a i j : ℕ) → a < 8 → i < 32 → j < 8 → digit (get_or (turned bytes) (32 * a + i) 0) j ≡ digit (get_or bytes (32 * bit_xor a j + i) 0) j
  unfolding turned
  turned-digit a i j ha hi hj =
      let row : (32 * a + i) / 32 ≡ a = omega arith in
      let at : (32 * a + i) % 32 ≡ i = omega arith in
      let low : a % 8 ≡ a = omega arith in
      ap (λ (x : ℕ). digit x j)
      (get_d-listed (turned_byte bytes) 256 (32 * a + i) (omega arith)
      ∙ ap₂ (λ (x y : ℕ). digits_of (line_digit bytes 255 x y) 8) row at)
      ∙ digits_of-at (line_digit bytes 255 a i) (λ k. digit-bit _ _) 8 j hj
      ∙ ap₂ (λ (x y : ℕ). digit (get_or bytes (32 * bit_xor x j + i) 0) y) low (sym (place-word a j hj))

  -- one row more, in the part that was lent on
  pub turned_more : (a : ℕ) (out row : List ℕ) → a < 8 → length out ≡ 256 → take (32 * a) out ≡ listed (turned_byte bytes) (32 * a)
      → row ≡ listed (λ i. digits_of (line_digit bytes 255 a i) 8) 32
      → take (32 * (a + 1)) (put_mid (32 * a) (32 * a + 32 - 32 * a) out row) ≡ listed (turned_byte bytes) (32 * (a + 1))
  turned_more a out row h size e er =
      let next : 32 * (a + 1) ≡ 32 * a + 32 = omega arith in
      let k : 32 ≡ 32 * a + 32 - 32 * a = omega arith in
      ap (λ (x : ℕ). take x (put_mid (32 * a) (32 * a + 32 - 32 * a) out row)) next
      ∙ part-more (turned_byte bytes) out (32 * a) (32 * a + 32) row (omega arith) (omega arith) e
      (er ∙ listed-ext (λ i. digits_of (line_digit bytes 255 a i) 8) (λ i. turned_byte bytes (32 * a + i)) 32 same ∙ ap (listed (λ i. turned_byte bytes (32 * a + i))) k)
      ∙ sym (ap (listed (turned_byte bytes)) next)
    where
      same : (i : ℕ) → i < 32 → digits_of (line_digit bytes 255 a i) 8 ≡ turned_byte bytes (32 * a + i)
      same i hi =
          let row : (32 * a + i) / 32 ≡ a = omega arith in
          let at : (32 * a + i) % 32 ≡ i = omega arith in
          sym (ap₂ (λ (x y : ℕ). digits_of (line_digit bytes 255 x y) 8) row at)

-- ---- eight words out

-- the bytes read for the words 8v to 8v+7 are those words turned
pub eight-out : (mem bytes : List ℕ) (v : ℕ) → v < 32 → bytes ≡ listed (λ n. get_or mem (spot 255 (8 * v) (n % 32) (n / 32)) 0) 256
    → turned bytes ≡ take 256 (drop (256 * v) (plain_words mem))
unfolding plain_words
eight-out mem bytes v hv e =
    ext_get_or 0 (turned bytes) (take 256 (drop (256 * v) (plain_words mem)))
    (length-turned bytes ∙ sym (length-take-le 256 (drop (256 * v) (plain_words mem)) (omega (arith, length-drop (256 * v) (plain_words mem), length-plain mem))))
    (λ n h.
    let hn : n < 256 = omega (arith, length-turned bytes) in
    byte_of-is (plain_bit mem) (256 * v + n) (get_or (turned bytes) n 0) (turned-bytes bytes n) (λ j hj. bit n j hn hj)
    ∙ sym (get_or-take 256 (drop (256 * v) (plain_words mem)) n 0 hn
    ∙ get_or-drop (256 * v) (plain_words mem) n 0
    ∙ get_d-listed (byte_of (plain_bit mem)) 8192 (256 * v + n) (omega arith)))
  where
    bit : (n j : ℕ) → n < 256 → j < 8 → digit (get_or (turned bytes) n 0) j ≡ plain_bit mem (8 * (256 * v + n) + j)
    bit n j hn hj =
        let a = n / 32 in
        let i = n % 32 in
        let t = bit_xor a j in
        let ht : t < 8 = xor_lt 3 a j (omega arith) hj in
        let split : n ≡ 32 * a + i = omega arith in
        let lo : (32 * t + i) % 32 ≡ i = omega arith in
        let hi : (32 * t + i) / 32 ≡ t = omega arith in
        let word : 8 * v + a ≡ (8 * (256 * v + n) + j) / 256 = omega arith in
        let place : 8 * i + j ≡ (8 * (256 * v + n) + j) % 256 = omega arith in
        ap (λ (x : ℕ). digit (get_or (turned bytes) x 0) j) split
        ∙ turned-digit bytes a i j (omega arith) (omega arith) hj
        ∙ ap (λ (x : ℕ). digit x j)
        (ap (λ (l : List ℕ). get_or l (32 * t + i) 0) e
        ∙ get_d-listed (λ n. get_or mem (spot 255 (8 * v) (n % 32) (n / 32)) 0) 256 (32 * t + i) (omega arith)
        ∙ ap₂ (λ (x y : ℕ). get_or mem (spot 255 (8 * v) x y) 0) lo hi
        ∙ ap (λ (x : ℕ). get_or mem x 0) (spot-word v i t hv (omega arith)))
        ∙ sym (cell-byte mem (8 * bit_xor v i + t) i j hj)
        ∙ ap (λ (c : ℕ). cell mem c (8 * i + j)) (sym (eight-chip v a i j (omega arith) hj))
        ∙ ap₂ (table (cell mem)) word place

-- ---- eight words in

-- one byte of eight chips more
pub put_more : (mem bytes : List ℕ) (v i k : ℕ) (w w' : List ℕ) → i + 1 ≡ k
    → w' ≡ written (λ t. 32 * (8 * bit_xor v i + t) + i) (λ t o. get_or bytes (32 * t + i) 0) w 8
    → w ≡ written (λ n. 32 * (8 * bit_xor v (n / 8) + n % 8) + n / 8) (λ n o. get_or bytes (32 * (n % 8) + n / 8) 0) mem (8 * i)
    → w' ≡ written (λ n. 32 * (8 * bit_xor v (n / 8) + n % 8) + n / 8) (λ n o. get_or bytes (32 * (n % 8) + n / 8) 0) mem (8 * k)
put_more mem bytes v i k w w' e r before =
    then-written (λ n. 32 * (8 * bit_xor v (n / 8) + n % 8) + n / 8) (λ n o. get_or bytes (32 * (n % 8) + n / 8) 0) mem
    (λ t. 32 * (8 * bit_xor v i + t) + i) (λ t o. get_or bytes (32 * t + i) 0) w w' (8 * i) 8 (8 * k) r before (omega arith)
    (λ t h.
    let hi : (8 * i + t) / 8 ≡ i = omega arith in
    let lo : (8 * i + t) % 8 ≡ t = omega arith in
    sym (ap₂ (λ (x y : ℕ). 32 * (8 * bit_xor v x + y) + x) hi lo))
    (λ t o h.
    let hi : (8 * i + t) / 8 ≡ i = omega arith in
    let lo : (8 * i + t) % 8 ≡ t = omega arith in
    sym (ap₂ (λ (x y : ℕ). get_or bytes (32 * y + x) 0) hi lo))

module _ (mem words : List ℕ) (v : ℕ) (size : length mem ≡ 8192) (bytes : (i : ℕ) → get_or mem i 0 < 256) (hv : v < 32) (eight : length words ≡ 256) where
  place : ℕ → ℕ
  place n = 32 * (8 * bit_xor v (n / 8) + n % 8) + n / 8

  value : ℕ → ℕ → ℕ
  value n o = get_or (turned words) (32 * (n % 8) + n / 8) 0

  after : List ℕ
  after = written place value mem 256

  abbrev content : List ℕ
  content = put_at (256 * v) words (plain_words mem)

  room : 256 * v + length words ≤ length (plain_words mem)
  room = omega (arith, length-plain mem)

  -- no two turns write one byte
  place-inj : (n m : ℕ) → n < 256 → m < 256 → place n ≡ place m → n ≡ m
  unfolding place
  place-inj n m hn hm e =
      let hi : n / 8 ≡ m / 8 = low_same (8 * bit_xor v (n / 8) + n % 8) (8 * bit_xor v (m / 8) + m % 8) (n / 8) (m / 8) (omega arith) (omega arith) e in
      let lo : n % 8 ≡ m % 8 = omega (arith, ap (bit_xor v) hi) in
      omega arith
    where
      low_same : (x y a b : ℕ) → a < 32 → b < 32 → 32 * x + a ≡ 32 * y + b → a ≡ b
      low_same x y a b ha hb e = omega arith

  -- byte i of the chip that has bit 8i + j of word 8v + a
  hit : (i t : ℕ) → i < 32 → t < 8 → get_or after (32 * (8 * bit_xor v i + t) + i) 0 ≡ get_or (turned words) (32 * t + i) 0
  unfolding after place value
  hit i t hi ht =
      let n = 8 * i + t in
      let g : n / 8 ≡ i = omega arith in
      let c : n % 8 ≡ t = omega arith in
      let k : bit_xor v i < 32 = xor_lt 5 v i hv hi in
      let at : 32 * (8 * bit_xor v i + t) + i ≡ place n = sym (ap₂ (λ (x y : ℕ). 32 * (8 * bit_xor v x + y) + x) g c) in
      ap (λ (x : ℕ). get_or after x 0) at
      ∙ written_at place value mem 256 n (λ m h e. place-inj n m (omega arith) h e) (omega arith) (omega arith)
      ∙ ap₂ (λ (x y : ℕ). get_or (turned words) (32 * y + x) 0) g c

  -- the bytes of every other word stay
  miss : (u i t : ℕ) → i < 32 → t < 8 → (u ≡ v → ⊥) → get_or after (32 * (8 * bit_xor u i + t) + i) 0 ≡ get_or mem (32 * (8 * bit_xor u i + t) + i) 0
  unfolding after place
  miss u i t hi ht other =
      written-off place value mem 256 (32 * (8 * bit_xor u i + t) + i)
      (λ n h e.
      let g : n / 8 ≡ i = omega arith in
      let same : bit_xor u i ≡ bit_xor v (n / 8) = omega arith in
      other (sym (xor-cancel u i) ∙ ap (λ (x : ℕ). bit_xor x i) (same ∙ ap (bit_xor v) g) ∙ xor-cancel v i))

  bit : (u a i j : ℕ) → u < 32 → a < 8 → i < 32 → j < 8 → cell after (8 * bit_xor u i + bit_xor a j) (8 * i + j) ≡ cell content (8 * u + a) (8 * i + j)
  bit u a i j hu ha hi hj = cell-byte after c i j hj ∙ go (ℕ_discrete u v) ∙ sym (cell-byte content (8 * u + a) i j hj)
    where
      t : ℕ
      t = bit_xor a j

      ht : t < 8
      ht = xor_lt 3 a j ha hj

      c : ℕ
      c = 8 * bit_xor u i + t

      go : Dec (u ≡ v) → digit (get_or after (32 * c + i) 0) j ≡ digit (get_or content (32 * (8 * u + a) + i) 0) j
      go (yes e) =
          let at : 32 * (8 * u + a) + i ≡ 256 * v + (32 * a + i) = omega arith in
          ap (λ (x : ℕ). digit (get_or after (32 * (8 * bit_xor x i + t) + i) 0) j) e
          ∙ ap (λ (x : ℕ). digit x j) (hit i t hi ht)
          ∙ turned-digit words t i j ht hi hj
          ∙ ap (λ (x : ℕ). digit (get_or words (32 * x + i) 0) j) (xor-cancel a j)
          ∙ sym (ap (λ (x : ℕ). digit x j) (ap (λ (x : ℕ). get_or content x 0) at ∙ put-at (256 * v) words (plain_words mem) room (32 * a + i) (omega arith)))
      go (no other) =
          ap (λ (x : ℕ). digit x j) (miss u i t hi ht other)
          ∙ sym (cell-byte mem c i j hj)
          ∙ ap (λ (x : ℕ). cell mem x (8 * i + j)) (sym (eight-chip u a i j ha hj))
          ∙ sym (plain-bit mem (8 * u + a) (8 * i + j) (omega arith) (omega arith))
          ∙ cell-byte (plain_words mem) (8 * u + a) i j hj
          ∙ sym (ap (λ (x : ℕ). digit x j) (put-off (256 * v) words (plain_words mem) room (32 * (8 * u + a) + i) (λ k h e. other (omega arith))))

  -- the bytes of eight words turned, written to the chips, put the words into the memory
  pub eight-in : (rows : List ℕ) → rows ≡ turned words
      → written (λ n. 32 * (8 * bit_xor v (n / 8) + n % 8) + n / 8) (λ n o. get_or rows (32 * (n % 8) + n / 8) 0) mem 256
      ≡ scrambled (put_at (256 * v) words (plain_words mem))
  unfolding scrambled after place value
  eight-in rows e =
      ap (λ (l : List ℕ). written place (λ n o. get_or l (32 * (n % 8) + n / 8) 0) mem 256) e
      ∙ pack-is (scrambled_bit content) 8192 after (length-written place value mem 256 ∙ size)
      (written-bytes place value mem 256 bytes (λ n o h l. turned-bytes words (32 * (n % 8) + n / 8)))
      (λ k h.
      let c = k / 256 in
      let b = k % 256 in
      let w = bit_xor b c in
      let hw : w < 256 = xor_lt 8 b c (omega arith) (omega arith) in
      let all : k ≡ 256 * c + b = omega arith in
      let eb : b ≡ 8 * (b / 8) + b % 8 = omega arith in
      let ew : w ≡ 8 * (w / 8) + w % 8 = omega arith in
      let chip : c ≡ 8 * bit_xor (w / 8) (b / 8) + bit_xor (w % 8) (b % 8) =
      sym (xor-twice b c) ∙ ap₂ bit_xor eb ew ∙ eight-chip (w / 8) (w % 8) (b / 8) (b % 8) (omega arith) (omega arith) in
      ap (bit_of after) all
      ∙ ap₂ (cell after) chip eb
      ∙ bit (w / 8) (w % 8) (b / 8) (b % 8) (omega arith) (omega arith) (omega arith) (omega arith)
      ∙ sym (ap₂ (cell content) ew eb))
