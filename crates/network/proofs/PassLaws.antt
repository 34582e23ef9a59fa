-- Laws of the arithmetic form: a pass is a permutation of the lines, and the passed item is the only one with each bit at its line. Assumes nothing.
use mathlib.Core.Path.{◌≡◌, sym, ap, ap₂, ◌∙◌, subst}
use mathlib.Core.List.{List}
use Prim.Native.Nat.{ℕ, ◌+◌, ◌-◌, ◌*◌, ◌/◌, ◌%◌, ◌^◌, ◌≤◌, ◌<◌}
use native.Mathlib.Nat.{mod-lt, mod-eq_of_lt, mod-one, mod-add-mod, add-mod_right, add-zero, mul-one, div-one, div-eq_of_lt}
use native.Mathlib.Omega.{arith}
use lib.ListN.{length, get_or}
use lib.Pow.{pow_pos, pow_mono, split, high, shr-shr}
use lib.Bits.{bit_xor, xor_lt}
use lib.Arith.{digits_div, digits_mod}
use Rattle.bits.specs.Bits.{bit_of, item}
use Rattle.bits.proofs.Binary.{Bit}
use Rattle.bits.proofs.Xor.{xor_assoc, xor-cancel}
use Rattle.bits.proofs.Items.{bit_of-bit, bit_of-pack, pack-is}
use Rattle.network.specs.Pass.{shifted, moved, unshifted, source, passed}

-- ---- a step forward and a step back, in a circle of P

circle : (P q r a b : ℕ) → r < P → a + b ≡ P → (q * P + (r + a) % P) / P * P + ((q * P + (r + a) % P) % P + b) % P ≡ q * P + r
circle P q r a b h e =
    let s : (r + a) % P < P = mod-lt (r + a) (omega arith) in
    ap₂ (λ (y z : ℕ). y * P + (z + b) % P) (digits_div q s) (digits_mod q s)
    ∙ ap (λ (y : ℕ). q * P + y)
    (mod-add-mod (r + a) P b ∙ ap (λ (y : ℕ). y % P) (let d : r + a + b ≡ r + P = omega arith in d) ∙ add-mod_right r P ∙ mod-eq_of_lt h)

pub unshifted-shifted : (p m i : ℕ) → m ≤ p → unshifted p m (shifted p m i) ≡ i
unfolding shifted unshifted
unshifted-shifted p m i h =
    circle (2 ^ p) (i / 2 ^ p) (i % 2 ^ p) (2 ^ m) (2 ^ p - 2 ^ m) (mod-lt i (pow_pos p)) (omega (arith, pow_mono h)) ∙ split i p

pub shifted-unshifted : (p m k : ℕ) → m ≤ p → shifted p m (unshifted p m k) ≡ k
unfolding shifted unshifted
shifted-unshifted p m k h =
    circle (2 ^ p) (k / 2 ^ p) (k % 2 ^ p) (2 ^ p - 2 ^ m) (2 ^ m) (mod-lt k (pow_pos p)) (omega (arith, pow_mono h)) ∙ split k p

-- ---- lines stay lines

-- another rest in the same block stays below a higher power
block-lt : (n p x z : ℕ) → p ≤ n → x < 2 ^ n → z < 2 ^ p → x / 2 ^ p * 2 ^ p + z < 2 ^ n
block-lt n p x z h l k =
    let e : p + (n - p) ≡ n = omega arith in
    let same : (x / 2 ^ p * 2 ^ p + z) / 2 ^ n ≡ 0 =
    subst (λ (j : ℕ). (x / 2 ^ p * 2 ^ p + z) / 2 ^ j ≡ x / 2 ^ j) e
    (sym (shr-shr (x / 2 ^ p * 2 ^ p + z) p (n - p)) ∙ ap (λ (y : ℕ). y / 2 ^ (n - p)) (high (x / 2 ^ p) p k) ∙ shr-shr x p (n - p))
    ∙ div-eq_of_lt l in
    omega (arith, split (x / 2 ^ p * 2 ^ p + z) n, mod-lt (x / 2 ^ p * 2 ^ p + z) (pow_pos n), ap (λ (y : ℕ). y * 2 ^ n) same)

pub shifted-lt : (n p m i : ℕ) → p ≤ n → i < 2 ^ n → shifted p m i < 2 ^ n
unfolding shifted
shifted-lt n p m i h l = block-lt n p i ((i % 2 ^ p + 2 ^ m) % 2 ^ p) h l (mod-lt (i % 2 ^ p + 2 ^ m) (pow_pos p))

pub unshifted-lt : (n p m k : ℕ) → p ≤ n → k < 2 ^ n → unshifted p m k < 2 ^ n
unfolding unshifted
unshifted-lt n p m k h l = block-lt n p k ((k % 2 ^ p + (2 ^ p - 2 ^ m)) % 2 ^ p) h l (mod-lt (k % 2 ^ p + (2 ^ p - 2 ^ m)) (pow_pos p))

pub moved-lt : (n f p m i : ℕ) → p ≤ n → f < 2 ^ n → i < 2 ^ n → moved f p m i < 2 ^ n
unfolding moved
moved-lt n f p m i h k l = shifted-lt n p m (bit_xor i f) h (xor_lt n i f l k)

pub source-lt : (n f p m k : ℕ) → p ≤ n → f < 2 ^ n → k < 2 ^ n → source f p m k < 2 ^ n
unfolding source
source-lt n f p m k h l q = xor_lt n (unshifted p m k) f (unshifted-lt n p m k h q) l

-- ---- a pass is a permutation of the lines

pub source-moved : (f p m i : ℕ) → m ≤ p → source f p m (moved f p m i) ≡ i
unfolding source moved
source-moved f p m i h = ap (λ (y : ℕ). bit_xor y f) (unshifted-shifted p m (bit_xor i f) h) ∙ xor-cancel i f

pub moved-source : (f p m k : ℕ) → m ≤ p → moved f p m (source f p m k) ≡ k
unfolding source moved
moved-source f p m k h = ap (shifted p m) (xor-cancel (unshifted p m k) f) ∙ shifted-unshifted p m k h

-- no two lines meet
pub moved-injective : (f p m i j : ℕ) → m ≤ p → moved f p m i ≡ moved f p m j → i ≡ j
moved-injective f p m i j h e = sym (source-moved f p m i h) ∙ ap (source f p m) e ∙ source-moved f p m j h

-- and each line of the network is reached
pub moved-onto : (n f p m k : ℕ) → m ≤ p → p ≤ n → f < 2 ^ n → k < 2 ^ n → (i : ℕ) × (i < 2 ^ n) × (moved f p m i ≡ k)
moved-onto n f p m k h q l b = (source f p m k, source-lt n f p m k q l b, moved-source f p m k h)

-- ---- none, and flips

pub shifted_none : (m i : ℕ) → shifted 0 m i ≡ i
unfolding shifted
shifted_none m i = ap₂ (λ (y z : ℕ). y + z) (mul-one (i / 1) ∙ div-one i) (mod-one (i % 1 + 2 ^ m)) ∙ add-zero i

pub unshifted-none : (m k : ℕ) → unshifted 0 m k ≡ k
unfolding unshifted
unshifted-none m k = ap₂ (λ (y z : ℕ). y + z) (mul-one (k / 1) ∙ div-one k) (mod-one (k % 1 + (1 - 2 ^ m))) ∙ add-zero k

-- flips are their own inverse, and two make one
pub flip_twice : (f i : ℕ) → moved f 0 0 (moved f 0 0 i) ≡ i
unfolding moved
flip_twice f i = shifted_none 0 (bit_xor (shifted 0 0 (bit_xor i f)) f) ∙ ap (λ (y : ℕ). bit_xor y f) (shifted_none 0 (bit_xor i f)) ∙ xor-cancel i f

pub flip-flip : (f g i : ℕ) → moved g 0 0 (moved f 0 0 i) ≡ moved (bit_xor f g) 0 0 i
unfolding moved
flip-flip f g i =
    shifted_none 0 (bit_xor (shifted 0 0 (bit_xor i f)) g)
    ∙ ap (λ (y : ℕ). bit_xor y g) (shifted_none 0 (bit_xor i f))
    ∙ xor_assoc i f g
    ∙ sym (shifted_none 0 (bit_xor i (bit_xor f g)))

-- ---- items

pub passed-bit : (l : List ℕ) (f p m k : ℕ) → Bit (passed l f p m k)
unfolding passed
passed-bit l f p m k = bit_of-bit l _

module _ (l : List ℕ) (f p m : ℕ) (below : m ≤ p) (within : p ≤ 8) (byte : f < 256) where
  -- the passed item has at line moved i what the item had at line i
  pub passed-at : (i : ℕ) → i < 256 → bit_of (item (passed l f p m)) (moved f p m i) ≡ bit_of l i
  unfolding passed
  passed-at i h =
      bit_of-pack (λ k. bit_of l (source f p m k)) (λ k. bit_of-bit l (source f p m k)) 32 (moved f p m i) (moved-lt 8 f p m i within byte h)
      ∙ ap (bit_of l) (source-moved f p m i below)

  -- so each bit of it is some bit of the item
  pub passed-from : (k : ℕ) → k < 256 → (i : ℕ) × (i < 256) × (moved f p m i ≡ k) × (bit_of (item (passed l f p m)) k ≡ bit_of l i)
  passed-from k h =
      let i : ℕ = source f p m k in
      let b : i < 256 = source-lt 8 f p m k within byte h in
      let e : moved f p m i ≡ k = moved-source f p m k below in
      (i, b, e, ap (bit_of (item (passed l f p m))) (sym e) ∙ passed-at i b)

  -- and no other item has: what a contract says of a pass, only one list meets
  pub passed-only : (r : List ℕ) → length r ≡ 32 → ((i : ℕ) → get_or r i 0 < 256) → ((i : ℕ) → i < 256 → bit_of r (moved f p m i) ≡ bit_of l i)
      → r ≡ item (passed l f p m)
  unfolding passed
  passed-only r n b at =
      pack-is (passed l f p m) 32 r n b
      (λ k h. ap (bit_of r) (sym (moved-source f p m k below)) ∙ at (source f p m k) (source-lt 8 f p m k within byte h))
