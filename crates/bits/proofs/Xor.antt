-- Laws of xor, of and, of or, and of the complement below 2 ^ n, over the width n. Assumes nothing.
use mathlib.Core.Path.{◌≡◌, refl, sym, ap, ap₂, ◌∙◌}
use Prim.Native.Nat.{ℕ, zero, suc, ◌+◌, ◌-◌, ◌*◌, ◌/◌, ◌%◌, ◌^◌, ◌<◌, min, max}
use native.Mathlib.Nat.{pow-suc, mod-lt}
use native.Mathlib.Omega.{arith}
use lib.Arith.{bin_ind, digits_div, digits_mod, lt-one}
use lib.Pow.{pow_pos, split}
use lib.Bits.{bit_and, bit_or, bit_xor, differ, and_mask, and_step, or_step, xor_step, xor_zero_r, xor_self, xor_comm, xor_shr, and_shr, or_shr, xor_block, and_block}
use Rattle.bits.proofs.Binary.{bit-lt, low_bit, differ-bit, min-bit, max-bit, differ-assoc, min-differ, differ-min}

-- ---- the lowest digit and the rest

pub xor_low : (a b : ℕ) → bit_xor a b % 2 ≡ differ (a % 2) (b % 2)
xor_low a b =
    ap (λ (x : ℕ). x % 2) (xor_step a b)
    ∙ digits_mod (bit_xor (a / 2) (b / 2)) (bit-lt (differ-bit (low_bit a) (low_bit b)))

pub xor-half : (a b : ℕ) → bit_xor a b / 2 ≡ bit_xor (a / 2) (b / 2)
xor-half a b =
    ap (λ (x : ℕ). x / 2) (xor_step a b)
    ∙ digits_div (bit_xor (a / 2) (b / 2)) (bit-lt (differ-bit (low_bit a) (low_bit b)))

pub and_low : (a b : ℕ) → bit_and a b % 2 ≡ min (a % 2) (b % 2)
and_low a b =
    ap (λ (x : ℕ). x % 2) (and_step a b)
    ∙ digits_mod (bit_and (a / 2) (b / 2)) (bit-lt (min-bit (low_bit a) (low_bit b)))

pub and-half : (a b : ℕ) → bit_and a b / 2 ≡ bit_and (a / 2) (b / 2)
and-half a b =
    ap (λ (x : ℕ). x / 2) (and_step a b)
    ∙ digits_div (bit_and (a / 2) (b / 2)) (bit-lt (min-bit (low_bit a) (low_bit b)))

pub or-low : (a b : ℕ) → bit_or a b % 2 ≡ max (a % 2) (b % 2)
or-low a b =
    ap (λ (x : ℕ). x % 2) (or_step a b)
    ∙ digits_mod (bit_or (a / 2) (b / 2)) (bit-lt (max-bit (low_bit a) (low_bit b)))

pub digit-xor : (a b j : ℕ) → bit_xor a b / 2 ^ j % 2 ≡ differ (a / 2 ^ j % 2) (b / 2 ^ j % 2)
digit-xor a b j = ap (λ (x : ℕ). x % 2) (xor_shr a b j) ∙ xor_low (a / 2 ^ j) (b / 2 ^ j)

pub digit_and : (a b j : ℕ) → bit_and a b / 2 ^ j % 2 ≡ min (a / 2 ^ j % 2) (b / 2 ^ j % 2)
digit_and a b j = ap (λ (x : ℕ). x % 2) (and_shr a b j) ∙ and_low (a / 2 ^ j) (b / 2 ^ j)

pub digit_or : (a b j : ℕ) → bit_or a b / 2 ^ j % 2 ≡ max (a / 2 ^ j % 2) (b / 2 ^ j % 2)
digit_or a b j = ap (λ (x : ℕ). x % 2) (or_shr a b j) ∙ or-low (a / 2 ^ j) (b / 2 ^ j)

-- ---- xor is a group, and and goes over it

pub xor_assoc : (a b c : ℕ) → bit_xor (bit_xor a b) c ≡ bit_xor a (bit_xor b c)
xor_assoc =
    bin_ind (λ (n : ℕ). (b c : ℕ) → bit_xor (bit_xor n b) c ≡ bit_xor n (bit_xor b c)) (λ b c. refl)
    (λ n ih b c. xor_step (bit_xor n b) c
    ∙ ap₂ (λ (x y : ℕ). bit_xor x (c / 2) * 2 + differ y (c % 2)) (xor-half n b) (xor_low n b)
    ∙ ap₂ (λ (x y : ℕ). x * 2 + y) (ih (b / 2) (c / 2)) (differ-assoc (low_bit n) (low_bit b) (low_bit c))
    ∙ sym (ap₂ (λ (x y : ℕ). bit_xor (n / 2) x * 2 + differ (n % 2) y) (xor-half b c) (xor_low b c))
    ∙ sym (xor_step n (bit_xor b c)))

pub xor-twice : (a b : ℕ) → bit_xor a (bit_xor a b) ≡ b
xor-twice a b = sym (xor_assoc a a b) ∙ ap (λ (x : ℕ). bit_xor x b) (xor_self a)

pub xor-cancel : (a b : ℕ) → bit_xor (bit_xor a b) b ≡ a
xor-cancel a b = xor_assoc a b b ∙ ap (bit_xor a) (xor_self b) ∙ xor_zero_r a

pub xor-inj : (a b c : ℕ) → bit_xor a b ≡ bit_xor a c → b ≡ c
xor-inj a b c e = sym (xor-twice a b) ∙ ap (bit_xor a) e ∙ xor-twice a c

pub xor-four : (a b c d : ℕ) → bit_xor (bit_xor a b) (bit_xor c d) ≡ bit_xor (bit_xor a c) (bit_xor d b)
xor-four a b c d =
    xor_assoc a b (bit_xor c d)
    ∙ ap (bit_xor a) (xor_comm b (bit_xor c d) ∙ xor_assoc c d b)
    ∙ sym (xor_assoc a c (bit_xor d b))

pub and_xor : (a b c : ℕ) → bit_and a (bit_xor b c) ≡ bit_xor (bit_and a b) (bit_and a c)
and_xor =
    bin_ind (λ (n : ℕ). (b c : ℕ) → bit_and n (bit_xor b c) ≡ bit_xor (bit_and n b) (bit_and n c)) (λ b c. refl)
    (λ n ih b c. and_step n (bit_xor b c)
    ∙ ap₂ (λ (x y : ℕ). bit_and (n / 2) x * 2 + min (n % 2) y) (xor-half b c) (xor_low b c)
    ∙ ap₂ (λ (x y : ℕ). x * 2 + y) (ih (b / 2) (c / 2)) (min-differ (low_bit n) (low_bit b) (low_bit c))
    ∙ sym (ap₂ (λ (x y : ℕ). x * 2 + y)
    (ap₂ bit_xor (and-half n b) (and-half n c))
    (ap₂ differ (and_low n b) (and_low n c)))
    ∙ sym (xor_step (bit_and n b) (bit_and n c)))

-- ---- "not m" is 2 ^ n - 1 - m

-- what m leaves of g is what its complement keeps
pub xor-and-not : (n m g : ℕ) → m < 2 ^ n → g < 2 ^ n → bit_xor g (bit_and m g) ≡ bit_and (2 ^ n - 1 - m) g
xor-and-not zero m g hm hg = rw (lt-one hg, lt-one hm) refl
xor-and-not (suc n) m g hm hg =
    let e : 2 ^ suc n ≡ 2 ^ n * 2 = pow-suc 2 n in
    let hi : (2 ^ suc n - 1 - m) / 2 ≡ 2 ^ n - 1 - m / 2 = omega arith in
    let lo : (2 ^ suc n - 1 - m) % 2 ≡ 1 - m % 2 = omega arith in
    xor_step g (bit_and m g)
    ∙ ap₂ (λ (x y : ℕ). bit_xor (g / 2) x * 2 + differ (g % 2) y) (and-half m g) (and_low m g)
    ∙ ap₂ (λ (x y : ℕ). x * 2 + y) (xor-and-not n (m / 2) (g / 2) (omega arith) (omega arith)) (differ-min (low_bit m) (low_bit g))
    ∙ sym (ap₂ (λ (x y : ℕ). bit_and x (g / 2) * 2 + min y (g % 2)) hi lo)
    ∙ sym (and_step (2 ^ suc n - 1 - m) g)

-- a mask and its complement split a number
pub and-join : (n m g : ℕ) → m < 2 ^ n → g < 2 ^ n → bit_xor (bit_and (2 ^ n - 1 - m) g) (bit_and m g) ≡ g
and-join n m g hm hg = ap (λ (x : ℕ). bit_xor x (bit_and m g)) (sym (xor-and-not n m g hm hg)) ∙ xor-cancel g (bit_and m g)

-- across all eight digits a number is what it lacks of 255: the mirror of 256 lines
pub xor-mirror : (k : ℕ) → k < 256 → bit_xor k 255 ≡ 255 - k
xor-mirror k h =
    let e : k % 2 ^ 8 ≡ k = omega arith in
    xor_comm k 255
    ∙ ap (bit_xor 255) (sym (and_mask k 8 ∙ e))
    ∙ xor-and-not 8 k 255 h (omega arith)
    ∙ and_mask (255 - k) 8
    ∙ omega arith

-- ---- the k low digits and the rest apart

pub xor-split : (k g i j : ℕ) → j < 2 ^ k → bit_xor g (i * 2 ^ k + j) ≡ bit_xor (g / 2 ^ k) i * 2 ^ k + bit_xor (g % 2 ^ k) j
xor-split k g i j h = ap (λ (x : ℕ). bit_xor x (i * 2 ^ k + j)) (sym (split g k)) ∙ xor_block k (g / 2 ^ k) i (g % 2 ^ k) j (mod-lt g (pow_pos k)) h

pub and_split : (k m i j : ℕ) → j < 2 ^ k → bit_and m (i * 2 ^ k + j) ≡ bit_and (m / 2 ^ k) i * 2 ^ k + bit_and (m % 2 ^ k) j
and_split k m i j h = ap (λ (x : ℕ). bit_and x (i * 2 ^ k + j)) (sym (split m k)) ∙ and_block k (m / 2 ^ k) i (m % 2 ^ k) j (mod-lt m (pow_pos k)) h
