-- The wired form agrees with the arithmetic form, over the number of levels. Assumes nothing.
use mathlib.Core.Path.{◌≡◌, refl, sym, ap, ap₂, ◌∙◌, subst}
use mathlib.Core.Bool.{Bool, true, false, cond, ◌&&◌}
use mathlib.Core.Logic.{◌⊎◌, inl, inr, ⊎_elim}
use mathlib.Core.List.{List}
use Prim.Native.Nat.{ℕ, zero, suc, ◌+◌, ◌-◌, ◌*◌, ◌/◌, ◌%◌, ◌^◌, ◌≤◌, ◌<◌, zero-le, suc-le-suc}
use native.Mathlib.Nat.{suc-mul, add-mul, add_assoc, add-mul-div_right, mod-lt, mod-eq_of_lt, pow-suc, mul_assoc, mul_comm, div-eq_of_lt, mod-add-mod, mul-one, add-zero, mod-one, div-one}
use native.Mathlib.Numerals.{add-one, one-add}
use native.Mathlib.Omega.{arith}
use lib.Bits.{bit_xor, differ, xor_step, xor_block, xor_zero_r, xor_lt}
use lib.Dec.{leb, ltb}
use lib.Pow.{pow_pos, pow_mono, pow-lt, pow-add, split, high, low, mod-pow-add, shr-shr, mod-mod-pow, field}
use borrow.Author.Tests.{lt-ltb, le-ltb, le-leb, lt-leb}
use Rattle.bits.specs.Bits.{digit, bit_of, item}
use Rattle.bits.proofs.Binary.{Bit, off, on, low_bit, digit-bit, differ-bit, differ-assoc}
use Rattle.bits.proofs.Xor.{digit-xor, xor-cancel}
use Rattle.bits.proofs.Items.{bit_of-bit, bit_of-pack, pack-ext}
use Rattle.network.specs.Shifts.{signal}
use Rattle.network.specs.Pass.{shifted, moved, source, passed}
use Rattle.network.specs.Wired.{significant, swapped, level, wired, levelled, wired_item}
use Rattle.network.proofs.Significant.{significant-le, significant-gt}
use Rattle.network.proofs.PassLaws.{moved-lt, source-moved}

le-or-lt : (a b : ℕ) → (a ≤ b) ⊎ (b < a)
le-or-lt zero b = inl zero-le
le-or-lt (suc a) zero = inr (suc-le-suc zero-le)
le-or-lt (suc a) (suc b) = ⊎_elim (λ p. inl (suc-le-suc p)) (λ q. inr (suc-le-suc q)) (le-or-lt a b)

-- ---- one digit

xor-bit : (a : ℕ) {s : ℕ} → Bit s → bit_xor a s ≡ a / 2 * 2 + differ (a % 2) s
xor-bit a off = xor_step a 0 ∙ ap (λ (x : ℕ). x * 2 + differ (a % 2) 0) (xor_zero_r (a / 2))
xor-bit a on = xor_step a 1 ∙ ap (λ (x : ℕ). x * 2 + differ (a % 2) 1) (xor_zero_r (a / 2))

xor-differ : {x y : ℕ} → Bit x → Bit y → bit_xor x y ≡ differ x y
xor-differ off off = refl
xor-differ off on = refl
xor-differ on off = refl
xor-differ on on = refl

differ_comm : {x y : ℕ} → Bit x → Bit y → differ x y ≡ differ y x
differ_comm off off = refl
differ_comm off on = refl
differ_comm on off = refl
differ_comm on on = refl

differ-zero : {x : ℕ} → Bit x → differ x 0 ≡ x
differ-zero off = refl
differ-zero on = refl

differ-one : (a : ℕ) → suc a % 2 ≡ differ (a % 2) 1
differ-one a = go (low_bit a) (omega arith)
  where
    go : {d : ℕ} → Bit d → suc a % 2 ≡ 1 - d → suc a % 2 ≡ differ d 1
    go off e = e
    go on e = e

-- a swap touches digit j and nothing else
swap-digits : (j s x : ℕ) → Bit s → swapped j s x ≡ bit_xor (x / 2 ^ j) s * 2 ^ j + x % 2 ^ j
swap-digits j s x off = sym (ap (λ (y : ℕ). y * 2 ^ j + x % 2 ^ j) (xor_zero_r (x / 2 ^ j)) ∙ split x j)
swap-digits j s x on =
    ap₂ bit_xor (sym (split x j)) one
    ∙ xor_block j (x / 2 ^ j) 1 (x % 2 ^ j) 0 (mod-lt x (pow_pos j)) (pow_pos j)
    ∙ ap (λ (y : ℕ). bit_xor (x / 2 ^ j) 1 * 2 ^ j + y) (xor_zero_r (x % 2 ^ j))
  where
    one : 2 ^ j ≡ 1 * 2 ^ j + 0
    one = omega arith

-- ---- the carry: adding t, at most 2 ^ n, goes over into digit n exactly where what is left below is less than t

stays : (n x t : ℕ) → x % 2 ^ n + t < 2 ^ n → ((x + t) / 2 ^ n ≡ x / 2 ^ n) × ((x + t) % 2 ^ n ≡ x % 2 ^ n + t)
stays n x t l =
    let e : x + t ≡ x / 2 ^ n * 2 ^ n + (x % 2 ^ n + t) = omega (arith, split x n) in
    (ap (λ (y : ℕ). y / 2 ^ n) e ∙ high (x / 2 ^ n) n l, ap (λ (y : ℕ). y % 2 ^ n) e ∙ low (x / 2 ^ n) n l)

goes_over : (n x t : ℕ) → 2 ^ n ≤ x % 2 ^ n + t → t ≤ 2 ^ n → ((x + t) / 2 ^ n ≡ suc (x / 2 ^ n)) × ((x + t) % 2 ^ n ≡ x % 2 ^ n + t - 2 ^ n)
goes_over n x t l h =
    let lo : x % 2 ^ n + t - 2 ^ n < 2 ^ n = omega (arith, mod-lt x (pow_pos n)) in
    let e : x + t ≡ suc (x / 2 ^ n) * 2 ^ n + (x % 2 ^ n + t - 2 ^ n) = omega (arith, split x n, suc-mul (x / 2 ^ n) (2 ^ n)) in
    (ap (λ (y : ℕ). y / 2 ^ n) e ∙ high (suc (x / 2 ^ n)) n lo, ap (λ (y : ℕ). y % 2 ^ n) e ∙ low (suc (x / 2 ^ n)) n lo)

add-below : (n x t : ℕ) → t ≤ 2 ^ n
    → (((x + t) / 2 ^ n ≡ x / 2 ^ n) × (t ≤ (x + t) % 2 ^ n)) ⊎ (((x + t) / 2 ^ n ≡ suc (x / 2 ^ n)) × ((x + t) % 2 ^ n < t))
add-below n x t h =
    ⊎_elim (λ l. let g = goes_over n x t l h in inr (g.0, omega (arith, g.1, mod-lt x (pow_pos n))))
    (λ l. let g = stays n x t l in inl (g.0, omega (arith, g.1)))
    (le-or-lt (2 ^ n) (x % 2 ^ n + t))

-- ---- what a shift does to the digits from n on, where p ≤ n, and to those below n, where n ≤ p

shifted-high : (p m x n : ℕ) → p ≤ n → shifted p m x / 2 ^ n ≡ x / 2 ^ n
unfolding shifted
shifted-high p m x n h =
    let e : p + (n - p) ≡ n = omega arith in
    subst (λ (k : ℕ). shifted p m x / 2 ^ k ≡ x / 2 ^ k) e
    (sym (shr-shr (shifted p m x) p (n - p)) ∙ ap (λ (y : ℕ). y / 2 ^ (n - p)) (high (x / 2 ^ p) p (mod-lt (x % 2 ^ p + 2 ^ m) (pow_pos p))) ∙ shr-shr x p (n - p))

shifted-low : (p m x n : ℕ) → n ≤ p → shifted p m x % 2 ^ n ≡ (x + 2 ^ m) % 2 ^ n
unfolding shifted
shifted-low p m x n h =
    let e : p - n + n ≡ p = omega arith in
    let whole : shifted p m x % 2 ^ p ≡ (x + 2 ^ m) % 2 ^ p = low (x / 2 ^ p) p (mod-lt (x % 2 ^ p + 2 ^ m) (pow_pos p)) ∙ mod-add-mod x (2 ^ p) (2 ^ m) in
    sym (subst (λ (k : ℕ). shifted p m x % 2 ^ k % 2 ^ n ≡ shifted p m x % 2 ^ n) e (mod-mod-pow (shifted p m x) (p - n) n))
    ∙ ap (λ (y : ℕ). y % 2 ^ n) whole
    ∙ subst (λ (k : ℕ). (x + 2 ^ m) % 2 ^ k % 2 ^ n ≡ (x + 2 ^ m) % 2 ^ n) e (mod-mod-pow (x + 2 ^ m) (p - n) n)

-- digit n is decided by the digits up to n
digit-of : (x y n : ℕ) → x % 2 ^ (1 + n) ≡ y % 2 ^ (1 + n) → digit x n ≡ digit y n
digit-of x y n e = sym (field x 1 n) ∙ ap (λ (z : ℕ). z / 2 ^ n) e ∙ field y 1 n

shifted-digit : (p m x n : ℕ) → n < p → digit (shifted p m x) n ≡ digit (x + 2 ^ m) n
shifted-digit p m x n h = digit-of (shifted p m x) (x + 2 ^ m) n (shifted-low p m x (1 + n) (omega arith))

-- a shift by 2 ^ m leaves the digits below m
low-stays : (m x n : ℕ) → n < m → digit (x + 2 ^ m) n ≡ digit x n
low-stays m x n h =
    let e : m - suc n + 1 + n ≡ m = omega arith in
    let q : 2 ^ m ≡ 2 ^ (m - suc n) * 2 * 2 ^ n =
    subst (λ (k : ℕ). 2 ^ k ≡ 2 ^ (m - suc n) * 2 * 2 ^ n) e (pow-add 2 (m - suc n + 1) n ∙ ap (λ (y : ℕ). y * 2 ^ n) (pow-add 2 (m - suc n) 1)) in
    let d : (x + 2 ^ m) / 2 ^ n ≡ x / 2 ^ n + 2 ^ (m - suc n) * 2 = ap (λ (y : ℕ). (x + y) / 2 ^ n) q ∙ add-mul-div_right x (2 ^ (m - suc n) * 2) (pow_pos n) in
    omega arith

-- ---- the shift's signals

signal-below : (p m j k : ℕ) → j < m → signal p m j k ≡ 0
unfolding signal
signal-below p m j k h = rw (lt-leb m j h)

signal-above : (p m j k : ℕ) → p ≤ j → signal p m j k ≡ 0
unfolding signal
signal-above p m j k h = ap (λ (b : Bool). cond {A = ℕ} (leb m j && b && leb k m) 1 0) (le-ltb j p h) ∙ go (leb m j)
  where
    go : (b : Bool) → ◌≡◌ {A = ℕ} (cond (b && false && leb k m) 1 0) 0
    go true = refl
    go false = refl

signal-on : (p m j k : ℕ) → m ≤ j → j < p → k ≤ m → signal p m j k ≡ 1
unfolding signal
signal-on p m j k a b c = rw (le-leb m j a, lt-ltb j p b, le-leb k m c)

signal-off : (p m j k : ℕ) → m ≤ j → j < p → m < k → signal p m j k ≡ 0
unfolding signal
signal-off p m j k a b c = rw (le-leb m j a, lt-ltb j p b, lt-leb k m c)

pub signal-bit : (p m j k : ℕ) → Bit (signal p m j k)
unfolding signal
signal-bit p m j k = go (leb m j && ltb j p && leb k m)
  where
    go : (b : Bool) → Bit (cond b 1 0)
    go true = on
    go false = off

-- ---- digit n of the shifted line is digit n of the line, turned by the signal that the digits below n of the shifted line pick

no-turn : (p m x n : ℕ) → digit (shifted p m x) n ≡ digit x n → signal p m n (significant (shifted p m x % 2 ^ n)) ≡ 0
    → digit (shifted p m x) n ≡ differ (digit x n) (signal p m n (significant (shifted p m x % 2 ^ n)))
no-turn p m x n e s = e ∙ sym (differ-zero (digit-bit x n)) ∙ ap (differ (digit x n)) (sym s)

carry : (p m x n : ℕ) → digit (shifted p m x) n ≡ differ (digit x n) (signal p m n (significant (shifted p m x % 2 ^ n)))
carry p m x n = ⊎_elim above (λ (h : n < p). ⊎_elim (inside h) (below h) (le-or-lt m n)) (le-or-lt p n)
  where
    above : p ≤ n → digit (shifted p m x) n ≡ differ (digit x n) (signal p m n (significant (shifted p m x % 2 ^ n)))
    above h = no-turn p m x n (ap (λ (y : ℕ). y % 2) (shifted-high p m x n h)) (signal-above p m n _ h)

    below : n < p → n < m → digit (shifted p m x) n ≡ differ (digit x n) (signal p m n (significant (shifted p m x % 2 ^ n)))
    below h l = no-turn p m x n (shifted-digit p m x n h ∙ low-stays m x n l) (signal-below p m n _ l)

    inside : n < p → m ≤ n → digit (shifted p m x) n ≡ differ (digit x n) (signal p m n (significant (shifted p m x % 2 ^ n)))
    inside h l =
        let r : shifted p m x % 2 ^ n ≡ (x + 2 ^ m) % 2 ^ n = shifted-low p m x n (omega arith) in
        ⊎_elim
        (λ g. no-turn p m x n (shifted-digit p m x n h ∙ ap (λ (y : ℕ). y % 2) g.0) (signal-off p m n _ l h (significant-gt _ m (subst (λ (y : ℕ). 2 ^ m ≤ y) (sym r) g.1))))
        (λ g. shifted-digit p m x n h ∙ ap (λ (y : ℕ). y % 2) g.0 ∙ differ-one (x / 2 ^ n)
        ∙ ap (differ (digit x n)) (sym (signal-on p m n _ l h (significant-le _ m (subst (λ (y : ℕ). y < 2 ^ m) (sym r) g.1)))))
        (add-below n x (2 ^ m) (pow_mono l))

-- ---- the induction over the number of levels

one_digit_more : (i s n : ℕ) → (i / 2 ^ n / 2 * 2 + digit s n) * 2 ^ n + s % 2 ^ n ≡ i / 2 ^ suc n * 2 ^ suc n + s % 2 ^ suc n
one_digit_more i s n =
    ap (λ (y : ℕ). y + s % 2 ^ n) (add-mul (i / 2 ^ n / 2 * 2) (digit s n) (2 ^ n))
    ∙ add_assoc (i / 2 ^ n / 2 * 2 * 2 ^ n) (digit s n * 2 ^ n) (s % 2 ^ n)
    ∙ ap₂ (λ (y z : ℕ). y + z)
    (mul_assoc (i / 2 ^ n / 2) 2 (2 ^ n)
    ∙ ap₂ (λ (y z : ℕ). y * z) (shr-shr i n 1 ∙ ap (λ (k : ℕ). i / 2 ^ k) (add-one n)) (mul_comm 2 (2 ^ n) ∙ sym (pow-suc 2 n)))
    (sym (mod-pow-add s 1 n) ∙ ap (λ (k : ℕ). s % 2 ^ k) (one-add n))

step : (n f p m i y : ℕ) → y ≡ i / 2 ^ n * 2 ^ n + moved f p m i % 2 ^ n → level f p m n y ≡ i / 2 ^ suc n * 2 ^ suc n + moved f p m i % 2 ^ suc n
unfolding level moved
step n f p m i y ih =
    let S : ℕ = moved f p m i in
    let c : ℕ = signal p m n (significant (S % 2 ^ n)) in
    let hi : y / 2 ^ n ≡ i / 2 ^ n = ap (λ (z : ℕ). z / 2 ^ n) ih ∙ high (i / 2 ^ n) n (mod-lt S (pow_pos n)) in
    let lo : y % 2 ^ n ≡ S % 2 ^ n = ap (λ (z : ℕ). z % 2 ^ n) ih ∙ low (i / 2 ^ n) n (mod-lt S (pow_pos n)) in
    let s : Bit c = signal-bit p m n (significant (S % 2 ^ n)) in
    let d : Bit (differ c (digit f n)) = differ-bit s (digit-bit f n) in
    ap (λ (z : ℕ). swapped n (bit_xor (signal p m n (significant z)) (digit f n)) y) lo
    ∙ ap (λ (z : ℕ). swapped n z y) (xor-differ s (digit-bit f n))
    ∙ swap-digits n (differ c (digit f n)) y d
    ∙ ap₂ (λ (z w : ℕ). bit_xor z (differ c (digit f n)) * 2 ^ n + w) hi lo
    ∙ ap (λ (z : ℕ). z * 2 ^ n + S % 2 ^ n) (xor-bit (i / 2 ^ n) d)
    ∙ ap (λ (z : ℕ). (i / 2 ^ n / 2 * 2 + z) * 2 ^ n + S % 2 ^ n)
    (ap (differ (digit i n)) (differ_comm s (digit-bit f n))
    ∙ sym (differ-assoc (digit-bit i n) (digit-bit f n) s)
    ∙ ap (λ (z : ℕ). differ z c) (sym (digit-xor i f n))
    ∙ sym (carry p m (bit_xor i f) n))
    ∙ one_digit_more i S n

-- After n levels a line has its n low digits from where the pass moves it, and the others from where it came.
pub after : (n f p m i : ℕ) → wired n f p m i ≡ i / 2 ^ n * 2 ^ n + moved f p m i % 2 ^ n
unfolding wired
after zero f p m i =
    sym (ap₂ (λ (y z : ℕ). y + z) (mul-one (i / 1) ∙ div-one i) (mod-one (moved f p m i)) ∙ add-zero i)
after (suc n) f p m i = step n f p m i (wired n f p m i) (after n f p m i)

-- The agreement: a network of n levels moves each of its lines as the pass does.
pub agree : (n f p m i : ℕ) → p ≤ n → f < 2 ^ n → i < 2 ^ n → wired n f p m i ≡ moved f p m i
agree n f p m i h k l =
    after n f p m i
    ∙ ap₂ (λ (y z : ℕ). y * 2 ^ n + z) (div-eq_of_lt l) (mod-eq_of_lt (moved-lt n f p m i h k l))
    ∙ omega arith

-- It serves document 001's network of 8 lines and STARAN's of 256.
pub agree-3 : (f p m i : ℕ) → p ≤ 3 → f < 8 → i < 8 → wired 3 f p m i ≡ moved f p m i
agree-3 = agree 3

pub agree-8 : (f p m i : ℕ) → p ≤ 8 → f < 256 → i < 256 → wired 8 f p m i ≡ moved f p m i
agree-8 = agree 8

-- ---- items: a level takes a line from where it would move it, since it undoes itself

module _ (f p m : ℕ) where
  obeyed : ℕ → ℕ → ℕ
  obeyed j i = bit_xor (signal p m j (significant (i % 2 ^ j))) (digit f j)

  obeyed-bit : (j i : ℕ) → Bit (obeyed j i)
  unfolding obeyed
  obeyed-bit j i =
      let s : Bit (signal p m j (significant (i % 2 ^ j))) = signal-bit p m j (significant (i % 2 ^ j)) in
      subst Bit (sym (xor-differ s (digit-bit f j))) (differ-bit s (digit-bit f j))

  -- a level leaves the digits below its own
  level-low : (j i : ℕ) → level f p m j i % 2 ^ j ≡ i % 2 ^ j
  unfolding level obeyed
  level-low j i = ap (λ (y : ℕ). y % 2 ^ j) (swap-digits j (obeyed j i) i (obeyed-bit j i)) ∙ low (bit_xor (i / 2 ^ j) (obeyed j i)) j (mod-lt i (pow_pos j))

  swap-twice : (j s i : ℕ) → swapped j s (swapped j s i) ≡ i
  swap-twice j zero i = refl
  swap-twice j (suc s) i = xor-cancel i (2 ^ j)

  pub level-twice : (j i : ℕ) → level f p m j (level f p m j i) ≡ i
  unfolding level obeyed
  level-twice j i =
      ap (λ (y : ℕ). swapped j (bit_xor (signal p m j (significant y)) (digit f j)) (level f p m j i)) (level-low j i) ∙ swap-twice j (obeyed j i) i

  swap-lt : (n j s i : ℕ) → j < n → i < 2 ^ n → swapped j s i < 2 ^ n
  swap-lt n j zero i h l = l
  swap-lt n j (suc s) i h l = xor_lt n i (2 ^ j) l (pow-lt h)

  pub level-lt : (n j i : ℕ) → j < n → i < 2 ^ n → level f p m j i < 2 ^ n
  unfolding level obeyed
  level-lt n j i h l = swap-lt n j (obeyed j i) i h l

  -- the line that n levels take to line k
  unwired : ℕ → ℕ → ℕ
  unwired zero k = k
  unwired (suc n) k = unwired n (level f p m n k)

  unwired-lt : (n k : ℕ) → n ≤ 8 → k < 256 → unwired n k < 256
  unfolding unwired
  unwired-lt zero k h l = l
  unwired-lt (suc n) k h l = unwired-lt n (level f p m n k) (omega arith) (level-lt 8 n k h l)

  wired-unwired : (n k : ℕ) → wired n f p m (unwired n k) ≡ k
  unfolding wired unwired
  wired-unwired zero k = refl
  wired-unwired (suc n) k = ap (level f p m n) (wired-unwired n (level f p m n k)) ∙ level-twice n k

  wired_item-at : (n : ℕ) (l : List ℕ) (k : ℕ) → n ≤ 8 → k < 256 → bit_of (wired_item n f p m l) k ≡ bit_of l (unwired n k)
  unfolding wired_item levelled unwired
  wired_item-at zero l k h q = refl
  wired_item-at (suc n) l k h q =
      bit_of-pack (λ k. bit_of (wired_item n f p m l) (level f p m n k)) (λ k. bit_of-bit (wired_item n f p m l) (level f p m n k)) 32 k q
      ∙ wired_item-at n l (level f p m n k) (omega arith) (level-lt 8 n k h q)

-- The agreement on items.
pub agree-item : (f p m : ℕ) (l : List ℕ) → m ≤ p → p ≤ 8 → f < 256 → wired_item 8 f p m l ≡ item (passed l f p m)
unfolding wired_item levelled passed unwired
agree-item f p m l h w q =
    pack-ext (λ k. bit_of (wired_item 7 f p m l) (level f p m 7 k)) (λ k. bit_of l (source f p m k)) 32
    (λ k b. wired_item-at f p m 7 l (level f p m 7 k) (omega arith) (level-lt f p m 8 7 k (omega arith) b)
    ∙ ap (bit_of l) (sym (source-moved f p m (unwired f p m 8 k) h)
    ∙ ap (source f p m) (sym (agree-8 f p m (unwired f p m 8 k) w q (unwired-lt f p m 8 k (omega arith) b)) ∙ wired-unwired f p m 8 k)))
