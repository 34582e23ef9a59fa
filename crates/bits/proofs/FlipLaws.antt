-- Exchanges of digits within the quarters, and another order of them, are flips; and the flips by the digits of a number are the flip by it. Assumes nothing.
use mathlib.Core.Path.{◌≡◌, refl, sym, ap, ap₂, ◌∙◌}
use mathlib.Core.Bool.{Bool, cond}
use mathlib.Core.List.{List}
use Prim.Native.Nat.{ℕ, ◌+◌, ◌-◌, ◌*◌, ◌/◌, ◌%◌, ◌^◌, ◌<◌, ◌≤◌, min, max}
use native.Mathlib.Nat.{zero-mul, mul_comm}
use native.Mathlib.Decide.{dec_lt}
use native.Mathlib.Omega.{arith}
use lib.Bits.{bit_and, bit_xor, xor_comm, xor_lt, xor_zero_r}
use lib.Dec.{T, eqb, eqb→eq, ltb}
use lib.ListN.{length, get_or}
use borrow.Author.Tests.{lt-ltb, le-ltb}
use Rattle.bits.specs.Bits.{digit, bit_of, item, flipped}
use Rattle.bits.specs.Quarters.{quarter_of, quarters, line_at, flipped_quarters, exchanged, Flips}
use Rattle.bits.proofs.Binary.{Bit, off, on, digit-bit}
use Rattle.bits.proofs.Digits.{digit-mod, digit-down, digit-up, digit-below}
use Rattle.bits.proofs.Items.{bit_of-bit, pack-ext}
use Rattle.bits.proofs.QuarterLaws.{line_at-bit, line_at-digit, quarter_of-is, line_at-quarters, quarters-ext, quarters-line_at}
use Rattle.bits.proofs.Tests.{all, all-at}
use Rattle.bits.proofs.Xor.{digit_and, digit_or, xor_assoc, xor-split}

-- ---- one exchange, by a test at every place of a quarter

-- whether place j gets a digit from k below it
abbrev from-below : ℕ → ℕ → ℕ → ℕ
from-below m k j = cond (ltb j k) 0 (digit m (j - k))

-- it gets one digit, from below or from above
abbrev one-digit : ℕ → ℕ → ℕ → Bool
one-digit m k j = eqb (from-below m k j + digit m j) 1

-- and that one is its partner's
abbrev partner : ℕ → ℕ → ℕ → Bool
partner m k j = eqb (cond (eqb (digit m j) 1) (j + k) (j - k)) (bit_xor j k)

above : {x y : ℕ} → Bit x → Bit y → max (min x 0) (min y 1) ≡ y
above off off = refl
above off on = refl
above on off = refl
above on on = refl

below : {x y : ℕ} → Bit x → Bit y → max (min x 1) (min y 0) ≡ x
below off off = refl
below off on = refl
below on off = refl
below on on = refl

exchange-flips : (m k : ℕ) → T (all 64 (one-digit m k)) → T (all 64 (partner m k)) → Flips m k
exchange-flips m k once paired x j h =
    digit_or (bit_and x m * 2 ^ k % 2 ^ 64) (bit_and (x / 2 ^ k) m) j
    ∙ ap₂ max (digit-mod (bit_and x m * 2 ^ k) 64 j h) (digit_and (x / 2 ^ k) m j ∙ ap (λ (y : ℕ). min y (digit m j)) (digit-down x k j))
    ∙ go (dec_lt j k)
  where
    sum : from-below m k j + digit m j ≡ 1
    sum = eqb→eq _ _ (all-at 64 (one-digit m k) once j h)

    place : cond (eqb (digit m j) 1) (j + k) (j - k) ≡ bit_xor j k
    place = eqb→eq _ _ (all-at 64 (partner m k) paired j h)

    by : (a d e : ℕ) → a ≡ min (digit x (j - k)) d → Bit e → digit m j ≡ e → d + e ≡ 1 → max a (min (digit x (j + k)) (digit m j)) ≡ digit x (bit_xor j k)
    by a d e ea off em s =
        let one : d ≡ 1 = omega arith in
        ap₂ (λ (y z : ℕ). max y (min (digit x (j + k)) z)) (ea ∙ ap (min (digit x (j - k))) one) em
        ∙ below (digit-bit x (j - k)) (digit-bit x (j + k))
        ∙ ap (digit x) (sym (ap (λ (y : ℕ). cond (eqb y 1) (j + k) (j - k)) em) ∙ place)
    by a d e ea on em s =
        let none : d ≡ 0 = omega arith in
        ap₂ (λ (y z : ℕ). max y (min (digit x (j + k)) z)) (ea ∙ ap (min (digit x (j - k))) none) em
        ∙ above (digit-bit x (j - k)) (digit-bit x (j + k))
        ∙ ap (digit x) (sym (ap (λ (y : ℕ). cond (eqb y 1) (j + k) (j - k)) em) ∙ place)

    zero-min : {y : ℕ} → Bit y → 0 ≡ min y 0
    zero-min off = refl
    zero-min on = refl

    go : Dec (j < k) → max (digit (bit_and x m * 2 ^ k) j) (min (digit x (j + k)) (digit m j)) ≡ digit x (bit_xor j k)
    go (yes l) =
        by (digit (bit_and x m * 2 ^ k) j) 0 (digit m j) (digit-below (bit_and x m) k j l ∙ zero-min (digit-bit x (j - k))) (digit-bit m j) refl
        (sym (ap (λ (b : Bool). cond b 0 (digit m (j - k)) + digit m j) (lt-ltb j k l)) ∙ sum)
    go (no u) =
        let l : k ≤ j = omega arith in
        by (digit (bit_and x m * 2 ^ k) j) (digit m (j - k)) (digit m j) (digit-up (bit_and x m) k j l ∙ digit_and x m (j - k)) (digit-bit m j) refl
        (sym (ap (λ (b : Bool). cond b 0 (digit m (j - k)) + digit m j) (le-ltb j k l)) ∙ sum)

-- the six masks of a flip: every second group of k places, from the lowest on
pub flips-1 : Flips 6148914691236517205 1
flips-1 = exchange-flips 6148914691236517205 1 tt tt

pub flips-2 : Flips 3689348814741910323 2
flips-2 = exchange-flips 3689348814741910323 2 tt tt

pub flips-4 : Flips 1085102592571150095 4
flips-4 = exchange-flips 1085102592571150095 4 tt tt

pub flips-8 : Flips 71777214294589695 8
flips-8 = exchange-flips 71777214294589695 8 tt tt

pub flips-16 : Flips 281470681808895 16
flips-16 = exchange-flips 281470681808895 16 tt tt

pub flips-32 : Flips 4294967295 32
flips-32 = exchange-flips 4294967295 32 tt tt

-- ---- quarter i of the flipped quarters

flipped-line : (q : List ℕ) (f i j : ℕ) → j < 64 → digit (get_or q (bit_xor (f / 64) i) 0) (bit_xor (f % 64) j) ≡ line_at q (bit_xor (64 * i + j) f)
flipped-line q f i j h =
    let s : 64 * i + j ≡ i * 2 ^ 6 + j = omega arith in
    sym (ap (line_at q) (xor_comm (64 * i + j) f ∙ ap (bit_xor f) s ∙ xor-split 6 f i j h ∙ ap (λ (x : ℕ). x + bit_xor (f % 64) j) (mul_comm (bit_xor (f / 64) i) 64))
    ∙ line_at-digit q (bit_xor (f / 64) i) (bit_xor (f % 64) j) (xor_lt 6 (f % 64) j (omega arith) h))

-- exchanged within
pub exchanged-is : (q : List ℕ) (m k i r : ℕ) → k < 64 → Flips m k → r < 2 ^ 64 → r ≡ exchanged m k (get_or q i 0) → r ≡ quarter_of (λ l. line_at q (bit_xor l k)) i
exchanged-is q m k i r h flips b e =
    quarter_of-is (λ l. line_at q (bit_xor l k)) i r b
    (λ j l.
    let hi : 0 ≡ k / 64 = omega arith in
    let lo : k ≡ k % 64 = omega arith in
    ap (λ (x : ℕ). digit x j) e
    ∙ flips (get_or q i 0) j l
    ∙ ap (digit (get_or q i 0)) (xor_comm j k)
    ∙ ap₂ (λ (x y : ℕ). digit (get_or q (bit_xor x i) 0) (bit_xor y j)) hi lo
    ∙ flipped-line q k i j l)

-- taken from another place
pub ordered-is : (q : List ℕ) (g i r : ℕ) → r < 2 ^ 64 → r ≡ get_or q (bit_xor g i) 0 → r ≡ quarter_of (λ l. line_at q (bit_xor l (64 * g))) i
ordered-is q g i r b e =
    quarter_of-is (λ l. line_at q (bit_xor l (64 * g))) i r b
    (λ j l.
    let hi : g ≡ 64 * g / 64 = omega arith in
    let lo : 0 ≡ 64 * g % 64 = omega arith in
    ap (λ (x : ℕ). digit x j) e
    ∙ ap₂ (λ (x y : ℕ). digit (get_or q (bit_xor x i) 0) (bit_xor y j)) hi lo
    ∙ flipped-line q (64 * g) i j l)

-- ---- flips one after the other

pub flipped-none : (q : List ℕ) (n k : ℕ) → n ≡ 0 → length q ≡ 4 → ((i : ℕ) → get_or q i 0 < 2 ^ 64) → q ≡ flipped_quarters q (n * k)
flipped-none q n k e l b =
    let none : 0 ≡ n * k = sym (zero-mul k) ∙ ap (λ (x : ℕ). x * k) (sym e) in
    quarters-line_at q l b
    ∙ quarters-ext (line_at q) (λ i. line_at q (bit_xor i 0)) (λ i h. ap (line_at q) (sym (xor_zero_r i)))
    ∙ ap (flipped_quarters q) none

pub flipped-more : (q r : List ℕ) (f g : ℕ) → g < 256 → r ≡ flipped_quarters q f → flipped_quarters r g ≡ flipped_quarters q (bit_xor g f)
flipped-more q r f g b e =
    ap (λ (x : List ℕ). flipped_quarters x g) e
    ∙ quarters-ext (λ k. line_at (flipped_quarters q f) (bit_xor k g)) (λ k. line_at q (bit_xor k (bit_xor g f)))
    (λ k h. line_at-quarters (λ i. line_at q (bit_xor i f)) (λ i. line_at-bit q (bit_xor i f)) (bit_xor k g) (xor_lt 8 k g h b) ∙ ap (line_at q) (xor_assoc k g f))

-- the flips by a number's digits, the lowest first
by_digits : ℕ → ℕ
by_digits f =
    bit_xor (64 * (f / 64))
    (bit_xor (f / 32 % 2 * 32) (bit_xor (f / 16 % 2 * 16) (bit_xor (f / 8 % 2 * 8) (bit_xor (f / 4 % 2 * 4) (bit_xor (f / 2 % 2 * 2) (f % 2 * 1))))))

digits-flip : T (all 256 (λ f. eqb (by_digits f) f))
unfolding by_digits
digits-flip = tt

pub by-digits : (f : ℕ) → f < 256
    → bit_xor (64 * (f / 64))
    (bit_xor (f / 32 % 2 * 32) (bit_xor (f / 16 % 2 * 16) (bit_xor (f / 8 % 2 * 8) (bit_xor (f / 4 % 2 * 4) (bit_xor (f / 2 % 2 * 2) (f % 2 * 1))))))
    ≡ f
unfolding by_digits
by-digits f h = eqb→eq (by_digits f) f (all-at 256 (λ f. eqb (by_digits f) f) digits-flip f h)

-- ---- an item by its quarters

-- line k of the flipped quarters of an item
pub line-flipped : (l q r : List ℕ) (f : ℕ) → f < 256 → q ≡ quarters (bit_of l) → r ≡ flipped_quarters q f → (k : ℕ) → k < 256 → line_at r k ≡ flipped l f k
line-flipped l q r f b eq er k h =
    ap (λ (x : List ℕ). line_at x k) (er ∙ ap (λ (x : List ℕ). flipped_quarters x f) eq)
    ∙ line_at-quarters (λ i. line_at (quarters (bit_of l)) (bit_xor i f)) (λ i. line_at-bit (quarters (bit_of l)) (bit_xor i f)) k h
    ∙ line_at-quarters (bit_of l) (bit_of-bit l) (bit_xor k f) (xor_lt 8 k f h b)

pub item-flipped : (l q r : List ℕ) (f : ℕ) → f < 256 → q ≡ quarters (bit_of l) → r ≡ flipped_quarters q f → item (line_at r) ≡ item (flipped l f)
item-flipped l q r f b eq er = pack-ext (line_at r) (flipped l f) 32 (line-flipped l q r f b eq er)
