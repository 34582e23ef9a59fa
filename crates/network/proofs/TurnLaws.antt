-- A shift quarter by quarter is the shift: digit by digit. Assumes nothing.
use mathlib.Core.Path.{◌≡◌, refl, sym, ap, ap₂, ◌∙◌, subst}
use mathlib.Core.Bool.{Bool, true, false, cond, ◌&&◌}
use mathlib.Core.List.{List}
use Prim.Native.Nat.{ℕ, zero, suc, ◌+◌, ◌-◌, ◌*◌, ◌/◌, ◌%◌, ◌^◌, ◌≤◌, ◌<◌}
use native.Mathlib.Nat.{mod-add-mod, add-mod_right, mul_assoc}
use native.Mathlib.Decide.{dec_lt}
use native.Mathlib.Omega.{arith}
use lib.Bits.{bit_and}
use lib.Dec.{T, eqb, eqb→eq, ltb, ltb→lt, leb, leb→le}
use lib.ListN.{get_or}
use lib.Pow.{pow_pos, pow_mono, pow-add, split, mod-pow-add, shr-shr}
use borrow.Author.Tests.{lt-ltb, le-ltb, ne_eqb}
use Rattle.bits.specs.Bits.{digit, digits_of}
use Rattle.bits.specs.Steps.{mixed}
use Rattle.bits.specs.Quarters.{quarter_of, line_at}
use Rattle.bits.proofs.Binary.{Bit, off, on}
use Rattle.bits.proofs.Digits.{digit-mod, digit-down, digit-up, digits_of-at, digit-mixed}
use Rattle.bits.proofs.QuarterLaws.{line_at-digit, quarter_of-is}
use Rattle.bits.proofs.Tests.{and_left, and_right, all, all-at}
use Rattle.network.specs.Pass.{unshifted}
use Rattle.network.specs.Turn.{reach, mask}
use Rattle.network.proofs.PassLaws.{unshifted-lt}

-- ---- the sizes

pub reach-top : (e : ℕ) → 6 ≤ e → reach e ≡ 64
unfolding reach
reach-top e h = ap (λ (b : Bool). cond b (2 ^ e) 64) (le-ltb e 6 h)

pub reach-pow : (e : ℕ) → e ≤ 6 → reach e ≡ 2 ^ e
unfolding reach
reach-pow e h = go (dec_lt e 6)
  where
    go : Dec (e < 6) → cond (ltb e 6) (2 ^ e) 64 ≡ 2 ^ e
    go (yes l) = ap (λ (b : Bool). cond b (2 ^ e) 64) (lt-ltb e 6 l)
    go (no u) =
        let top : 6 ≡ e = omega arith in
        ap (λ (b : Bool). cond b (2 ^ e) 64) (le-ltb e 6 (omega arith)) ∙ ap (λ (x : ℕ). 2 ^ x) top

-- a test at each m up to p, and each p up to 8
at_pair : (f : ℕ → ℕ → Bool) → T (all 9 λ p. all (suc p) λ m. f p m) → (p m : ℕ) → m ≤ p → p ≤ 8 → T (f p m)
at_pair f t p m h k = all-at (suc p) (f p) (all-at 9 (λ p. all (suc p) λ m. f p m) t p (omega arith)) m (omega arith)

pub reach-le : (p m : ℕ) → m ≤ p → p ≤ 8 → reach m ≤ reach p
unfolding reach
reach-le p m h k = leb→le (reach m) (reach p) (at_pair (λ p m. leb (reach m) (reach p)) tt p m h k)

pub reach-pos : (e : ℕ) → e ≤ 8 → 0 < reach e
unfolding reach
reach-pos e h = ltb→lt 0 (reach e) (all-at 9 (λ e. ltb 0 (reach e)) tt e (omega arith))

pub reach-most : (e : ℕ) → e ≤ 8 → reach e ≤ 64
unfolding reach
reach-most e h = leb→le (reach e) 64 (all-at 9 (λ e. leb (reach e) 64) tt e (omega arith))

pub ones_pos : (e : ℕ) → e ≤ 8 → 0 < 2 ^ reach e - 1
unfolding reach
ones_pos e h = ltb→lt 0 (2 ^ reach e - 1) (all-at 9 (λ e. ltb 0 (2 ^ reach e - 1)) tt e (omega arith))

pub ones_shr : (n : ℕ) → n ≤ 64 → 18446744073709551615 / 2 ^ (64 - n) ≡ 2 ^ n - 1
ones_shr n h = eqb→eq _ _ (all-at 65 (λ n. eqb (18446744073709551615 / 2 ^ (64 - n)) (2 ^ n - 1)) tt n (omega arith))

pub mask_is : (p m : ℕ) → m ≤ p → p ≤ 8 → 18446744073709551615 / (2 ^ reach p - 1) * (2 ^ reach m - 1) ≡ mask p m
unfolding reach mask digits_of
mask_is p m h k = eqb→eq _ _ (at_pair (λ p m. eqb (18446744073709551615 / (2 ^ reach p - 1) * (2 ^ reach m - 1)) (mask p m)) tt p m h k)

pub mask_lt : (p m : ℕ) → m ≤ p → p ≤ 8 → mask p m < 2 ^ 64
unfolding reach mask digits_of
mask_lt p m h k = ltb→lt (mask p m) (2 ^ 64) (at_pair (λ p m. ltb (mask p m) (2 ^ 64)) tt p m h k)

-- ---- where a line of quarter i comes from: from its own quarter, or from the one that wraps round

-- the law at digit j, where u and s are the places of p and m, by whether j is among the digits that get what wraps round
abbrev From : ℕ → ℕ → ℕ → ℕ → ℕ → ℕ → Bool → Type 0
From p m u s i j true = (unshifted p m (64 * i + j) ≡ 64 * unshifted (p - 6) (m - 6) i + (j + (u - s))) × (j + (u - s) < 64)
From p m u s i j false = (unshifted p m (64 * i + j) ≡ 64 * i + (j - s)) × (s ≤ j)

by-test : (a b : ℕ) (F : Bool → Type 0) → (a < b → F true) → (b ≤ a → F false) → F (ltb a b)
by-test a b F t f = go (dec_lt a b)
  where
    go : Dec (a < b) → F (ltb a b)
    go (yes h) = subst F (sym (lt-ltb a b h)) (t h)
    go (no u) = let h : b ≤ a = omega arith in subst F (sym (le-ltb a b h)) (f h)

-- within a quarter: p is below 6
small-in : (p m i j : ℕ) → p < 6 → j < 64 → 0 < 2 ^ m → 2 ^ m ≤ 2 ^ p → From p m (2 ^ p) (2 ^ m) i j (ltb (j % 2 ^ p) (2 ^ m))
unfolding unshifted
small-in zero m i j k l pos le = by-test (j % 1) (2 ^ m) (From 0 m 1 (2 ^ m) i j) (λ t. (omega arith, omega arith)) (λ t. (omega arith, omega arith))
small-in (suc zero) m i j k l pos le = by-test (j % 2) (2 ^ m) (From 1 m 2 (2 ^ m) i j) (λ t. (omega arith, omega arith)) (λ t. (omega arith, omega arith))
small-in (suc (suc zero)) m i j k l pos le = by-test (j % 4) (2 ^ m) (From 2 m 4 (2 ^ m) i j) (λ t. (omega arith, omega arith)) (λ t. (omega arith, omega arith))
small-in (suc (suc (suc zero))) m i j k l pos le = by-test (j % 8) (2 ^ m) (From 3 m 8 (2 ^ m) i j) (λ t. (omega arith, omega arith)) (λ t. (omega arith, omega arith))
small-in (suc (suc (suc (suc zero)))) m i j k l pos le = by-test (j % 16) (2 ^ m) (From 4 m 16 (2 ^ m) i j) (λ t. (omega arith, omega arith)) (λ t. (omega arith, omega arith))
small-in (suc (suc (suc (suc (suc zero))))) m i j k l pos le = by-test (j % 32) (2 ^ m) (From 5 m 32 (2 ^ m) i j) (λ t. (omega arith, omega arith)) (λ t. (omega arith, omega arith))
small-in (suc (suc (suc (suc (suc (suc p)))))) m i j k l pos le = absurd (omega arith)

small : (p m i j : ℕ) → m ≤ p → p < 6 → j < 64 → From p m (reach p) (reach m) i j (ltb (j % reach p) (reach m))
small p m i j h k l =
    subst (λ (u : ℕ). From p m u (reach m) i j (ltb (j % u) (reach m))) (sym (reach-pow p (omega arith)))
    (subst (λ (s : ℕ). From p m (2 ^ p) s i j (ltb (j % 2 ^ p) s)) (sym (reach-pow m (omega arith))) (small-in p m i j k l (pow_pos m) (pow_mono h)))

-- over quarters: quarter and digit of the line that is 2^m back
over : (p m i j a b : ℕ) → 6 ≤ p → j < 64 → (64 * i + j + (2 ^ p - 2 ^ m)) / 64 ≡ a → (64 * i + j + (2 ^ p - 2 ^ m)) % 64 ≡ b
    → unshifted p m (64 * i + j) ≡ 64 * (i / 2 ^ (p - 6) * 2 ^ (p - 6) + a % 2 ^ (p - 6)) + b
unfolding unshifted
over p m i j a b k l ea eb =
    let e : p - 6 + 6 ≡ p = omega arith in
    let n : ℕ = 64 * i + j + (2 ^ p - 2 ^ m) in
    let i-is : (64 * i + j) / 64 ≡ i = omega arith in
    let whole : 2 ^ p ≡ 2 ^ (p - 6) * 64 = ap (λ (x : ℕ). 2 ^ x) (sym e) ∙ pow-add 2 (p - 6) 6 in
    let hi : (64 * i + j) / 2 ^ p ≡ i / 2 ^ (p - 6) =
    ap (λ (x : ℕ). (64 * i + j) / 2 ^ x) (let d : p ≡ 6 + (p - 6) = omega arith in d) ∙ sym (shr-shr (64 * i + j) 6 (p - 6)) ∙ ap (λ (x : ℕ). x / 2 ^ (p - 6)) i-is in
    let lo : n % 2 ^ p ≡ a % 2 ^ (p - 6) * 64 + b =
    ap (λ (x : ℕ). n % 2 ^ x) (sym e) ∙ mod-pow-add n (p - 6) 6 ∙ ap₂ (λ (x y : ℕ). x % 2 ^ (p - 6) * 64 + y) ea eb in
    ap₂ (λ (x y : ℕ). x * 2 ^ p + y) hi (mod-add-mod (64 * i + j) (2 ^ p) (2 ^ p - 2 ^ m) ∙ lo)
    ∙ ap (λ (x : ℕ). i / 2 ^ (p - 6) * x + (a % 2 ^ (p - 6) * 64 + b)) whole
    ∙ ap (λ (x : ℕ). x + (a % 2 ^ (p - 6) * 64 + b)) (sym (mul_assoc (i / 2 ^ (p - 6)) (2 ^ (p - 6)) 64))
    ∙ omega arith

-- the quarter that wraps round, from the sum's quarter
round : (q n i a : ℕ) → i + (2 ^ q - 2 ^ n) ≡ a → i / 2 ^ q * 2 ^ q + a % 2 ^ q ≡ unshifted q n i
unfolding unshifted
round q n i a e =
    ap (λ (x : ℕ). i / 2 ^ q * 2 ^ q + x) (ap (λ (x : ℕ). x % 2 ^ q) (sym e) ∙ sym (mod-add-mod i (2 ^ q) (2 ^ q - 2 ^ n)))

large-in : (p m i j : ℕ) → m ≤ p → 6 ≤ p → m < 6 → j < 64 → From p m 64 (2 ^ m) i j (ltb (j % 64) (2 ^ m))
large-in p m i j h k s l =
    let e : p - 6 + 6 ≡ p = omega arith in
    let whole : 2 ^ p ≡ 2 ^ (p - 6) * 64 = ap (λ (x : ℕ). 2 ^ x) (sym e) ∙ pow-add 2 (p - 6) 6 in
    let top : 2 ^ m ≤ 32 = pow_mono {i = m} {j = 5} (omega arith) in
    let pos : 0 < 2 ^ (p - 6) = pow_pos (p - 6) in
    let one : 2 ^ (m - 6) ≡ 1 = ap (λ (x : ℕ). 2 ^ x) (let z : m - 6 ≡ 0 = omega arith in z) in
    by-test (j % 64) (2 ^ m) (From p m 64 (2 ^ m) i j)
    (λ t. (
      over p m i j (i + (2 ^ (p - 6) - 1)) (j + (64 - 2 ^ m)) k l (omega arith) (omega arith)
          ∙ ap (λ (x : ℕ). 64 * x + (j + (64 - 2 ^ m))) (round (p - 6) (m - 6) i (i + (2 ^ (p - 6) - 1)) (omega arith)),
      omega arith,
    ))
    (λ t. (
      over p m i j (i + 2 ^ (p - 6)) (j - 2 ^ m) k l (omega arith) (omega arith)
          ∙ ap (λ (x : ℕ). 64 * x + (j - 2 ^ m)) (ap (λ (x : ℕ). i / 2 ^ (p - 6) * 2 ^ (p - 6) + x) (add-mod_right i (2 ^ (p - 6))) ∙ split i (p - 6)),
      omega arith,
    ))

large-out : (p m i j : ℕ) → m ≤ p → 6 ≤ m → j < 64 → From p m 64 64 i j (ltb (j % 64) 64)
large-out p m i j h k l =
    let e : p - 6 + 6 ≡ p = omega arith in
    let d : m - 6 + 6 ≡ m = omega arith in
    let whole : 2 ^ p ≡ 2 ^ (p - 6) * 64 = ap (λ (x : ℕ). 2 ^ x) (sym e) ∙ pow-add 2 (p - 6) 6 in
    let part : 2 ^ m ≡ 2 ^ (m - 6) * 64 = ap (λ (x : ℕ). 2 ^ x) (sym d) ∙ pow-add 2 (m - 6) 6 in
    let le : 2 ^ (m - 6) ≤ 2 ^ (p - 6) = pow_mono {i = m - 6} {j = p - 6} (omega arith) in
    by-test (j % 64) 64 (From p m 64 64 i j)
    (λ t. (
      over p m i j (i + (2 ^ (p - 6) - 2 ^ (m - 6))) (j + (64 - 64)) (omega arith) l (omega arith) (omega arith)
          ∙ ap (λ (x : ℕ). 64 * x + (j + (64 - 64))) (round (p - 6) (m - 6) i (i + (2 ^ (p - 6) - 2 ^ (m - 6))) refl),
      omega arith,
    ))
    (λ t. absurd (omega arith))

large : (p m i j : ℕ) → m ≤ p → 6 ≤ p → j < 64 → From p m (reach p) (reach m) i j (ltb (j % reach p) (reach m))
large p m i j h k l = subst (λ (u : ℕ). From p m u (reach m) i j (ltb (j % u) (reach m))) (sym (reach-top p k)) (go (dec_lt m 6))
  where
    go : Dec (m < 6) → From p m 64 (reach m) i j (ltb (j % 64) (reach m))
    go (yes q) = subst (λ (s : ℕ). From p m 64 s i j (ltb (j % 64) s)) (sym (reach-pow m (omega arith))) (large-in p m i j h k q l)
    go (no u) = let q : 6 ≤ m = omega arith in subst (λ (s : ℕ). From p m 64 s i j (ltb (j % 64) s)) (sym (reach-top m q)) (large-out p m i j h q l)

line-from : (p m i j : ℕ) → m ≤ p → j < 64 → From p m (reach p) (reach m) i j (ltb (j % reach p) (reach m))
line-from p m i j h l = go (dec_lt p 6)
  where
    go : Dec (p < 6) → From p m (reach p) (reach m) i j (ltb (j % reach p) (reach m))
    go (yes q) = small p m i j h q l
    go (no u) = large p m i j h (omega arith) l

-- ---- the digits of a joined quarter

digit_mask : (p m j : ℕ) → j < 64 → digit (mask p m) j ≡ cond (ltb (j % reach p) (reach m)) 1 0
unfolding mask
digit_mask p m j h = digits_of-at (λ j. cond (ltb (j % reach p) (reach m)) 1 0) (λ j. one (ltb (j % reach p) (reach m))) 64 j h
  where
    one : (b : Bool) → Bit (cond b 1 0)
    one true = on
    one false = off

-- quarter i, joined from itself and from quarter w, which wraps round to its place
joined_at : (q : List ℕ) (p m i w j : ℕ) → m ≤ p → w ≡ unshifted (p - 6) (m - 6) i → j < 64
    → digit (mixed (get_or q i 0 * 2 ^ (reach m % 64) % 2 ^ 64) (get_or q w 0 / 2 ^ (reach p - reach m)) (mask p m)) j ≡ line_at q (unshifted p m (64 * i + j))
joined_at q p m i w j h e k =
    digit-mixed (get_or q i 0 * 2 ^ (reach m % 64) % 2 ^ 64) (get_or q w 0 / 2 ^ (reach p - reach m)) (mask p m) j
    ∙ ap (λ (d : ℕ). cond (eqb d 1) (digit (get_or q w 0 / 2 ^ (reach p - reach m)) j) (digit (get_or q i 0 * 2 ^ (reach m % 64) % 2 ^ 64) j)) (digit_mask p m j k)
    ∙ go (ltb (j % reach p) (reach m)) (line-from p m i j h k)
  where
    go : (t : Bool) → From p m (reach p) (reach m) i j t
        → cond (eqb (cond t 1 0) 1) (digit (get_or q w 0 / 2 ^ (reach p - reach m)) j) (digit (get_or q i 0 * 2 ^ (reach m % 64) % 2 ^ 64) j)
        ≡ line_at q (unshifted p m (64 * i + j))
    go true f =
        digit-down (get_or q w 0) (reach p - reach m) j
        ∙ ap (λ (x : ℕ). digit (get_or q x 0) (j + (reach p - reach m))) e
        ∙ sym (ap (line_at q) f.0 ∙ line_at-digit q (unshifted (p - 6) (m - 6) i) (j + (reach p - reach m)) f.1)
    go false f =
        let s : reach m % 64 ≡ reach m = omega (arith, f.1) in
        ap (λ (x : ℕ). digit (get_or q i 0 * 2 ^ x % 2 ^ 64) j) s
        ∙ digit-mod (get_or q i 0 * 2 ^ reach m) 64 j k
        ∙ digit-up (get_or q i 0) (reach m) j f.1
        ∙ sym (ap (line_at q) f.0 ∙ line_at-digit q i (j - reach m) (omega (arith, f.1)))

-- as the code joins it, of what it has computed
pub joined_is : (q : List ℕ) (p m i w u s which r : ℕ) → m ≤ p → r < 2 ^ 64 → w ≡ unshifted (p - 6) (m - 6) i → u ≡ reach p → s ≡ reach m → which ≡ mask p m
    → r ≡ mixed (get_or q i 0 * 2 ^ (s % 64) % 2 ^ 64) (get_or q w 0 / 2 ^ (u - s)) which → r ≡ quarter_of (λ k. line_at q (unshifted p m k)) i
joined_is q p m i w u s which r h b ew eu es em e =
    quarter_of-is (λ k. line_at q (unshifted p m k)) i r b
    (λ j k. ap (λ (x : ℕ). digit x j)
    (e
    ∙ ap₂ (λ (x y : ℕ). mixed (get_or q i 0 * 2 ^ (y % 64) % 2 ^ 64) (get_or q w 0 / 2 ^ (x - y)) which) eu es
    ∙ ap (mixed (get_or q i 0 * 2 ^ (reach m % 64) % 2 ^ 64) (get_or q w 0 / 2 ^ (reach p - reach m))) em)
    ∙ joined_at q p m i w j h ew k)

-- ---- the quarter that wraps round, on or back from its place

pub spans : (p m u s : ℕ) → m ≤ p → p ≤ 8 → u ≡ 2 ^ (p - 6) → s ≡ 2 ^ (m - 6) → (s ≤ u) × (u ≤ 4)
spans p m u s h k eu es = (omega (arith, pow_mono {i = m - 6} {j = p - 6} (omega arith)), omega (arith, pow_mono {i = p - 6} {j = 2} (omega arith)))

-- on by n where place i has none of the digits of n, else back by b, which is not over i then
abbrev aside : ℕ → ℕ → ℕ → ℕ
aside n b i = cond (eqb (bit_and i n) 0) (i + n) (i - b)

abbrev backward : ℕ → ℕ → ℕ → Bool
backward n b i = cond (eqb (bit_and i n) 0) true (leb b i)

aside-right : ℕ → ℕ → ℕ → Bool
aside-right a b i = backward (2 ^ a - 2 ^ b) (2 ^ b) i && eqb (aside (2 ^ a - 2 ^ b) (2 ^ b) i) (unshifted a b i)

aside-tested : T (all 3 λ a. all (suc a) λ b. all 4 λ i. aside-right a b i)
unfolding aside-right unshifted
aside-tested = tt

tested_at : (p m i : ℕ) → m ≤ p → p ≤ 8 → i < 4 → T (aside-right (p - 6) (m - 6) i)
tested_at p m i h k l =
    all-at 4 (λ i. aside-right (p - 6) (m - 6) i)
    (all-at (suc (p - 6)) (λ b. all 4 λ i. aside-right (p - 6) b i) (all-at 3 (λ a. all (suc a) λ b. all 4 λ i. aside-right a b i) aside-tested (p - 6) (omega arith)) (m - 6) (omega arith))
    i l

pub back-le : (p m n b i : ℕ) → m ≤ p → p ≤ 8 → i < 4 → n ≡ 2 ^ (p - 6) - 2 ^ (m - 6) → b ≡ 2 ^ (m - 6) → (bit_and i n ≡ 0 → ⊥) → b ≤ i
unfolding aside-right
back-le p m n b i h k l en eb u =
    leb→le b i (subst T (ap₂ (λ (x y : ℕ). backward x y i) (sym en) (sym eb) ∙ ap (λ (t : Bool). cond t true (leb b i)) (ne_eqb (bit_and i n) 0 u))
    (and_left (backward (2 ^ (p - 6) - 2 ^ (m - 6)) (2 ^ (m - 6)) i) (eqb (aside (2 ^ (p - 6) - 2 ^ (m - 6)) (2 ^ (m - 6)) i) (unshifted (p - 6) (m - 6) i)) (tested_at p m i h k l)))

aside-is : (p m n b i : ℕ) → m ≤ p → p ≤ 8 → i < 4 → n ≡ 2 ^ (p - 6) - 2 ^ (m - 6) → b ≡ 2 ^ (m - 6) → aside n b i ≡ unshifted (p - 6) (m - 6) i
unfolding aside-right
aside-is p m n b i h k l en eb = ap₂ (λ (x y : ℕ). aside x y i) en eb ∙ eqb→eq _ _ (and_right (backward (2 ^ (p - 6) - 2 ^ (m - 6)) (2 ^ (m - 6)) i) (eqb (aside (2 ^ (p - 6) - 2 ^ (m - 6)) (2 ^ (m - 6)) i) (unshifted (p - 6) (m - 6) i)) (tested_at p m i h k l))

-- the quarter as the code picks it
pub wrapped-is : (p m n b i r : ℕ) → m ≤ p → p ≤ 8 → i < 4 → n ≡ 2 ^ (p - 6) - 2 ^ (m - 6) → b ≡ 2 ^ (m - 6) → r ≡ aside n b i
    → (r ≡ unshifted (p - 6) (m - 6) i) × (r < 4)
wrapped-is p m n b i r h k l en eb e =
    let is : r ≡ unshifted (p - 6) (m - 6) i = e ∙ aside-is p m n b i h k l en eb in
    (is, omega (arith, is, unshifted-lt 2 (p - 6) (m - 6) i (omega arith) l))
