-- Laws of numbers and bytes as text. Assumes nothing.
use mathlib.Core.Path.{◌≡◌, refl, sym, ap, ap₂, ◌∙◌}
use mathlib.Core.Bool.{Bool, cond}
use mathlib.Core.List.{List, [], ◌∷◌, ◌++◌, append_assoc, append-nil}
use Prim.Native.Nat.{ℕ, zero, suc, ◌+◌, ◌-◌, ◌*◌, ◌/◌, ◌%◌, ◌^◌, ◌<◌, ◌≤◌}
use native.Mathlib.Nat.{pow-suc}
use native.Mathlib.Numerals.{add-one}
use native.Mathlib.Decide.{dec_lt}
use native.Mathlib.Omega.{arith}
use lib.Dec.{ltb}
use lib.ListN.{length, get_or, take, drop, length-append}
use lib.Seq.{take-suc}
use borrow.Author.Tests.{lt-ltb, le-ltb}
use Rattle.std.specs.List.{flat_map}
use Rattle.std.proofs.lemmas.Grind.{flat_map-append}
use Rattle.report.specs.Report.{decimal_in, decimal, spaced, line, hex_digit, hexed, item_lines}

-- ---- decimal

-- enough digits are enough
enough : (d e n : ℕ) → n < d → n < e → decimal_in d n ≡ decimal_in e n
unfolding decimal_in
enough zero e n h k = absurd (omega arith)
enough (suc d) zero n h k = absurd (omega arith)
enough (suc d) (suc e) n h k = go (dec_lt n 10) (enough d e (n / 10))
  where
    go : Dec (n < 10) → (n / 10 < d → n / 10 < e → decimal_in d (n / 10) ≡ decimal_in e (n / 10))
        → cond (ltb n 10) [] (decimal_in d (n / 10)) ++ ((48 + n % 10) ∷ []) ≡ cond (ltb n 10) [] (decimal_in e (n / 10)) ++ ((48 + n % 10) ∷ [])
    go (yes l) ih = rw (lt-ltb n 10 l) refl
    go (no u) ih = ap (λ (x : List ℕ). cond (ltb n 10) [] x ++ ((48 + n % 10) ∷ [])) (ih (omega arith) (omega arith))

pub decimal-small : (n : ℕ) → n < 10 → decimal n ≡ (48 + n) ∷ []
unfolding decimal decimal_in
decimal-small n h =
    let e : n % 10 ≡ n = omega arith in
    ap₂ (λ (b : Bool) (x : ℕ). cond b [] (decimal_in n (n / 10)) ++ ((48 + x) ∷ [])) (lt-ltb n 10 h) e

pub decimal-more : (n : ℕ) → 10 ≤ n → decimal n ≡ decimal (n / 10) ++ ((48 + n % 10) ∷ [])
unfolding decimal decimal_in
decimal-more n h =
    ap (λ (b : Bool). cond b [] (decimal_in n (n / 10)) ++ ((48 + n % 10) ∷ [])) (le-ltb n 10 h)
    ∙ ap (λ (x : List ℕ). x ++ ((48 + n % 10) ∷ [])) (enough n (suc (n / 10)) (n / 10) (omega arith) (omega arith))

-- a number below 10 ^ (k + 1) has at most k + 1 digits
pub length-decimal : (k n : ℕ) → n < 10 ^ suc k → length (decimal n) ≤ suc k
length-decimal zero n h = omega (arith, ap length (decimal-small n h))
length-decimal (suc k) n h = go (dec_lt n 10) (length-decimal k (n / 10))
  where
    go : Dec (n < 10) → (n / 10 < 10 ^ suc k → length (decimal (n / 10)) ≤ suc k) → length (decimal n) ≤ suc (suc k)
    go (yes l) ih = omega (arith, ap length (decimal-small n l))
    go (no u) ih =
        let p : 10 ^ suc (suc k) ≡ 10 ^ suc k * 10 = pow-suc 10 (suc k) in
        let i = ih (omega arith) in
        omega (arith, ap length (decimal-more n (omega arith)) ∙ length-append (decimal (n / 10)) ((48 + n % 10) ∷ []))

-- the contract of `report` has one answer only, every byte of the buffer included
pub report-unique : (printed old text text' : List ℕ) (r r' : ℕ) → r ≡ length printed → text ≡ printed ++ drop r old → r' ≡ length printed → text' ≡ printed ++ drop r' old
    → (r ≡ r') × (text ≡ text')
report-unique printed old text text' r r' n e n' e' = (n ∙ sym n', e ∙ ap (λ (k : ℕ). printed ++ drop k old) (n ∙ sym n') ∙ sym e')

-- ---- hex

pub hexed-append : (xs ys : List ℕ) → hexed (xs ++ ys) ≡ hexed xs ++ hexed ys
unfolding hexed
hexed-append [] ys = refl
hexed-append (x ∷ xs) ys = ap (λ (l : List ℕ). hex_digit (x / 16) ∷ hex_digit (x % 16) ∷ l) (hexed-append xs ys)

-- one byte more of a list
pub hexed-more : (l : List ℕ) (j : ℕ) → j < length l → hexed (take j l) ++ hexed (get_or l j 0 ∷ []) ≡ hexed (take (j + 1) l)
hexed-more l j h = sym (ap (λ (k : ℕ). hexed (take k l)) (add-one j) ∙ ap hexed (take-suc l j 0 h) ∙ hexed-append (take j l) (get_or l j 0 ∷ []))

-- one item more, which was lent as a part of the out buffer
pub lines_more : (out : List ℕ) (k : ℕ)
    → item_lines out k ++ (hexed (take (32 * k + 32 - 32 * k) (drop (32 * k) out)) ++ (10 ∷ [])) ≡ item_lines out (k + 1)
unfolding item_lines
lines_more out k =
    let n : 32 * k + 32 - 32 * k ≡ 32 = omega arith in
    ap (λ (m : ℕ). item_lines out k ++ (hexed (take m (drop (32 * k) out)) ++ (10 ∷ []))) n ∙ sym (ap (item_lines out) (add-one k))

-- one number more of a line
pub spaced-more : (l : List ℕ) (j : ℕ) → j < length l → flat_map spaced (take j l) ++ spaced (get_or l j 0) ≡ flat_map spaced (take (j + 1) l)
spaced-more l j h =
    ap (λ (z : List ℕ). flat_map spaced (take j l) ++ z) (sym (append-nil (spaced (get_or l j 0))))
    ∙ sym (ap (λ (k : ℕ). flat_map spaced (take k l)) (add-one j) ∙ ap (flat_map spaced) (take-suc l j 0 h) ∙ flat_map-append spaced (take j l) (get_or l j 0 ∷ []))

six_behind : (u v w x y z t : List ℕ) → (u ++ (v ++ (w ++ (x ++ (y ++ (z ++ [])))))) ++ t ≡ u ++ (v ++ (w ++ (x ++ (y ++ (z ++ t)))))
six_behind u v w x y z t = simp (append_assoc, append-nil)

-- the letter, the six numbers and the line feed are the line
pub line_spaced : (letter a b c d e f : ℕ) → (letter ∷ flat_map spaced (a ∷ b ∷ c ∷ d ∷ e ∷ f ∷ [])) ++ (10 ∷ []) ≡ line letter a b c d e f
unfolding line
line_spaced letter a b c d e f = ap (λ (l : List ℕ). letter ∷ l) (six_behind (spaced a) (spaced b) (spaced c) (spaced d) (spaced e) (spaced f) (10 ∷ []))
