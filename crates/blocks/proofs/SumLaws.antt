-- Laws of the two sums: what a turn of the loop adds, and that they look at the first 508 bytes alone. Assumes nothing.
use mathlib.Core.Path.{◌≡◌, refl, sym, ap, ap₂, ◌∙◌}
use mathlib.Core.List.{List}
use Prim.Native.Nat.{ℕ, zero, suc, ◌+◌, ◌-◌, ◌*◌, ◌%◌, ◌<◌, ◌≤◌}
use native.Mathlib.Nat.{suc-mul}
use native.Mathlib.Numerals.{add-one}
use native.Mathlib.Omega.{arith}
use lib.ListN.{take}
use lib.Seq.{get_or-take}
use Rattle.blocks.specs.Sums.{at, total, s1, s2}

-- the sum of b(0) to b(n - 1), and that of (n - i) × b(i)
abbrev pub plain : List ℕ → ℕ → ℕ
plain b n = total (λ i. at b i) n

abbrev pub weighted : List ℕ → ℕ → ℕ
weighted b n = total (λ i. (n - i) * at b i) n

pub total_ext : (f g : ℕ → ℕ) (n : ℕ) → ((i : ℕ) → i < n → f i ≡ g i) → total f n ≡ total g n
unfolding total
total_ext f g zero h = refl
total_ext f g (suc n) h = ap₂ ◌+◌ (total_ext f g n (λ i l. h i (omega arith))) (h n (omega arith))

-- one more weight for each
heavier : (b : List ℕ) (m n : ℕ) → n ≤ m → total (λ i. (m + 1 - i) * at b i) n ≡ total (λ i. (m - i) * at b i) n + plain b n
unfolding total
heavier b m zero h = refl
heavier b m (suc n) h =
    let e : m + 1 - n ≡ suc (m - n) = omega arith in
    let p : (m + 1 - n) * at b n ≡ (m - n) * at b n + at b n = ap (λ (k : ℕ). k * at b n) e ∙ suc-mul (m - n) (at b n) in
    omega (arith, heavier b m n (omega arith))

-- what a turn of a loop adds
pub plain_more : (b : List ℕ) (n : ℕ) → plain b (n + 1) ≡ plain b n + at b n
unfolding total
plain_more b n = ap (total (λ i. at b i)) (add-one n)

pub weighted-more : (b : List ℕ) (n : ℕ) → weighted b (n + 1) ≡ weighted b n + plain b (n + 1)
unfolding total
weighted-more b n =
    let e : n + 1 - n ≡ 1 = omega arith in
    let p : (n + 1 - n) * at b n ≡ at b n = ap (λ (k : ℕ). k * at b n) e ∙ omega arith in
    let q : plain b (n + 1) ≡ plain b n + at b n = plain_more b n in
    ap (total (λ i. (n + 1 - i) * at b i)) (add-one n)
    ∙ omega (arith, heavier b n n (omega arith))

-- a sum has room in two bytes
pub s1-fits : {x : ℕ} (b : List ℕ) → x ≡ s1 b → x < 65536
unfolding s1
s1-fits b e = omega arith

pub s2-fits : {x : ℕ} (b : List ℕ) → x ≡ s2 b → x < 65536
unfolding s2
s2-fits b e = omega arith

-- the sums look at the first 508 bytes alone
pub s1-front : (b p : List ℕ) → take 508 b ≡ p → s1 b ≡ s1 p
unfolding s1
s1-front b p e = ap (λ (x : ℕ). x % 65535) (total_ext (λ i. at b i) (λ i. at p i) 508 (λ i h. sym (get_or-take 508 b i 0 h) ∙ ap (λ (l : List ℕ). at l i) e))

pub s2-front : (b p : List ℕ) → take 508 b ≡ p → s2 b ≡ s2 p
unfolding s2
s2-front b p e = ap (λ (x : ℕ). x % 65535) (total_ext (λ i. (508 - i) * at b i) (λ i. (508 - i) * at p i) 508 (λ i h. ap (λ (x : ℕ). (508 - i) * x) (sym (get_or-take 508 b i 0 h) ∙ ap (λ (l : List ℕ). at l i) e)))
