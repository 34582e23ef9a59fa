-- Laws of a block that is written: its length, and what code that writes it part by part leaves. Assumes nothing.
use mathlib.Core.Path.{◌≡◌, refl, sym, ap, ap₂, ◌∙◌}
use mathlib.Core.List.{List, ◌∷◌, ◌++◌, append_assoc}
use Prim.Native.Nat.{ℕ, ◌+◌, ◌-◌, ◌≤◌}
use native.Mathlib.Omega.{arith}
use lib.ListN.{length, take, drop, replicate, drop_of_length-le, length-append, length-replicate, length-drop}
use lib.Seq.{take_at, drop-drop, length-take-le, take-append-add}
use borrow.Rule.Slice.PartMut.{mid_of, post_of, put_mid, mid_len, same_len_mid}
use Rattle.blocks.specs.Sums.{s1, s2}
use Rattle.bits.specs.Bits.{two}
use Rattle.blocks.specs.Block.{header, body, summed, block}
use Rattle.blocks.proofs.SumLaws.{s1-front, s2-front}

pub length-header : (kind place count used : ℕ) → length (header kind place count used) ≡ 12
unfolding header
length-header kind place count used = refl

pub length-body : (kind place count : ℕ) (pay : List ℕ) → length pay ≤ 496 → length (body kind place count pay) ≡ 508
unfolding body
length-body kind place count pay h =
    let hd = header kind place count (length pay) in
    omega (arith, length-append (hd ++ pay) (replicate (496 - length pay) 0), length-append hd pay, length-header kind place count (length pay), length-replicate {A = ℕ} (496 - length pay) 0)

pub length-block : (kind place count : ℕ) (pay : List ℕ) → length pay ≤ 496 → length (block kind place count pay) ≡ 512
unfolding summed
length-block kind place count pay h =
    let b = body kind place count pay in
    omega (arith, length-append (b ++ two (s1 b)) (two (s2 b)), length-append b (two (s1 b)), length-body kind place count pay h)

-- a part written after a known front
pub front-more : (k m j : ℕ) (l ys p : List ℕ) → take k l ≡ p → length p ≡ k → length ys ≡ j → take (k + j) (put_mid k m l ys) ≡ p ++ ys
front-more k m j l ys p e lp ly =
    ap (λ (x : List ℕ). take (k + j) (x ++ (ys ++ post_of k m l))) e
    ∙ ap (take (k + j)) (sym (append_assoc p ys (post_of k m l)))
    ∙ take_at (p ++ ys) (post_of k m l) (k + j) (length-append p ys ∙ ap₂ ◌+◌ lp ly)

-- ---- header, zeros and sums written around a payload of n bytes that stands in the block
module _ (kind place count n : ℕ) (out h z t : List ℕ) where
  abbrev o1 : List ℕ
  o1 = h ++ post_of 0 12 out

  abbrev o2 : List ℕ
  o2 = put_mid (12 + n) (508 - (12 + n)) o1 z

  pub sealed-is : length out ≡ 512 → n ≤ 496 → h ≡ header kind place count n
      → z ≡ replicate (length (mid_of (12 + n) (508 - (12 + n)) o1)) 0 → t ≡ two (s1 o2) ++ two (s2 o2)
      → put_mid 508 4 o2 t ≡ block kind place count (take n (drop 12 out))
  unfolding body summed
  sealed-is lo ln eh ez et =
      let pay = take n (drop 12 out) in
      let hd = header kind place count n in
      let zs = replicate {A = ℕ} (496 - n) 0 in
      let lp : length pay ≡ n = length-take-le n (drop 12 out) (omega (arith, length-drop 12 out)) in
      let lh : length h ≡ 12 = ap length eh ∙ length-header kind place count n in
      let l1 : length o1 ≡ 512 = omega (arith, length-append h (post_of 0 12 out), length-drop 12 out) in
      let lm : length (mid_of (12 + n) (508 - (12 + n)) o1) ≡ 496 - n = mid_len (12 + n) 508 o1 (omega arith) ∙ omega arith in
      let ez' : z ≡ zs = ez ∙ ap (λ (k : ℕ). replicate {A = ℕ} k 0) lm in
      let lz : length z ≡ 496 - n = ap length ez' ∙ length-replicate {A = ℕ} (496 - n) 0 in
      let l2 : length o2 ≡ 512 = same_len_mid (12 + n) (508 - (12 + n)) o1 z (lz ∙ sym lm) ∙ l1 in
      let f1 : take (12 + n) o1 ≡ hd ++ pay = ap (λ (k : ℕ). take (k + n) o1) (sym lh) ∙ take-append-add h (drop 12 out) n ∙ ap (λ (x : List ℕ). x ++ pay) eh in
      let lf : length (hd ++ pay) ≡ 12 + n = omega (arith, length-append hd pay, length-header kind place count n) in
      let f2 : take (12 + n + (496 - n)) o2 ≡ (hd ++ pay) ++ z = front-more (12 + n) (508 - (12 + n)) (496 - n) o1 z (hd ++ pay) f1 lf lz in
      let e2 : 508 ≡ 12 + n + (496 - n) = omega arith in
      let used : (hd ++ pay) ++ zs ≡ body kind place count pay = ap (λ (k : ℕ). (header kind place count k ++ pay) ++ replicate {A = ℕ} (496 - k) 0) (sym lp) in
      let bd = body kind place count pay in
      let b : take 508 o2 ≡ bd = ap (λ (k : ℕ). take k o2) e2 ∙ f2 ∙ ap (λ (x : List ℕ). (hd ++ pay) ++ x) ez' ∙ used in
      ap₂ (λ (u v : List ℕ). u ++ (v ++ post_of 508 4 o2)) b (et ∙ ap₂ (λ (u v : ℕ). two u ++ two v) (s1-front o2 bd b) (s2-front o2 bd b))
      ∙ ap (λ (u : List ℕ). bd ++ ((two (s1 bd) ++ two (s2 bd)) ++ u)) (drop-drop 4 508 o2 ∙ drop_of_length-le o2 {i = 508 + 4} (omega arith))
      ∙ sym (append_assoc bd (two (s1 bd)) (two (s2 bd)))

-- four bytes and a rest
pub four : {a a' b b' c c' d d' : ℕ} {r r' : List ℕ} → a ≡ a' → b ≡ b' → c ≡ c' → d ≡ d' → r ≡ r' → a ∷ b ∷ c ∷ d ∷ r ≡ a' ∷ b' ∷ c' ∷ d' ∷ r'
four p q r s t = cc
