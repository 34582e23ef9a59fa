-- A block has one form: what is written is good at its place with its payload, and a good block is what its fields and its payload are written as. Assumes nothing.
use mathlib.Core.Path.{◌≡◌, refl, sym, ap, ap₂, ◌∙◌}
use mathlib.Core.Bool.{true, ◌&&◌}
use mathlib.Core.List.{List, [], ◌∷◌, ◌++◌, append_assoc}
use Prim.Native.Nat.{ℕ, suc, ◌+◌, ◌-◌, ◌*◌, ◌/◌, ◌%◌, ◌<◌, ◌≤◌}
use native.Mathlib.Omega.{arith}
use lib.ListN.{length, take, drop, replicate, length-append, length-replicate, length-drop}
use lib.Seq.{take_at, drop_at, drop-cons, get_or-append-add, take-add, take_all, length-take-le}
use borrow.Author.Tests.{eq-eqb}
use Rattle.blocks.specs.Sums.{at, s1, s2}
use Rattle.bits.specs.Bits.{two}
use Rattle.blocks.specs.Block.{two_at, part, header, body, summed, block, payload_of, sums_right, used_right, all_zero, zeros_right, fault}
use Rattle.blocks.proofs.SumLaws.{s1-front, s2-front}
use Rattle.bits.proofs.Rows.{and_left, and_right}
use Rattle.blocks.proofs.BlockLaws.{zeros-zero, zeros-are, used_le, fault-last, Good}
use Rattle.blocks.proofs.WriteLaws.{length-header, length-body}
use Rattle.blocks.proofs.Detection.{sums-of}

-- ---- a block that was written

module _ (kind place count : ℕ) (pay : List ℕ) (fit : length pay ≤ 496) where
  abbrev bd : List ℕ
  bd = body kind place count pay

  abbrev bk : List ℕ
  bk = block kind place count pay

  block-front : take 508 bk ≡ bd
  unfolding summed
  block-front = ap (take 508) (append_assoc bd (two (s1 bd)) (two (s2 bd))) ∙ take_at bd (two (s1 bd) ++ two (s2 bd)) 508 (length-body kind place count pay fit)

  tail_at : (n : ℕ) → at bk (508 + n) ≡ at (two (s1 bd) ++ two (s2 bd)) n
  unfolding summed
  tail_at n =
      ap (λ (l : List ℕ). at l (508 + n)) (append_assoc bd (two (s1 bd)) (two (s2 bd)))
      ∙ ap (λ (k : ℕ). at (bd ++ (two (s1 bd) ++ two (s2 bd))) (k + n)) (sym (length-body kind place count pay fit))
      ∙ get_or-append-add bd (two (s1 bd) ++ two (s2 bd)) n 0

  block-sums : sums_right bk ≡ true
  unfolding sums_right
  block-sums =
      let a : two_at bk 508 ≡ s1 bk = ap₂ (λ (x y : ℕ). x + 256 * y) (tail_at 0) (tail_at 1) ∙ omega arith ∙ sym (s1-front bk bd block-front) in
      let b : two_at bk 510 ≡ s2 bk = ap₂ (λ (x y : ℕ). x + 256 * y) (tail_at 2) (tail_at 3) ∙ omega arith ∙ sym (s2-front bk bd block-front) in
      ap₂ ◌&&◌ (eq-eqb (two_at bk 508) (s1 bk) a) (eq-eqb (two_at bk 510) (s2 bk) b)

  block-kind : two_at bk 0 ≡ kind
  unfolding summed body header
  block-kind = omega arith

  block-place : two_at bk 2 ≡ place
  unfolding summed body header
  block-place = omega arith

  block-count : two_at bk 4 ≡ count
  unfolding summed body header
  block-count = omega arith

  block-used : two_at bk 6 ≡ length pay
  unfolding summed body header
  block-used = omega arith

  block-low : all_zero (part 8 12 bk) ≡ true
  unfolding summed body header all_zero
  block-low = refl

  -- header, payload, zeros and sums, one after the other
  block-split : bk ≡ header kind place count (length pay) ++ (pay ++ (replicate (496 - length pay) 0 ++ (two (s1 bd) ++ two (s2 bd))))
  unfolding summed body
  block-split = simp append_assoc

  pub block-payload : payload_of bk ≡ pay
  block-payload =
      let r = replicate {A = ℕ} (496 - length pay) 0 ++ (two (s1 bd) ++ two (s2 bd)) in
      ap₂ (λ (n : ℕ) (l : List ℕ). take n (drop 12 l)) block-used block-split
      ∙ ap (take (length pay)) (drop_at (header kind place count (length pay)) (pay ++ r) 12 (length-header kind place count (length pay)))
      ∙ take_at pay r (length pay) refl

  block-rest : all_zero (part (12 + two_at bk 6) 508 bk) ≡ true
  block-rest =
      let n = length pay in
      let hd = header kind place count n in
      let zs = replicate {A = ℕ} (496 - n) 0 in
      let tl = two (s1 bd) ++ two (s2 bd) in
      let e : 508 - (12 + n) ≡ 496 - n = omega arith in
      let d : drop (12 + n) bk ≡ zs ++ tl =
      ap (drop (12 + n)) (block-split ∙ sym (append_assoc hd pay (zs ++ tl))) ∙ drop_at (hd ++ pay) (zs ++ tl) (12 + n) (omega (arith, length-append hd pay, length-header kind place count n)) in
      ap (λ (k : ℕ). all_zero (part (12 + k) 508 bk)) block-used
      ∙ ap₂ (λ (k : ℕ) (l : List ℕ). all_zero (take k l)) e d
      ∙ ap all_zero (take_at zs tl (496 - n) (length-replicate {A = ℕ} (496 - n) 0))
      ∙ zeros-zero (496 - n)

  block-zeros : zeros_right bk ≡ true
  unfolding zeros_right
  block-zeros = ap₂ ◌&&◌ block-low block-rest

  pub block-good : used_right place count (length pay) ≡ true → fault bk kind place count ≡ 0
  block-good u =
      fault-last bk kind place count block-sums block-kind block-place block-count true true (ap (used_right place count) block-used ∙ u) block-zeros

-- ---- a good block that was read

-- two bytes are those of the number that they are
two_back : (l : List ℕ) (i x : ℕ) → ((k : ℕ) → at l k < 256) → i + 1 < length l → two_at l i ≡ x → take 2 (drop i l) ≡ two x
two_back l i x bytes h e =
    let a : at l i ≡ x % 256 = omega (arith, bytes i, bytes (i + 1)) in
    let b : at l (i + 1) ≡ x / 256 = omega (arith, bytes i, bytes (i + 1)) in
    let s : drop (suc i) l ≡ at l (suc i) ∷ drop (suc (suc i)) l = drop-cons l (suc i) 0 (omega arith) in
    let n : suc i ≡ i + 1 = omega arith in
    ap (take 2) (drop-cons l i 0 (omega arith) ∙ ap (λ (t : List ℕ). at l i ∷ t) s)
    ∙ ap₂ (λ (u v : ℕ). u ∷ v ∷ []) a (ap (at l) n ∙ b)

module _ (b : List ℕ) (kind place count : ℕ) (size : length b ≡ 512) (bytes : (k : ℕ) → at b k < 256) (g : Good b kind place count) where
  abbrev n : ℕ
  n = two_at b 6

  zeros_of : (all_zero (part 8 12 b) ≡ true) × (all_zero (part (12 + n) 508 b) ≡ true)
  unfolding zeros_right
  zeros_of = (
    and_left (all_zero (part 8 12 b)) (all_zero (part (12 + n) 508 b)) g.zeros,
    and_right (all_zero (part 8 12 b)) (all_zero (part (12 + n) 508 b)) g.zeros,
  )

  used-fits : n ≤ 496
  used-fits = used_le place count n g.used

  payload-size : length (payload_of b) ≡ n
  payload-size = length-take-le n (drop 12 b) (omega (arith, used-fits, length-drop 12 b))

  low-is : take 4 (drop 8 b) ≡ 0 ∷ 0 ∷ 0 ∷ 0 ∷ []
  low-is = zeros-are (take 4 (drop 8 b)) zeros_of.0 ∙ ap (λ (k : ℕ). replicate {A = ℕ} k 0) (length-take-le 4 (drop 8 b) (omega (arith, length-drop 8 b)))

  front-is : take 12 b ≡ header kind place count n
  unfolding header
  front-is =
      take-add 8 4 b
      ∙ ap₂ ◌++◌
      (take-add 6 2 b
      ∙ ap₂ ◌++◌
      (take-add 4 2 b
      ∙ ap₂ ◌++◌ (take-add 2 2 b ∙ ap₂ ◌++◌ (two_back b 0 kind bytes (omega arith) g.kind-is) (two_back b 2 place bytes (omega arith) g.place_is)) (two_back b 4 count bytes (omega arith) g.count-is))
      (two_back b 6 n bytes (omega arith) refl))
      low-is

  body_is : take 508 b ≡ body kind place count (payload_of b)
  unfolding body
  body_is =
      let r = 508 - (12 + n) in
      let e : 508 ≡ 12 + n + r = omega (arith, used-fits) in
      let z : length (take r (drop (12 + n) b)) ≡ r = length-take-le r (drop (12 + n) b) (omega (arith, used-fits, length-drop (12 + n) b)) in
      let m : r ≡ 496 - length (payload_of b) = omega (arith, used-fits, payload-size) in
      ap (λ (k : ℕ). take k b) e
      ∙ take-add (12 + n) r b
      ∙ ap₂ ◌++◌ (take-add 12 n b ∙ ap (λ (l : List ℕ). l ++ payload_of b) front-is)
      (zeros-are (take r (drop (12 + n) b)) zeros_of.1 ∙ ap (λ (k : ℕ). replicate {A = ℕ} k 0) z)
      ∙ ap₂ (λ (j k : ℕ). header kind place count j ++ payload_of b ++ replicate {A = ℕ} k 0) (sym payload-size) m

  -- a good block is what it is written as
  pub good-block : b ≡ block kind place count (payload_of b)
  unfolding summed
  good-block =
      let bd = body kind place count (payload_of b) in
      let q = sums-of b g.sums in
      let t1 : take 2 (drop 508 b) ≡ two (s1 bd) = two_back b 508 (s1 bd) bytes (omega arith) (q.0 ∙ s1-front b bd body_is) in
      let t2 : take 2 (drop 510 b) ≡ two (s2 bd) = two_back b 510 (s2 bd) bytes (omega arith) (q.1 ∙ s2-front b bd body_is) in
      sym (take_all 512 b (omega arith))
      ∙ take-add 510 2 b
      ∙ ap₂ ◌++◌ (take-add 508 2 b ∙ ap₂ ◌++◌ body_is t1) t2
