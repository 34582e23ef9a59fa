-- Laws of bytes put into a list: a lent part that came back, one byte, one piece after another. Assumes nothing.
use mathlib.Core.Path.{◌≡◌, sym, ap, ap₂, ◌∙◌}
use mathlib.Core.Logic.{◌≢◌}
use mathlib.Core.List.{List, [], ◌∷◌, ◌++◌, append_assoc, append-nil}
use Prim.Native.Nat.{ℕ, zero, suc, ◌+◌, ◌-◌, ◌<◌, ◌≤◌}
use native.Mathlib.Nat.{add-zero, zero-add}
use native.Mathlib.Numerals.{add-one}
use native.Mathlib.Omega.{arith}
use lib.ListN.{length, get_or, take, drop, set, length-append, take-append-drop, drop_of_length-le}
use lib.Seq.{take_at, take-suc, take-length, drop-append-add, drop-drop, length-take-le, set_split}
use borrow.Rule.Slice.PartMut.{put_mid}
use Rattle.bits.specs.Steps.{put_at, Put, written}
use Rattle.bits.proofs.Writes.{length-written, written_at, written-off, written-bytes}

-- a part that was lent on and came back as ys
pub part-put : (k e : ℕ) (xs ys : List ℕ) → length ys ≡ e - k → put_mid k (e - k) xs ys ≡ put_at k ys xs
unfolding put_at
part-put k e xs ys h = ap (λ (z : List ℕ). take k xs ++ (ys ++ z)) (drop-drop (e - k) k xs ∙ ap (λ (n : ℕ). drop (k + n) xs) (sym h))

-- nothing put
pub put-nil : (k : ℕ) (xs : List ℕ) → put_at k [] xs ≡ xs
unfolding put_at
put-nil k xs = ap (λ (n : ℕ). take k xs ++ drop n xs) (add-zero k) ∙ take-append-drop k xs

-- one byte
pub put_one : (k a : ℕ) (xs : List ℕ) → k < length xs → set xs k a ≡ put_at k (a ∷ []) xs
unfolding put_at
put_one k a xs h = set_split xs k a h ∙ ap (λ (n : ℕ). take k xs ++ (a ∷ drop n xs)) (sym (add-one k))

-- one after the other
pub put-put : (k j : ℕ) (ys zs xs : List ℕ) → k ≤ length xs → j ≡ k + length ys → put_at j zs (put_at k ys xs) ≡ put_at k (ys ++ zs) xs
unfolding put_at
put-put k j ys zs xs h e =
    let d = drop (k + length ys) xs in
    let p = take k xs ++ ys in
    let lp : length p ≡ j = length-append (take k xs) ys ∙ ap (λ (n : ℕ). n + length ys) (length-take-le k xs h) ∙ sym e in
    let q : k + length ys + length zs ≡ k + length (ys ++ zs) = omega (arith, length-append ys zs) in
    ap (λ (z : List ℕ). take j z ++ (zs ++ drop (j + length zs) z)) (sym (append_assoc (take k xs) ys d))
    ∙ ap₂ (λ (u v : List ℕ). u ++ (zs ++ v))
    (take_at p d j lp)
    (ap (λ (n : ℕ). drop (n + length zs) (p ++ d)) (sym lp)
    ∙ drop-append-add p d (length zs)
    ∙ drop-drop (length zs) (k + length ys) xs
    ∙ ap (λ (n : ℕ). drop n xs) q)
    ∙ append_assoc (take k xs) ys (zs ++ drop (k + length (ys ++ zs)) xs)
    ∙ ap (λ (z : List ℕ). take k xs ++ z) (sym (append_assoc ys zs (drop (k + length (ys ++ zs)) xs)))

-- from the front on
pub put_front : (ys xs : List ℕ) → put_at 0 ys xs ≡ ys ++ drop (length ys) xs
unfolding put_at
put_front ys xs = ap (λ (n : ℕ). ys ++ drop n xs) (zero-add (length ys))

-- over the whole list
pub put_all : (ys xs : List ℕ) → length ys ≡ length xs → put_at 0 ys xs ≡ ys
put_all ys xs e = put_front ys xs ∙ ap (λ (z : List ℕ). ys ++ z) (drop_of_length-le xs {i = length ys} (omega arith)) ∙ append-nil ys

-- ---- bytes put into a list are so many writes, one behind the other

module _ (k : ℕ) (ys xs : List ℕ) (h : k + length ys ≤ length xs) where
  first-put : (n : ℕ) → n ≤ length ys → written (λ j. k + j) (λ j o. get_or ys j 0) xs n ≡ put_at k (take n ys) xs
  unfolding written
  first-put zero l = sym (put-nil k xs)
  first-put (suc n) l =
      let ih : written (λ j. k + j) (λ j o. get_or ys j 0) xs n ≡ put_at k (take n ys) xs = first-put n (omega arith) in
      let size : length (put_at k (take n ys) xs) ≡ length xs = ap length (sym ih) ∙ length-written (λ j. k + j) (λ j o. get_or ys j 0) xs n in
      ap (λ (z : List ℕ). set z (k + n) (get_or ys n 0)) ih
      ∙ put_one (k + n) (get_or ys n 0) (put_at k (take n ys) xs) (omega arith)
      ∙ put-put k (k + n) (take n ys) (get_or ys n 0 ∷ []) xs (omega arith) (sym (ap (λ (m : ℕ). k + m) (length-take-le n ys (omega arith))))
      ∙ ap (λ (z : List ℕ). put_at k z xs) (sym (take-suc ys n 0 l))

  pub put_written : put_at k ys xs ≡ written (λ j. k + j) (λ j o. get_or ys j 0) xs (length ys)
  put_written = sym (first-put (length ys) (omega arith) ∙ ap (λ (z : List ℕ). put_at k z xs) (take-length ys))

  pub length-put : length (put_at k ys xs) ≡ length xs
  length-put = ap length put_written ∙ length-written (λ j. k + j) (λ j o. get_or ys j 0) xs (length ys)

  pub put-at : (j : ℕ) → j < length ys → get_or (put_at k ys xs) (k + j) 0 ≡ get_or ys j 0
  put-at j l =
      ap (λ (z : List ℕ). get_or z (k + j) 0) put_written
      ∙ written_at (λ j. k + j) (λ j o. get_or ys j 0) xs (length ys) j (λ i q e. omega arith) l (omega arith)

  pub put-off : (i : ℕ) → ((j : ℕ) → j < length ys → i ≢ k + j) → get_or (put_at k ys xs) i 0 ≡ get_or xs i 0
  put-off i u = ap (λ (z : List ℕ). get_or z i 0) put_written ∙ written-off (λ j. k + j) (λ j o. get_or ys j 0) xs (length ys) i u

  -- bytes stay bytes
  pub put-bytes : ((i : ℕ) → get_or ys i 0 < 256) → ((i : ℕ) → get_or xs i 0 < 256) → (i : ℕ) → get_or (put_at k ys xs) i 0 < 256
  put-bytes by bx i =
      omega (arith, ap (λ (z : List ℕ). get_or z i 0) put_written, written-bytes (λ j. k + j) (λ j o. get_or ys j 0) xs (length ys) bx (λ j o q l. by j) i)

-- ---- one writer behind another

-- nothing put
pub none-put : (k : ℕ) (t : List ℕ) → Put k [] t k t
none-put k t = record { behind = sym (add-zero k); left = sym (put-nil k t) }

-- what two writers leave, one after the other
pub then-put : {k n r : ℕ} {x y whole t t₁ t₂ : List ℕ} → k ≤ length t → Put k x t n t₁ → Put n y t₁ r t₂ → x ++ y ≡ whole → Put k whole t r t₂
then-put {k} {n} {r} {x} {y} {whole} {t} {t₁} {t₂} h p q e = record {
  behind = omega (arith, p.behind, q.behind, length-append x y, ap length e);
  left = q.left ∙ ap (put_at n y) p.left ∙ put-put k n x y t h p.behind ∙ ap (λ (l : List ℕ). put_at k l t) e;
}

-- from the front on
pub put_whole : {r : ℕ} {x t t' : List ℕ} → Put 0 x t r t' → (r ≡ length x) × (t' ≡ x ++ drop r t)
put_whole {r} {x} {t} {t'} p =
    let e : r ≡ length x = p.behind ∙ zero-add (length x) in
    (e, p.left ∙ put_front x t ∙ ap (λ (n : ℕ). x ++ drop n t) (sym e))
