-- Laws of a search through a list from its front: where a number first stands. Assumes nothing.
use mathlib.Core.Path.{◌≡◌, refl, sym, ap, ◌∙◌}
use mathlib.Core.Bool.{Bool, true, false, cond}
use mathlib.Core.List.{List, [], ◌∷◌}
use Prim.Native.Nat.{ℕ, zero, suc, ◌+◌, ◌<◌}
use native.Mathlib.Nat.{not-suc-le-zero, le_of_suc-le-suc, le_of_eq, zero-add}
use native.Mathlib.Numerals.{add-one}
use native.Mathlib.Omega.{arith}
use lib.Dec.{eqb}
use lib.ListN.{length, get_or, drop, drop_of_length-le}
use lib.Seq.{drop-cons}
use borrow.Author.Tests.{eq-eqb, ne_eqb, eqb-true}
use Rattle.bits.specs.Search.{index_of}

module _ (x : ℕ) (l : List ℕ) where
  pub find_none : index_of x l ≡ 0 + index_of x (drop 0 l)
  find_none = sym (zero-add (index_of x l))

  pub find-here : (i : ℕ) → i < length l → get_or l i 0 ≡ x → index_of x l ≡ i + index_of x (drop i l) → i ≡ index_of x l
  unfolding index_of
  find-here i h e q =
      let z : index_of x (drop i l) ≡ 0 = ap (index_of x) (drop-cons l i 0 h) ∙ ap (λ (b : Bool). cond b zero (suc (index_of x (drop (suc i) l)))) (eq-eqb (get_or l i 0) x e) in
      omega arith

  pub find-more : (i : ℕ) → i < length l → (get_or l i 0 ≡ x → ⊥) → index_of x l ≡ i + index_of x (drop i l) → index_of x l ≡ i + 1 + index_of x (drop (i + 1) l)
  unfolding index_of
  find-more i h e q =
      let z : index_of x (drop i l) ≡ suc (index_of x (drop (suc i) l)) =
      ap (index_of x) (drop-cons l i 0 h) ∙ ap (λ (b : Bool). cond b zero (suc (index_of x (drop (suc i) l)))) (ne_eqb (get_or l i 0) x e) in
      omega (arith, z, ap (λ (k : ℕ). index_of x (drop k l)) (add-one i))

  pub find-end : (i : ℕ) → length l ≡ i → index_of x l ≡ i + index_of x (drop i l) → i ≡ index_of x l
  unfolding index_of
  find-end i e q = omega (arith, ap (index_of x) (drop_of_length-le l {i = i} (le_of_eq e)))

-- what stands where it was found
pub found_at : (x : ℕ) (l : List ℕ) → index_of x l < length l → get_or l (index_of x l) 0 ≡ x
unfolding index_of
found_at x [] h = absurd (not-suc-le-zero h)
found_at x (y ∷ ys) h = go (eqb y x) refl h (found_at x ys)
  where
    go : (b : Bool) → eqb y x ≡ b → cond b zero (suc (index_of x ys)) < suc (length ys) → (index_of x ys < length ys → get_or ys (index_of x ys) 0 ≡ x)
        → get_or (y ∷ ys) (cond b zero (suc (index_of x ys))) 0 ≡ x
    go true e h rest = eqb-true y x e
    go false e h rest = rest (le_of_suc-le-suc h)
