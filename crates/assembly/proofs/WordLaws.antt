-- Laws of the characters of a line: what is counted, and what they make. Assumes nothing.
use Rattle.std.proofs.Common.{◌≡◌, refl, sym, ap, ◌∙◌, Bool, true, false, cond, not, ◌&&◌, List, [], ◌∷◌, ℕ, ◌+◌, ◌*◌, ◌<◌, ◌≤◌, ◌-◌, eqb, ltb, length, get_or, take, take_all, drop, length-drop, drop-cons, add-one, Option, Some, None, arith}
use lib.ListN.{drop_of_length-le}
use lib.Pointwise.{pointwise}
use borrow.Author.Tests.{le-ltb}
use Rattle.std.specs.List.{position, position_or_len, fold}
use Rattle.std.specs.Option.{unwrap_or, SomeIff}
use Rattle.std.proofs.lemmas.List.Sums.{prefix_len-le-length}
use Rattle.std.proofs.lemmas.Grind.{common_steps}
use Rattle.std.proofs.lemmas.Bool.Decides.{nat_tests}
use Rattle.spelling.specs.Words.{number, extended, extended_by}
use Rattle.text.specs.Make.{blank}
use Rattle.assembly.specs.Words.{stops, blanks, letters, Value, valued, with_digit, value_by, value_of, same_characters}
use Rattle.assembly.specs.Steps.{value_given}

-- ---- what is counted in front

pub blanks-position : (l : List ℕ) → blanks l ≡ position_or_len (λ c. not (blank c)) l
unfolding blanks
blanks-position [] = refl
blanks-position (c ∷ cs) = let h = blanks-position cs in grind (arith, common_steps)

pub letters-position : (l : List ℕ) → letters l ≡ position_or_len stops l
unfolding letters
letters-position [] = refl
letters-position (c ∷ cs) = let h = letters-position cs in grind (arith, common_steps)

position-or : (n k : ℕ) → n ≤ k → unwrap_or (cond (ltb n k) (Some n) None) k ≡ n
position-or n k h = grind (arith, nat_tests)

-- the first place from `at` on where p holds, or the end
pub first-place : (p : ℕ → Bool) (l : List ℕ) (at : ℕ) {o : Option ℕ} {r : ℕ} → at ≤ length l
    → o ≡ position p (take (length l - at) (drop at l)) → r ≡ unwrap_or o (length (take (length l - at) (drop at l)))
    → (at + r ≤ length l) × (r ≡ position_or_len p (drop at l))
first-place p l at {o} {r} h e u =
    let size = length-drop at l in
    let whole : take (length l - at) (drop at l) ≡ drop at l = ap (λ (n : ℕ). take n (drop at l)) (sym size) ∙ take_all (length (drop at l)) (drop at l) (omega arith) in
    let most = prefix_len-le-length (λ (x : ℕ). not (p x)) (drop at l) in
    let is : r ≡ position_or_len p (drop at l) =
    u
    ∙ ap (λ (x : Option ℕ). unwrap_or x (length (take (length l - at) (drop at l)))) e
    ∙ ap (λ (x : List ℕ). unwrap_or (position p x) (length x)) whole
    ∙ position-or (position_or_len p (drop at l)) (length (drop at l)) most in
    (omega (arith, is, most, size), is)

-- ---- what characters make

pub extended-fold : (w : ℕ) (l : List ℕ) → extended_by w l ≡ fold extended w l
unfolding extended_by
extended-fold w [] = refl
extended-fold w (c ∷ cs) = extended-fold (extended w c) cs

pub value-more : (l : List ℕ) (i : ℕ) (v : Value) → i < length l → value_by v (drop i l) ≡ value_by (with_digit v (get_or l i 0)) (drop (i + 1) l)
unfolding value_by
value-more l i v h = ap (value_by v) (drop-cons l i 0 h ∙ ap (λ (n : ℕ). get_or l i 0 ∷ drop n l) (sym (add-one i)))

pub value-end : (l : List ℕ) (i : ℕ) (v : Value) → length l ≤ i → value_by v (drop i l) ≡ v
unfolding value_by
value-end l i v h = ap (value_by v) (drop_of_length-le l {i = i} h)

-- no digit more makes a number of none
none-stays : (l : List ℕ) → value_by (valued false 0) l ≡ valued false 0
unfolding value_by with_digit
none-stays [] = refl
none-stays (c ∷ cs) = none-stays cs

pub value-none : (l : List ℕ) (i : ℕ) (v : Value) → i < length l → valued false 0 ≡ with_digit v (get_or l i 0) → value_by v (drop i l) ≡ valued false 0
value-none l i v h e = value-more l i v h ∙ ap (λ (x : Value). value_by x (drop (i + 1) l)) (sym e) ∙ none-stays (drop (i + 1) l)

pub value-short : (l : List ℕ) → length l ≤ 20 → value_by (valued true 0) l ≡ value_of l
unfolding value_of
value-short l h = sym (ap (λ (b : Bool). cond b (valued false 0) (value_by (valued true 0) l)) (le-ltb 20 (length l) h))

-- ---- the same characters

pub same-pointwise : (a b : List ℕ) → same_characters a b ≡ pointwise eqb a b
unfolding same_characters
same-pointwise [] [] = refl
same-pointwise [] (y ∷ b) = refl
same-pointwise (x ∷ a) [] = refl
same-pointwise (x ∷ a) (y ∷ b) = ap (λ (t : Bool). eqb x y && t) (same-pointwise a b)

-- ---- one digit more, by what its tests say

pub digit-none : (v : Value) (c : ℕ) → v.stands ≡ false → with_digit v c ≡ valued false 0
unfolding with_digit
digit-none v c s = simp s

module _ (v c : ℕ) where
  pub digit-bad : 9 < number c → with_digit (valued true v) c ≡ valued false 0
  unfolding with_digit
  digit-bad h = grind (arith, nat_tests)

  pub digit-large : number c ≤ 9 → 18446744073709551616 ≤ 10 * v + number c → with_digit (valued true v) c ≡ valued false 0
  unfolding with_digit
  digit-large h l = grind (arith, nat_tests)

  pub digit-fits : number c ≤ 9 → 10 * v + number c < 18446744073709551616 → with_digit (valued true v) c ≡ valued true (10 * v + number c)
  unfolding with_digit
  digit-fits h l = grind (arith, nat_tests)

  pub digit-added : {d f : ℕ} → d ≡ number c → d ≤ 9 → f ≡ v * 10 → (o : Option ℕ) → SomeIff o (f + d < 18446744073709551616) (f + d) → value_given o ≡ with_digit (valued true v) c
  digit-added {d} {f} e h q None u = sym (digit-large (omega arith) (omega arith))
  digit-added {d} {f} e h q (Some x) u = ap (valued true) (omega (arith, u.1)) ∙ sym (digit-fits (omega arith) (omega (arith, u.0)))
