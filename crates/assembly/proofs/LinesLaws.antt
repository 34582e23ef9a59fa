-- Laws of the lines of a text: they are the parts between its line feeds. Assumes nothing.
use Rattle.std.proofs.Common.{◌≡◌, refl, sym, ap, subst, ◌∙◌, cond, List, [], ◌∷◌, Option, Some, None, ℕ, zero, suc, ◌+◌, ◌<◌, ◌≤◌, eqb, length, drop, get_or, drop-cons, add-one, arith}
use lib.ListN.{drop_of_length-le}
use Rattle.std.specs.List.{slice_split, count_by, enumerate_from}
use Rattle.std.specs.List as list
use denote.Ref.{Bor}
use Rattle.std.specs.Iterator.{Yields}
use Rattle.std.proofs.lemmas.Iterator.{YieldsList}
use Rattle.std.proofs.lemmas.Iterator.Consumers.{YieldsList-turn, YieldsList-end}
use Rattle.std.proofs.lemmas.List.Splits.{length-slice_split}
use Rattle.std.proofs.lemmas.Grind.{common_steps}
use Rattle.assembly.specs.Assembly.{onto_first, lines_of}

onto-same : (c : ℕ) (ls : List (List ℕ)) → onto_first c ls ≡ list.onto_first c ls
unfolding onto_first
onto-same c [] = refl
onto-same c (l ∷ ls) = refl

pub lines-split : (text : List ℕ) → lines_of text ≡ slice_split (λ b. eqb b 10) text
unfolding lines_of
lines-split [] = refl
lines-split (c ∷ cs) =
    ap (λ (ls : List (List ℕ)). cond (eqb c 10) ([] ∷ ls) (onto_first c ls)) (lines-split cs)
    ∙ ap (λ (ls : List (List ℕ)). cond (eqb c 10) ([] ∷ slice_split (λ b. eqb b 10) cs) ls) (onto-same c (slice_split (λ b. eqb b 10) cs))

count-most : (text : List ℕ) → count_by (λ b. eqb b 10) text ≤ length text
count-most [] = omega arith
count-most (c ∷ cs) = let h = count-most cs in grind (arith, common_steps)

-- There are at most as many as characters, and one.
pub lines-most : (text : List ℕ) → length (lines_of text) ≤ length text + 1
lines-most text = omega (arith, count-most text, length-slice_split (λ b. eqb b 10) text, ap length (lines-split text))

-- what is left behind n of them
pub lines-drop : (text : List ℕ) (n : ℕ) (line : List ℕ) → n < length (lines_of text) → line ≡ get_or (lines_of text) n line
    → drop n (lines_of text) ≡ line ∷ drop (n + 1) (lines_of text)
lines-drop text n line h q =
    drop-cons (lines_of text) n line h
    ∙ ap (λ (x : List ℕ). x ∷ drop (suc n) (lines_of text)) (sym q)
    ∙ ap (λ (k : ℕ). line ∷ drop k (lines_of text)) (sym (add-one n))

pub lines-end : (text : List ℕ) (n : ℕ) → n ≡ length (lines_of text) → drop n (lines_of text) ≡ []
lines-end text n h = drop_of_length-le (lines_of text) {i = n} (omega arith)

-- where a numbered line stands
numbered-at : (a : ℕ) (ls : List (List ℕ)) (n k : ℕ) (line : List ℕ) → n < length (enumerate_from a ls) → ◌≡◌ {A = ℕ × List ℕ} (k, line) (get_or (enumerate_from a ls) n (k, line))
    → (n < length ls) × (k ≡ a + n) × (line ≡ get_or ls n line)
numbered-at a [] n k line h e = absurd (omega (arith, h))
numbered-at a (l ∷ ls) zero k line h e = (omega arith, omega (arith, ap (λ (x : ℕ × List ℕ). x.0) e), ap (λ (x : ℕ × List ℕ). x.1) e)
numbered-at a (l ∷ ls) (suc n) k line h e =
    let r = numbered-at (a + 1) ls n k line (omega (arith, h)) e in
    (omega (arith, r.0), omega (arith, r.1), r.2)

numbered-length : (a : ℕ) (ls : List (List ℕ)) → length (enumerate_from a ls) ≡ length ls
numbered-length a [] = refl
numbered-length a (l ∷ ls) = ap suc (numbered-length (a + 1) ls)

-- ---- a loop over the lines, numbered from 0

abbrev parts : List ℕ → List (List ℕ)
parts text = slice_split (λ (b : ℕ). eqb b 10) text

module _ {S : Type 0} {steps : S → Option (ℕ × Bor (List ℕ)) → S → Type 0} {s : S} (text : List ℕ) (xs : List (ℕ × Bor (List ℕ))) (t : S) (y : Yields steps s xs t)
    (r : Option (ℕ × Bor (List ℕ))) (u : S) (d : steps t r u) where
  pub numbered-turn : (k : ℕ) (line : Bor (List ℕ)) → r ≡ Some (k, line)
      → YieldsList {B = ℕ × List ℕ} steps (λ (p : ℕ × Bor (List ℕ)). (p.0, p.1.now)) s (enumerate_from 0 (parts text))
      → (length xs < length (lines_of text)) × (k ≡ length xs) × (line.now ≡ get_or (lines_of text) (length xs) line.now)
  numbered-turn k line e road =
      let p = YieldsList-turn road xs t y r u (k, line) e d in
      let q = numbered-at 0 (parts text) (length xs) k line.now p.0 p.1 in
      let P : List (List ℕ) → Type 0 = λ ls. (length xs < length ls) × (k ≡ length xs) × (line.now ≡ get_or ls (length xs) line.now) in
      subst P (sym (lines-split text)) (q.0, omega (arith, q.1), q.2)

  pub numbered-end : r ≡ None → YieldsList {B = ℕ × List ℕ} steps (λ (p : ℕ × Bor (List ℕ)). (p.0, p.1.now)) s (enumerate_from 0 (parts text)) → length xs ≡ length (lines_of text)
  numbered-end e road =
      let p = YieldsList-end road xs t y r u e d in
      p.1 ∙ numbered-length 0 (parts text) ∙ ap length (sym (lines-split text))

-- ---- and with no numbers

module _ {S : Type 0} {steps : S → Option (Bor (List ℕ)) → S → Type 0} {s : S} (text : List ℕ) (xs : List (Bor (List ℕ))) (t : S) (y : Yields steps s xs t)
    (r : Option (Bor (List ℕ))) (u : S) (d : steps t r u) where
  pub line-turn : (line : Bor (List ℕ)) → r ≡ Some line → YieldsList steps (λ (x : Bor (List ℕ)). x.now) s (parts text)
      → (length xs < length (lines_of text)) × (line.now ≡ get_or (lines_of text) (length xs) line.now)
  line-turn line e road =
      let p = YieldsList-turn road xs t y r u line e d in
      let P : List (List ℕ) → Type 0 = λ ls. (length xs < length ls) × (line.now ≡ get_or ls (length xs) line.now) in
      subst P (sym (lines-split text)) p

  pub line-end : r ≡ None → YieldsList steps (λ (x : Bor (List ℕ)). x.now) s (parts text) → length xs ≡ length (lines_of text)
  line-end e road =
      let p = YieldsList-end road xs t y r u e d in
      p.1 ∙ ap length (sym (lines-split text))
