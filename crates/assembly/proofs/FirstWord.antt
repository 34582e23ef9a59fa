-- A line that making does not refuse is empty, or its first word is an instruction's name; so it is no statement. Assumes nothing.
use mathlib.Core.Path.{◌≡◌, refl, sym, ap, ap₂, subst, ◌∙◌}
use mathlib.Core.Bool.{Bool, true, false, cond, ◌||◌, false≢true}
use mathlib.Core.List.{List, [], ◌∷◌, ◌++◌}
use mathlib.Core.Logic.{◌⊎◌, inl, inr}
use Prim.Native.Nat.{ℕ, zero, suc, ◌+◌, ◌-◌, ◌<◌, ◌≤◌}
use native.Mathlib.Decide.{dec_le, ℕ_discrete}
use native.Mathlib.Nat.{zero-add}
use native.Mathlib.Omega.{arith}
use lib.Dec.{eqb}
use lib.ListN.{get_or, take, drop}
use borrow.Author.Tests.{ne_eqb, eqb-true, le-ltb}
use Rattle.bits.specs.Search.{index_of}
use Rattle.bits.proofs.Find.{found_at}
use Rattle.bits.proofs.Rows.{and_left, and_right}
use Rattle.judge.specs.declared.Instruction.{Instruction}
use Rattle.spelling.specs.Tables.{heads}
use Rattle.spelling.specs.Words.{unreadable, extended, extended_by}
use Rattle.lines.specs.declared.Line.{Line}
use Rattle.lines.specs.declared.Phase.TheVariants.{Head, Comment, Refused}
use Rattle.lines.specs.Alone.{of_kind}
use Rattle.lines.specs.Worded.{line, worded, head_word}
use Rattle.text.specs.declared.Reading.{Reading}
use Rattle.text.specs.Make.{reading, start_of, blank, ended, closed, character, stepped, ends, number_of, last_of}
use Rattle.assembly.specs.Words.{stops, blanks, letters, part, word_from, same_characters}
use Rattle.assembly.specs.Fields.{Named}
use Rattle.assembly.specs.Statements.{statements, difference, instruction_line, line_by}

-- No character is a line feed.
abbrev pub NoFeed : List ℕ → Type 0
NoFeed [] = Unit {0}
NoFeed (c ∷ cs) = (eqb c 10 ≡ false) × NoFeed cs

-- What a reading ends with: the number of its refusal, or 0.
abbrev ending : Reading → ℕ → List ℕ → ℕ
ending r at cs = number_of (ends r at cs).line.phase

-- a refusal stays
stays : (n : ℕ) (g : Instruction) (w start : ℕ) (r : Bool) (at : ℕ) (cs : List ℕ) → ending (reading (line (Refused n) g) w start r) at cs ≡ n
unfolding ends stepped
stays n g w start r at [] = refl
stays n g w start r at (c ∷ cs) = stays n g w start false (at + 1) cs

-- no word, or an instruction's name
abbrev Headed : ℕ → Type 0
Headed v = (v ≡ 0) ⊎ (index_of v heads < 8)

-- the word w at the end of a line that has no other leads on only if it is a name
unheaded : (w : ℕ) (g : Instruction) → (w ≡ 0 → ⊥) → 8 ≤ index_of w heads → ended (line Head g) w ≡ line (Refused 60) (of_kind 0)
unfolding ended worded head_word
unheaded w g u h = simp (ne_eqb w 0 u, le-ltb (index_of w heads) 7 (omega arith), ne_eqb (index_of w heads) 7 (λ e. omega arith))

-- where it ends, with what the character does to a line that was refused
ended-headed : (w : ℕ) (g : Instruction) (n : ℕ) → n ≡ 0 → ((l : Line) → ended (line Head g) w ≡ line (Refused 60) (of_kind 0) → n ≡ 60) → Headed w
ended-headed w g n z f = go (ℕ_discrete w 0) (dec_le 8 (index_of w heads))
  where
    go : Dec (w ≡ 0) → Dec (8 ≤ index_of w heads) → Headed w
    go (yes e) d = inl e
    go (no u) (no h) = inr (omega arith)
    go (no u) (yes h) =
        let e : n ≡ 60 = f (line Head g) (unheaded w g u h) in
        absurd (omega arith)

or-true : (b : Bool) → (b || true) ≡ true
or-true true = refl
or-true false = refl

-- a blank is no `;`
blank-only : (c : ℕ) → blank c ≡ true → eqb c 59 ≡ false
blank-only c e = go (ℕ_discrete c 59)
  where
    go : Dec (c ≡ 59) → eqb c 59 ≡ false
    go (no u) = ne_eqb c 59 u
    go (yes q) = absurd (false≢true (ap blank (sym q) ∙ e))

module _ (g : Instruction) (w start at : ℕ) (r : Bool) (c : ℕ) (f : eqb c 10 ≡ false) where
  at-comment : eqb c 59 ≡ true → stepped (reading (line Head g) w start r) at c ≡ closed Comment (ended (line Head g) w) at start
  unfolding stepped character
  at-comment s = simp (f, s)

  at-blank : eqb c 59 ≡ false → blank c ≡ true → stepped (reading (line Head g) w start r) at c ≡ reading (ended (line Head g) w) 0 start false
  unfolding stepped character
  at-blank s b = simp (f, s, b)

  at-letter : eqb c 59 ≡ false → blank c ≡ false → stepped (reading (line Head g) w start r) at c ≡ reading (line Head g) (extended w c) (start_of w at start) false
  unfolding stepped character
  at-letter s b = simp (f, s, b)

-- the characters of the first word, w so far
letters-read : (g : Instruction) (cs : List ℕ) (w start at : ℕ) (r : Bool) → NoFeed cs → ending (reading (line Head g) w start r) at (cs ++ (10 ∷ [])) ≡ 0
    → Headed (extended_by w (take (letters cs) cs))
unfolding letters extended_by ends stepped character closed
letters-read g [] w start at r f z = ended-headed w g _ z (λ l e. ap (λ (x : Line). number_of (closed Head x at start).line.phase) e)
letters-read g (c ∷ cs) w start at r f z = go (eqb c 59) (blank c) refl refl (letters-read g cs (extended w c) (start_of w at start) (at + 1) false f.1)
  where
    tail : List ℕ
    tail = cs ++ (10 ∷ [])

    found : (n : ℕ) → letters (c ∷ cs) ≡ n → Headed (extended_by w (take n (c ∷ cs))) → Headed (extended_by w (take (letters (c ∷ cs)) (c ∷ cs)))
    found n e h = subst (λ (k : ℕ). Headed (extended_by w (take k (c ∷ cs)))) (sym e) h

    size : (b : Bool) → stops c ≡ b → letters (c ∷ cs) ≡ cond b 0 (suc (letters cs))
    size b e = ap (λ (x : Bool). cond x 0 (suc (letters cs))) e

    go : (y x : Bool) → eqb c 59 ≡ y → blank c ≡ x
        → (ending (reading (line Head g) (extended w c) (start_of w at start) false) (at + 1) tail ≡ 0 → Headed (extended_by (extended w c) (take (letters cs) cs)))
        → Headed (extended_by w (take (letters (c ∷ cs)) (c ∷ cs)))
    go true x ey ex next =
        let z' = sym (ap (λ (s : Reading). ending s (at + 1) tail) (at-comment g w start at r c f.0 ey)) ∙ z in
        found 0 (size true (ap (λ (b : Bool). blank c || b) ey ∙ or-true (blank c)))
        (ended-headed w g _ z' (λ l e. ap (λ (x : Line). ending (closed Comment x at start) (at + 1) tail) e ∙ stays 60 (of_kind 0) 0 start false (at + 1) tail))
    go false true ey ex next =
        let z' = sym (ap (λ (s : Reading). ending s (at + 1) tail) (at-blank g w start at r c f.0 ey ex)) ∙ z in
        found 0 (size true (ap (λ (b : Bool). b || eqb c 59) ex))
        (ended-headed w g _ z' (λ l e. ap (λ (x : Line). ending (reading x 0 start false) (at + 1) tail) e ∙ stays 60 (of_kind 0) 0 start false (at + 1) tail))
    go false false ey ex next =
        found (suc (letters cs)) (size false (ap₂ (λ (a b : Bool). a || b) ex ey))
        (next (sym (ap (λ (s : Reading). ending s (at + 1) tail) (at-letter g w start at r c f.0 ey ex)) ∙ z))

-- the blanks in front of it
word_read : (g : Instruction) (cs : List ℕ) (start at : ℕ) (r : Bool) → NoFeed cs → ending (reading (line Head g) 0 start r) at (cs ++ (10 ∷ [])) ≡ 0
    → Headed (extended_by 0 (take (letters (drop (blanks cs) cs)) (drop (blanks cs) cs)))
unfolding blanks ends ended
word_read g [] start at r f z = letters-read g [] 0 start at r f z
word_read g (c ∷ cs) start at r f z = go (blank c) refl (word_read g cs start (at + 1) false f.1)
  where
    tail : List ℕ
    tail = cs ++ (10 ∷ [])

    Found : ℕ → Type 0
    Found n = Headed (extended_by 0 (take (letters (drop n (c ∷ cs))) (drop n (c ∷ cs))))

    found : (n : ℕ) → blanks (c ∷ cs) ≡ n → Found n → Found (blanks (c ∷ cs))
    found n e h = subst Found (sym e) h

    go : (x : Bool) → blank c ≡ x
        → (ending (reading (line Head g) 0 start false) (at + 1) tail ≡ 0 → Headed (extended_by 0 (take (letters (drop (blanks cs) cs)) (drop (blanks cs) cs))))
        → Found (blanks (c ∷ cs))
    go true ex next =
        let other : eqb c 59 ≡ false = blank-only c ex in
        found (suc (blanks cs)) (ap (λ (b : Bool). cond b (suc (blanks cs)) 0) ex)
        (next (sym (ap (λ (s : Reading). ending s (at + 1) tail) (at-blank g 0 start at r c f.0 other ex)) ∙ z))
    go false ex next = found 0 (ap (λ (b : Bool). cond b (suc (blanks cs)) 0) ex) (letters-read g (c ∷ cs) 0 start at r f z)

-- ---- the first word

-- Its characters.
first_of : List ℕ → List ℕ
first_of cs = take (letters (drop (blanks cs) cs)) (drop (blanks cs) cs)

first_part : (cs : List ℕ) → part cs (word_from cs 0).start (word_from cs 0).next ≡ first_of cs
unfolding word_from first_of
first_part cs =
    let b = blanks cs in
    let e : b + letters (drop b cs) - b ≡ letters (drop b cs) = omega arith in
    ap (λ (x : ℕ). take (x + letters (drop x cs) - x) (drop x cs)) (zero-add b) ∙ ap (λ (n : ℕ). take n (drop b cs)) e

first_word : (cs : List ℕ) → (word_from cs 0).word ≡ extended_by 0 (first_of cs)
unfolding word_from
first_word cs = ap (extended_by 0) (first_part cs)

-- Of a line that is not refused.
pub first-headed : (cs : List ℕ) → NoFeed cs → number_of (last_of cs).line.phase ≡ 0 → ((word_from cs 0).word ≡ 0) ⊎ (index_of (word_from cs 0).word heads < 8)
unfolding last_of first_of
first-headed cs f z = subst Headed (sym (first_word cs)) (word_read (of_kind 0) cs 0 0 false f z)

-- ---- it is no statement's name

same-as : (a b : List ℕ) → same_characters a b ≡ true → a ≡ b
unfolding same_characters
same-as [] [] e = refl
same-as [] (y ∷ b) e = absurd (false≢true e)
same-as (x ∷ a) [] e = absurd (false≢true e)
same-as (x ∷ a) (y ∷ b) e = ap₂ (λ (n : ℕ) (l : List ℕ). n ∷ l) (eqb-true x y (and_left (eqb x y) (same_characters a b) e)) (same-as a b (and_right (eqb x y) (same_characters a b) e))

-- a word of ten characters is none that can be read
long : (cs : List ℕ) → same_characters cs difference ≡ true → extended_by 0 cs ≡ unreadable
unfolding extended extended_by
long cs e = ap (extended_by 0) (same-as cs difference e)

readable : (v : ℕ) → Headed v → v ≡ unreadable → ⊥
unfolding index_of
readable v (inl z) e = omega arith
readable v (inr h) e =
    let q : index_of v heads ≡ 8 = ap (λ (x : ℕ). index_of x heads) e in
    omega arith

head-other : (k : ℕ) → k < 8 → index_of (get_or heads k 0) statements ≡ 6
unfolding index_of
head-other zero h = refl
head-other (suc zero) h = refl
head-other (suc (suc zero)) h = refl
head-other (suc (suc (suc zero))) h = refl
head-other (suc (suc (suc (suc zero)))) h = refl
head-other (suc (suc (suc (suc (suc zero))))) h = refl
head-other (suc (suc (suc (suc (suc (suc zero)))))) h = refl
head-other (suc (suc (suc (suc (suc (suc (suc zero))))))) h = refl
head-other (suc (suc (suc (suc (suc (suc (suc (suc k)))))))) h = absurd (omega arith)

other : (v : ℕ) → Headed v → index_of v statements ≡ 6
unfolding index_of
other v (inl z) = ap (λ (x : ℕ). index_of x statements) z
other v (inr h) = ap (λ (x : ℕ). index_of x statements) (sym (found_at v heads h)) ∙ head-other (index_of v heads) h

-- A line that making does not refuse is an instruction or empty.
pub made-line : (t : Named) (cs : List ℕ) → NoFeed cs → number_of (last_of cs).line.phase ≡ 0 → line_by t cs (word_from cs 0) ≡ instruction_line cs
unfolding line_by
made-line t cs f z =
    let w = word_from cs 0 in
    let h = first-headed cs f z in
    let k = other w.word h in
    simp (no-long (same_characters (part cs w.start w.next) difference) refl h, k)
  where
    no-long : (b : Bool) → same_characters (part cs (word_from cs 0).start (word_from cs 0).next) difference ≡ b → Headed (word_from cs 0).word
        → same_characters (part cs (word_from cs 0).start (word_from cs 0).next) difference ≡ false
    no-long false e h = e
    no-long true e h = absurd (readable (word_from cs 0).word h (first_word cs ∙ ap (extended_by 0) (sym (first_part cs)) ∙ long _ e))
