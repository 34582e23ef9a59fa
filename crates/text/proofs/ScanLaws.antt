-- Laws of the loops over a text: one character more, and the line feed at its end. Assumes nothing.
use mathlib.Core.Path.{◌≡◌, refl, sym, ap, ◌∙◌}
use mathlib.Core.Bool.{Bool, true, false, cond}
use mathlib.Core.List.{List, [], ◌∷◌, ◌++◌, append-nil}
use Prim.Native.Nat.{ℕ, ◌+◌, ◌*◌, ◌<◌, ◌≤◌}
use native.Mathlib.Numerals.{add-one}
use native.Mathlib.Omega.{arith}
use lib.Dec.{eqb, ltb}
use mir.Val.{bool_byte}
use lib.ListN.{length, get_or, drop, drop_of_length-le, length-append}
use lib.Seq.{drop-cons}
use Rattle.bits.proofs.Rows.{taken}
use Rattle.spelling.specs.Words.{extended}
use Rattle.lines.specs.declared.Line.{Line}
use Rattle.lines.specs.declared.Phase.{Phase}
use Rattle.lines.specs.declared.Phase.TheVariants.{Head, Comment, Refused}
use Rattle.lines.specs.Alone.{bytes_of}
use Rattle.lines.specs.Worded.{line, sort_of}
use Rattle.text.specs.declared.Reading.{Reading}
use Rattle.text.specs.Make.{reading, start_of, blank, ended, closed, character, commented, stepped, brought, emitted, ends, line_at, column_at}

abbrev pub left : List ℕ → ℕ → List ℕ
left text i = drop i text ++ (10 ∷ [])

module _ (text : List ℕ) (i : ℕ) where
  left-more : i < length text → left text i ≡ get_or text i 0 ∷ left text (i + 1)
  left-more h = ap (λ (x : List ℕ). x ++ (10 ∷ [])) (drop-cons text i 0 h ∙ ap (λ (n : ℕ). get_or text i 0 ∷ drop n text) (sym (add-one i)))

  left_end : length text ≤ i → left text i ≡ 10 ∷ []
  left_end h = ap (λ (x : List ℕ). x ++ (10 ∷ [])) (drop_of_length-le text {i = i} h)

  pub ends_more : (s : Reading) → i < length text → ends s i (left text i) ≡ ends (stepped s i (get_or text i 0)) (i + 1) (left text (i + 1))
  unfolding ends
  ends_more s h = ap (ends s i) (left-more h)

  pub emitted-more : (s : Reading) → i < length text
      → emitted s i (left text i) ≡ brought (stepped s i (get_or text i 0)) ++ emitted (stepped s i (get_or text i 0)) (i + 1) (left text (i + 1))
  unfolding emitted
  emitted-more s h = ap (emitted s i) (left-more h)

  pub ends-end : (s : Reading) → length text ≤ i → ends s i (left text i) ≡ stepped s i 10
  unfolding ends
  ends-end s h = ap (ends s i) (left_end h)

  pub emitted-end : (s : Reading) → length text ≤ i → emitted s i (left text i) ≡ brought (stepped s i 10)
  unfolding emitted
  emitted-end s h = ap (emitted s i) (left_end h) ∙ append-nil (brought (stepped s i 10))

pub length-brought : (s : Reading) → length (brought s) ≡ 8 * cond s.ready 1 0
unfolding brought
length-brought s = go s.ready
  where
    go : (b : Bool) → length (cond b (bytes_of s.line.got) []) ≡ 8 * cond b 1 0
    go true = refl
    go false = refl

-- a flag as a number
pub one_if : (b : Bool) → bool_byte b ≡ cond b 1 0
one_if true = refl
one_if false = refl

pub bool_byte-le : (b : Bool) → bool_byte b ≤ 1
bool_byte-le true = omega arith
bool_byte-le false = omega arith

pub line-more : (text : List ℕ) (k : ℕ) → line_at text (k + 1) ≡ cond (eqb (get_or text k 0) 10) (line_at text k + 1) (line_at text k)
unfolding line_at
line-more text k = ap (line_at text) (add-one k)

pub column-more : (text : List ℕ) (k : ℕ) → column_at text (k + 1) ≡ cond (eqb (get_or text k 0) 10) 1 (column_at text k + 1)
unfolding column_at
column-more text k = ap (column_at text) (add-one k)

-- ---- the count of the instructions

module _ (text : List ℕ) (i : ℕ) (s s' : Reading) (count n total : ℕ) (c : n ≡ count + cond s'.ready 1 0) (t : 8 * count + length (emitted s i (left text i)) ≡ total) where
  pub count-more : i < length text → s' ≡ stepped s i (get_or text i 0) → 8 * n + length (emitted s' (i + 1) (left text (i + 1))) ≡ total
  count-more h e =
      let more : emitted s i (left text i) ≡ brought s' ++ emitted s' (i + 1) (left text (i + 1)) =
      emitted-more text i s h ∙ ap (λ (z : Reading). brought z ++ emitted z (i + 1) (left text (i + 1))) (sym e) in
      omega (arith, ap length more ∙ length-append (brought s') (emitted s' (i + 1) (left text (i + 1))), length-brought s')

  pub count-end : length text ≤ i → s' ≡ stepped s i 10 → 8 * n ≡ total
  count-end h e = omega (arith, ap length (emitted-end text i s h ∙ ap brought (sym e)), length-brought s')

-- ---- where a refusal is

-- the place that is carried along is never past the character that was read
module _ (s : Reading) (at c : ℕ) (h : s.start ≤ at) where
  abbrev Reached : Reading → Type 0
  Reached r = r.start ≤ at

  closed-start : (next : Phase) (l : Line) → Reached (closed next l at s.start)
  unfolding closed
  closed-start next l =
      taken Reached (reading (line next l.got) 0 at false) _ (eqb (sort_of l.phase) 1) (omega arith)
      (taken Reached (reading (line next l.got) 0 at true) _ (eqb (sort_of l.phase) 2) (omega arith)
      (taken Reached (reading l 0 s.start false) (reading (line (Refused 69) l.got) 0 at false) (eqb (sort_of l.phase) 4) h (omega arith)))

  character-start : Reached (character s at c)
  unfolding character
  character-start =
      taken Reached _ _ (eqb c 10) (closed-start Head (ended s.line s.word))
      (taken Reached _ _ (eqb c 59) (closed-start Comment (ended s.line s.word))
      (taken Reached (reading (ended s.line s.word) 0 s.start false) (reading s.line (extended s.word c) (start_of s.word at s.start) false) (blank c) h
      (taken (λ (x : ℕ). x ≤ at) at s.start (eqb s.word 0) (omega arith) h)))

  commented-start : Reached (commented s at c)
  unfolding commented
  commented-start = taken Reached (reading (line Head s.line.got) 0 at false) (reading s.line s.word s.start false) (eqb c 10) (omega arith) h

  pub stepped_start : Reached (stepped s at c)
  unfolding stepped
  stepped_start =
      taken Reached (character s at c) _ (ltb (sort_of s.line.phase) 3) character-start
      (taken Reached (commented s at c) (reading s.line s.word s.start false) (eqb (sort_of s.line.phase) 3) commented-start h)
