-- A line by itself makes at most one instruction: so the buffer for one is never too short, and what is refused is the line's own word, at its own column. Assumes nothing.
use mathlib.Core.Path.{◌≡◌, refl, sym, ap, subst, ◌∙◌}
use mathlib.Core.Bool.{Bool, true, false, cond}
use mathlib.Core.List.{List, [], ◌∷◌, ◌++◌}
use Prim.Native.Nat.{ℕ, zero, suc, ◌+◌, ◌<◌, ◌≤◌}
use native.Mathlib.Decide.{ℕ_discrete}
use native.Mathlib.Omega.{arith}
use lib.Dec.{eqb, ltb}
use lib.ListN.{length, get_or, length-append}
use borrow.Author.Tests.{eq-eqb, ne_eqb, le-ltb, ltb-false}
use Rattle.judge.specs.Instructions.{instruction_at}
use Rattle.spelling.specs.Words.{extended}
use Rattle.lines.specs.declared.Line.{Line}
use Rattle.lines.specs.declared.Phase.TheVariants.{Comment, Refused}
use Rattle.lines.specs.Alone.{bytes_of}
use Rattle.lines.specs.Worded.{line, sort_of}
use Rattle.text.specs.declared.Reading.{Reading}
use Rattle.text.specs.Make.{reading, begin, start_of, blank, ended, closed, character, commented, stepped, brought, emitted, number_of, made_bytes, last_of, column_at, refused_at, made_out}
use Rattle.text.proofs.MadeLaws as made
use Rattle.assembly.specs.Act as act
use Rattle.assembly.specs.Statements.{eight, instruction_line}
use Rattle.assembly.specs.Assembly.{onto_first, lines_of}
use Rattle.assembly.proofs.FirstWord.{NoFeed}

-- The characters of a line, and its end.
abbrev fed : List ℕ → List ℕ
fed cs = cs ++ (10 ∷ [])

-- ---- nothing more comes of a line that is refused, or of a comment

module _ (l : Line) (w start at : ℕ) (r : Bool) (c : ℕ) where
  idle-step : 3 < sort_of l.phase → stepped (reading l w start r) at c ≡ reading l w start false
  unfolding stepped
  idle-step h = simp (le-ltb (sort_of l.phase) 3 (omega arith), ne_eqb (sort_of l.phase) 3 (λ e. omega arith))

  comment-step : sort_of l.phase ≡ 3 → eqb c 10 ≡ false → stepped (reading l w start r) at c ≡ reading l w start false
  unfolding stepped commented
  comment-step h f = simp (h, f)

idle-none : (cs : List ℕ) (l : Line) (w start at : ℕ) (r : Bool) → 3 < sort_of l.phase → emitted (reading l w start r) at cs ≡ []
unfolding emitted brought
idle-none [] l w start at r h = refl
idle-none (c ∷ cs) l w start at r h =
    ap (λ (s : Reading). brought s ++ emitted s (at + 1) cs) (idle-step l w start at r c h) ∙ idle-none cs l w start (at + 1) false h

comment-none : (cs : List ℕ) (l : Line) (w start at : ℕ) (r : Bool) → sort_of l.phase ≡ 3 → NoFeed cs → emitted (reading l w start r) at (fed cs) ≡ []
unfolding emitted brought stepped commented
comment-none [] l w start at r h f = simp h
comment-none (c ∷ cs) l w start at r h f =
    ap (λ (s : Reading). brought s ++ emitted s (at + 1) (fed cs)) (comment-step l w start at r c h f.0) ∙ comment-none cs l w start (at + 1) false h f.1

-- ---- at most eight bytes come of any

few : (s : Reading) → length (brought s) ≤ 8
unfolding brought
few s = go s.ready
  where
    go : (b : Bool) → length (cond b (bytes_of s.line.got) []) ≤ 8
    go true = omega arith
    go false = omega arith

-- what is brought, and what comes behind it
joined : (s : Reading) (at : ℕ) (cs : List ℕ) → (emitted s at cs ≡ []) → length (brought s ++ emitted s at cs) ≤ 8
joined s at cs e = omega (arith, few s, length-append (brought s) (emitted s at cs), ap length e)

-- the end of the words of a line: a comment, or a refusal
closed_none : (l : Line) (at start : ℕ) (cs : List ℕ) → NoFeed cs → emitted (closed Comment l at start) (at + 1) (fed cs) ≡ []
unfolding closed
closed_none l at start cs f = go (ℕ_discrete (sort_of l.phase) 1) (ℕ_discrete (sort_of l.phase) 2) (ℕ_discrete (sort_of l.phase) 4)
  where
    s : ℕ
    s = sort_of l.phase

    all : (x y z : Bool) → eqb s 1 ≡ x → eqb s 2 ≡ y → eqb s 4 ≡ z
        → closed Comment l at start
        ≡ cond x (reading (line Comment l.got) 0 at false) (cond y (reading (line Comment l.got) 0 at true) (cond z (reading l 0 start false) (reading (line (Refused 69) l.got) 0 at false)))
    all x y z ex ey ez = simp (ex, ey, ez)

    go : Dec (s ≡ 1) → Dec (s ≡ 2) → Dec (s ≡ 4) → emitted (closed Comment l at start) (at + 1) (fed cs) ≡ []
    go (yes a) b c = ap (λ (x : Reading). emitted x (at + 1) (fed cs)) (all true _ _ (eq-eqb s 1 a) refl refl) ∙ comment-none cs (line Comment l.got) 0 at (at + 1) false refl f
    go (no a) (yes b) c = ap (λ (x : Reading). emitted x (at + 1) (fed cs)) (all false true _ (ne_eqb s 1 a) (eq-eqb s 2 b) refl) ∙ comment-none cs (line Comment l.got) 0 at (at + 1) true refl f
    go (no a) (no b) (yes c) = ap (λ (x : Reading). emitted x (at + 1) (fed cs)) (all false false true (ne_eqb s 1 a) (ne_eqb s 2 b) (eq-eqb s 4 c)) ∙ idle-none (fed cs) l 0 start (at + 1) false (omega (arith, c))
    go (no a) (no b) (no c) = ap (λ (x : Reading). emitted x (at + 1) (fed cs)) (all false false false (ne_eqb s 1 a) (ne_eqb s 2 b) (ne_eqb s 4 c)) ∙ idle-none (fed cs) (line (Refused 69) l.got) 0 at (at + 1) false (omega arith)

-- the end of a line
end-few : (s : Reading) (at : ℕ) → length (emitted s at (10 ∷ [])) ≤ 8
unfolding emitted
end-few s at = joined (stepped s at 10) (at + 1) [] refl

-- ---- a line makes at most one instruction

module _ (l : Line) (w start at : ℕ) (r : Bool) (c : ℕ) (a : ltb (sort_of l.phase) 3 ≡ true) (f : eqb c 10 ≡ false) where
  at-comment : eqb c 59 ≡ true → stepped (reading l w start r) at c ≡ closed Comment (ended l w) at start
  unfolding stepped character
  at-comment s = simp (a, f, s)

  at-blank : eqb c 59 ≡ false → blank c ≡ true → stepped (reading l w start r) at c ≡ reading (ended l w) 0 start false
  unfolding stepped character
  at-blank s b = simp (a, f, s, b)

  at-letter : eqb c 59 ≡ false → blank c ≡ false → stepped (reading l w start r) at c ≡ reading l (extended w c) (start_of w at start) false
  unfolding stepped character
  at-letter s b = simp (a, f, s, b)

most : (cs : List ℕ) (l : Line) (w start at : ℕ) (r : Bool) → NoFeed cs → length (emitted (reading l w start r) at (fed cs)) ≤ 8
unfolding emitted brought
most [] l w start at r f = end-few (reading l w start r) at
most (c ∷ cs) l w start at r f =
    go (ltb (sort_of l.phase) 3) refl (eqb c 59) refl (blank c) refl
    (most cs (ended l w) 0 start (at + 1) false f.1) (most cs l (extended w c) (start_of w at start) (at + 1) false f.1)
  where
    after : Reading → ℕ
    after s = length (brought s ++ emitted s (at + 1) (fed cs))

    go : (x : Bool) → ltb (sort_of l.phase) 3 ≡ x → (y : Bool) → eqb c 59 ≡ y → (z : Bool) → blank c ≡ z
        → length (emitted (reading (ended l w) 0 start false) (at + 1) (fed cs)) ≤ 8 → length (emitted (reading l (extended w c) (start_of w at start) false) (at + 1) (fed cs)) ≤ 8
        → after (stepped (reading l w start r) at c) ≤ 8
    go true a true s z b p q = subst (λ (x : Reading). after x ≤ 8) (sym (at-comment l w start at r c a f.0 s)) (joined (closed Comment (ended l w) at start) (at + 1) (fed cs) (closed_none (ended l w) at start cs f.1))
    go true a false s true b p q = subst (λ (x : Reading). after x ≤ 8) (sym (at-blank l w start at r c a f.0 s b)) p
    go true a false s false b p q = subst (λ (x : Reading). after x ≤ 8) (sym (at-letter l w start at r c a f.0 s b)) q
    go false a y s z b p q = other (ℕ_discrete (sort_of l.phase) 3)
      where
        other : Dec (sort_of l.phase ≡ 3) → after (stepped (reading l w start r) at c) ≤ 8
        other (yes h) =
            subst (λ (x : Reading). after x ≤ 8) (sym (comment-step l w start at r c h f.0)) (joined (reading l w start false) (at + 1) (fed cs) (comment-none cs l w start (at + 1) false h f.1))
        other (no h) =
            let k : 3 < sort_of l.phase = omega (arith, ltb-false (sort_of l.phase) 3 a) in
            subst (λ (x : Reading). after x ≤ 8) (sym (idle-step l w start at r c k)) (joined (reading l w start false) (at + 1) (fed cs) (idle-none (fed cs) l w start (at + 1) false k))

pub one-instruction : (cs : List ℕ) → NoFeed cs → length (made_bytes cs) ≤ 8
unfolding made_bytes
one-instruction cs f = most cs begin.line 0 0 0 false f

-- ---- its columns

no-feed-at : (cs : List ℕ) (k : ℕ) → NoFeed cs → eqb (get_or cs k 0) 10 ≡ false
no-feed-at [] k f = refl
no-feed-at (c ∷ cs) zero f = f.0
no-feed-at (c ∷ cs) (suc k) f = no-feed-at cs k f.1

column-is : (cs : List ℕ) (k : ℕ) → NoFeed cs → column_at cs k ≡ k + 1
unfolding column_at
column-is cs zero f = refl
column-is cs (suc k) f = ap (λ (b : Bool). cond b 1 (column_at cs k + 1)) (no-feed-at cs k f) ∙ omega (arith, column-is cs k f)

-- ---- the lines of a text have no line feed

abbrev pub NoFeeds : List (List ℕ) → Type 0
NoFeeds [] = Unit {0}
NoFeeds (l ∷ ls) = NoFeed l × NoFeeds ls

onto-fed : (c : ℕ) (ls : List (List ℕ)) → eqb c 10 ≡ false → NoFeeds ls → NoFeeds (onto_first c ls)
unfolding onto_first
onto-fed c [] f n = ((f, tt), tt)
onto-fed c (l ∷ ls) f n = ((f, n.0), n.1)

pub lines-fed : (cs : List ℕ) → NoFeeds (lines_of cs)
unfolding lines_of
lines-fed [] = (tt, tt)
lines-fed (c ∷ cs) = go (eqb c 10) refl (lines-fed cs)
  where
    go : (b : Bool) → eqb c 10 ≡ b → NoFeeds (lines_of cs) → NoFeeds (cond b ([] ∷ lines_of cs) (onto_first c (lines_of cs)))
    go true e n = (tt, n)
    go false e n = onto-fed c (lines_of cs) e n

-- ---- so a line that is an instruction or empty is this

-- The number and the column of the first word that may not stand where it does; else nothing, or the instruction of the line's eight bytes.
pub instruction-is : (cs : List ℕ) → NoFeed cs → length cs ≤ 1048576
    → instruction_line cs
    ≡ cond (eqb (number_of (last_of cs).line.phase) 0)
    (cond (eqb (length (made_bytes cs)) 0) act.Nothing (act.One (instruction_at (made_out cs eight) 0)))
    (act.Refused (number_of (last_of cs).line.phase) ((last_of cs).start + 1))
unfolding instruction_line refused_at
instruction-is cs f h = go (ℕ_discrete n 0)
  where
    n : ℕ
    n = number_of (last_of cs).line.phase

    go : Dec (n ≡ 0)
        → instruction_line cs
        ≡ cond (eqb n 0) (cond (eqb (length (made_bytes cs)) 0) act.Nothing (act.One (instruction_at (made_out cs eight) 0))) (act.Refused n ((last_of cs).start + 1))
    go (yes z) =
        let size = one-instruction cs f in
        let d = (made.done cs eight h z (omega arith) (omega arith)).0 in
        simp (d, eq-eqb n 0 z)
    go (no u) =
        let d = (made.bad cs eight h u).0 in
        simp (d, ne_eqb n 0 u, column-is cs (last_of cs).start f)
