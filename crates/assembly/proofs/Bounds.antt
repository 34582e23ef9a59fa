-- Which numbers a line's refusal has, and how large the numbers of an answer can be, for whoever hands them on in fewer bits. Assumes nothing.
use mathlib.Core.Path.{◌≡◌, refl, sym, ap, subst, ◌∙◌}
use mathlib.Core.Bool.{Bool, true, false, cond, not, ◌&&◌, ◌||◌}
use mathlib.Core.List.{List, [], ◌∷◌, ◌++◌}
use Prim.Native.Nat.{ℕ, suc, ◌+◌, ◌≤◌}
use native.Mathlib.Omega.{arith}
use lib.Dec.{eqb, ltb, leb}
use lib.ListN.{length, drop, length-drop}
use borrow.Author.Tests.{eqb-false, ne_eqb, le-leb, ltb-false}
use Rattle.bits.specs.Search.{index_of}
use Rattle.bits.specs.Rows as rows
use Rattle.bits.specs.Rows.{Row}
use Rattle.bits.proofs.Rows.{taken, and_left, and_right, or_right}
use Rattle.registers.specs.declared.Modes.{Modes}
use Rattle.judge.specs.Instructions.{instruction_at}
use Rattle.judge.specs.Kinds.{most_bytes}
use Rattle.text.specs.declared.Reading.{Reading}
use Rattle.text.specs.Make as making
use Rattle.text.proofs.ScanLaws.{stepped_start}
use Rattle.text.proofs.LineNumbers.{line-numbers}
use Rattle.assembly.specs.declared.Word.{Word}
use Rattle.assembly.specs.Act.{Act, Nothing, Refused, One}
use Rattle.assembly.specs.Assembly.{Assembled}
use Rattle.assembly.specs.Words.{blanks, letters, part, word_from, value_of, stops, same_characters}
use Rattle.assembly.specs.Fields.{Named, span_of}
use Rattle.assembly.specs.Acts.{number_of, column_of, over_by, limited, searches, ordered}
use Rattle.assembly.specs.Statements.{eight, statements, difference, into_word, at_word, most_word, name_rows, start_rows, width_rows, known_rows, second_rows, target_rows, only_rows, value_rows, count_rows, rest_rows, name_fault, start_fault, width_fault, known_fault, second_fault, target_fault, only_fault, value_fault, count_fault, rest_fault, refused_or, field_line, sum_line, search_line, greatest_line, reach_line, instruction_line, line_by, line_act}
use Rattle.assembly.specs.Assembly.{onto_first, lines_of, State, begin, applied, act_of, Outcome, folded, outcome_of, made_list, made_items, answer, too_short, assembled_answer}
use Rattle.assembly.proofs.FirstWord.{NoFeed}
use Rattle.assembly.proofs.OneLine.{NoFeeds, lines-fed, instruction-is}

-- ---- the numbers of a line

-- As a test, so that a number that is written out passes it by `refl`: 60 to 77, 30 to 32, and 34.
abbrev pub of_lines : ℕ → Bool
of_lines n = (leb 60 n && leb n 77) || ((leb 30 n && leb n 32) || eqb n 34)

-- Or none.
abbrev told : ℕ → Bool
told n = eqb n 0 || of_lines n

-- The rows of a word have such numbers.
abbrev all_told : List Row → Bool
all_told [] = true
all_told (r ∷ rs) = of_lines r.number && all_told rs

rows_told : (rs : List Row) → all_told rs ≡ true → told (rows.number_of rs) ≡ true
rows_told [] t = refl
rows_told (r ∷ rs) t =
    taken (λ (n : ℕ). told n ≡ true) r.number (rows.number_of rs) r.holds
    (or_right (eqb r.number 0) (of_lines r.number) (and_left (of_lines r.number) (all_told rs) t))
    (rows_told rs (and_right (of_lines r.number) (all_told rs) t))

some-told : (n : ℕ) → told n ≡ true → (n ≡ 0 → ⊥) → of_lines n ≡ true
some-told n t u = go (eqb n 0) (ne_eqb n 0 u) t
  where
    go : (b : Bool) → b ≡ false → (b || of_lines n) ≡ true → of_lines n ≡ true
    go b e h = ap (λ (x : Bool). x || of_lines n) (sym e) ∙ h

-- ---- the words of a line stand in it

blanks-few : (l : List ℕ) → blanks l ≤ length l
unfolding blanks
blanks-few [] = omega arith
blanks-few (c ∷ cs) = taken (λ (n : ℕ). n ≤ length (c ∷ cs)) (suc (blanks cs)) 0 (making.blank c) (omega (arith, blanks-few cs)) (omega arith)

letters-few : (l : List ℕ) → letters l ≤ length l
unfolding letters
letters-few [] = omega arith
letters-few (c ∷ cs) = taken (λ (n : ℕ). n ≤ length (c ∷ cs)) 0 (suc (letters cs)) (stops c) (omega arith) (omega (arith, letters-few cs))

word_in : (line : List ℕ) (at : ℕ) → at ≤ length line → ((word_from line at).start ≤ length line) × ((word_from line at).next ≤ length line)
unfolding word_from
word_in line at h =
    let start = at + blanks (drop at line) in
    let s : start ≤ length line = omega (arith, blanks-few (drop at line), length-drop at line) in
    (s, omega (arith, s, letters-few (drop start line), length-drop start line))

-- ---- a line: its number is one of these, and its column is in the line, or one behind it

module _ (line : List ℕ) where
  abbrev Placed : Act → Type 0
  Placed act = (told (number_of act) ≡ true) × (column_of act ≤ length line + 1)

  or-placed : (fault : ℕ) (w : Word) (act : Act) → told fault ≡ true → w.start ≤ length line → Placed act → Placed (refused_or fault w act)
  unfolding refused_or
  or-placed fault w act t h p = taken Placed act (Refused fault (w.start + 1)) (eqb fault 0) p (t, omega arith)

  module _ (t : Named) (at : ℕ) (h : at ≤ length line) where
    field-placed : Placed (field_line t line at)
    unfolding field_line name_fault start_fault width_fault rest_fault
    field-placed =
        let name = word_from line at in
        let start = word_from line name.next in
        let width = word_from line start.next in
        let more = word_from line width.next in
        let a = word_in line at h in
        let b = word_in line name.next a.1 in
        let c = word_in line start.next b.1 in
        let d = word_in line width.next c.1 in
        or-placed _ name _ (rows_told (name_rows t name.word) refl) a.0
        (or-placed _ start _ (rows_told (start_rows start.word) refl) b.0
        (or-placed _ width _ (rows_told (width_rows start.word width.word) refl) c.0
        (or-placed _ more _ (rows_told (rest_rows more.word) refl) d.0
        (refl, omega arith))))

    sum-placed : (s : Bool) → Placed (sum_line s t line at)
    unfolding sum_line known_fault second_fault only_fault target_fault rest_fault
    sum-placed s =
        let first = word_from line at in
        let second = word_from line first.next in
        let into = word_from line second.next in
        let target = word_from line into.next in
        let more = word_from line target.next in
        let n = (span_of t first.word).width in
        let a = word_in line at h in
        let b = word_in line first.next a.1 in
        let c = word_in line second.next b.1 in
        let d = word_in line into.next c.1 in
        let e = word_in line target.next d.1 in
        or-placed _ first _ (rows_told (known_rows t first.word) refl) a.0
        (or-placed _ second _ (rows_told (second_rows t n second.word) refl) b.0
        (or-placed _ into _ (rows_told (only_rows into_word into_word into.word) refl) c.0
        (or-placed _ target _ (rows_told (target_rows t (span_of t first.word).start (span_of t second.word).start n target.word) refl) d.0
        (or-placed _ more _ (rows_told (rest_rows more.word) refl) e.0
        (refl, omega arith)))))

    search-placed : (l : Bool) → Placed (search_line l t line at)
    unfolding search_line known_fault value_fault rest_fault
    search-placed l =
        let first = word_from line at in
        let v = word_from line first.next in
        let more = word_from line v.next in
        let n = (span_of t first.word).width in
        let a = word_in line at h in
        let b = word_in line first.next a.1 in
        let c = word_in line v.next b.1 in
        or-placed _ first _ (rows_told (known_rows t first.word) refl) a.0
        (or-placed _ v _ (rows_told (value_rows v.word n (value_of (part line v.start v.next))) refl) b.0
        (or-placed _ more _ (rows_told (rest_rows more.word) refl) c.0
        (refl, omega arith)))

    greatest-placed : Placed (greatest_line t line at)
    unfolding greatest_line known_fault rest_fault
    greatest-placed =
        let first = word_from line at in
        let more = word_from line first.next in
        let a = word_in line at h in
        let b = word_in line first.next a.1 in
        or-placed _ first _ (rows_told (known_rows t first.word) refl) a.0
        (or-placed _ more _ (rows_told (rest_rows more.word) refl) b.0
        (refl, omega arith))

    reach-placed : Placed (reach_line line at)
    unfolding reach_line only_fault count_fault rest_fault
    reach-placed =
        let first = word_from line at in
        let second = word_from line first.next in
        let count = word_from line second.next in
        let last = word_from line count.next in
        let more = word_from line last.next in
        let a = word_in line at h in
        let b = word_in line first.next a.1 in
        let c = word_in line second.next b.1 in
        let d = word_in line count.next c.1 in
        let e = word_in line last.next d.1 in
        or-placed _ first _ (rows_told (only_rows at_word at_word first.word) refl) a.0
        (or-placed _ second _ (rows_told (only_rows most_word most_word second.word) refl) b.0
        (or-placed _ count _ (rows_told (count_rows count.word) refl) c.0
        (or-placed _ last _ (rows_told (only_rows _ _ last.word) refl) d.0
        (or-placed _ more _ (rows_told (rest_rows more.word) refl) e.0
        (refl, omega arith)))))

-- what was read last begins at most behind the last character
ends-in : (cs : List ℕ) (s : Reading) (at : ℕ) → s.start ≤ at → (making.ends s at (cs ++ (10 ∷ []))).start ≤ at + length cs
unfolding making.ends
ends-in [] s at h = omega (arith, stepped_start s at 10 h)
ends-in (c ∷ cs) s at h = omega (arith, ends-in cs (making.stepped s at c) (at + 1) (omega (arith, stepped_start s at c h)))

last-in : (cs : List ℕ) → (making.last_of cs).start ≤ length cs
unfolding making.last_of
last-in cs = omega (arith, ends-in cs making.begin 0 (omega arith))

module _ (line : List ℕ) (f : NoFeed line) (h : length line ≤ 1048576) where
  instruction-placed : Placed line (instruction_line line)
  instruction-placed = subst (Placed line) (sym (instruction-is line f h)) (go (eqb n 0) refl)
    where
      n : ℕ
      n = making.number_of (making.last_of line).line.phase

      -- an instruction, or nothing
      made : Act
      made = cond (eqb (length (making.made_bytes line)) 0) Nothing (One (instruction_at (making.made_out line eight) 0))

      go : (b : Bool) → eqb n 0 ≡ b → Placed line (cond b made (Refused n ((making.last_of line).start + 1)))
      go true e =
          taken (Placed line) Nothing (One (instruction_at (making.made_out line eight) 0)) (eqb (length (making.made_bytes line)) 0) (refl, omega arith) (refl, omega arith)
      go false e =
          let b = line-numbers line (eqb-false n 0 e) in
          (simp (e, le-leb 60 n b.0, le-leb n 77 (omega (arith, b.1))), omega (arith, last-in line))

  by-placed : (t : Named) (w : Word) → w.next ≤ length line → Placed line (line_by t line w)
  unfolding line_by
  by-placed t w i =
      let k = index_of w.word statements in
      let at = w.next in
      taken (Placed line) _ _ (same_characters (part line w.start at) difference) (sum-placed line t at i true)
      (taken (Placed line) _ _ (eqb k 0) (field-placed line t at i)
      (taken (Placed line) _ _ (eqb k 1) (sum-placed line t at i false)
      (taken (Placed line) _ _ (eqb k 2) (search-placed line t at i false)
      (taken (Placed line) _ _ (eqb k 3) (search-placed line t at i true)
      (taken (Placed line) _ _ (eqb k 4) (greatest-placed line t at i)
      (taken (Placed line) _ _ (eqb k 5) (reach-placed line t at i)
      instruction-placed))))))

  -- what is judged when all else of the line stands is at its first word
  first-placed : (n : ℕ) (b : Bool) (act : Act) → told n ≡ true → Placed line act → Placed line (cond b (Refused n ((word_from line 0).start + 1)) act)
  first-placed n b act t p = taken (Placed line) (Refused n ((word_from line 0).start + 1)) act b (t, omega (arith, (word_in line 0 (omega arith)).0)) p

  limited-placed : (limit : ℕ) (m : Modes) (act : Act) → Placed line act → Placed line (limited limit m (word_from line 0).start act)
  unfolding limited
  limited-placed limit m act = first-placed 75 (not (eqb limit 0) && over_by limit m act) act refl

  ordered-placed : (behind : Bool) (act : Act) → Placed line act → Placed line (ordered behind (word_from line 0).start act)
  unfolding ordered
  ordered-placed behind act = first-placed 77 (searches act && behind) act refl

  act-placed : (s : State) → Placed line (act_of s line)
  unfolding line_act
  act-placed s =
      let w = word_from line 0 in
      let by = line_by s.fields line w in
      ordered-placed s.taken (limited s.limit s.modes w.start by)
      (limited-placed s.limit s.modes by (by-placed s.fields w (word_in line 0 (omega arith)).1))

-- ---- the lines of a text

-- Each has at most `most` characters.
abbrev Lines : ℕ → List (List ℕ) → Type 0
Lines most [] = Unit {0}
Lines most (l ∷ ls) = (length l ≤ most) × Lines most ls

lines-wide : (m n : ℕ) → m ≤ n → (ls : List (List ℕ)) → Lines m ls → Lines n ls
lines-wide m n h [] w = tt
lines-wide m n h (l ∷ ls) (a, w) = (omega arith, lines-wide m n h ls w)

-- and there are at most `count`
abbrev Few : ℕ → ℕ → List (List ℕ) → Type 0
Few most count ls = Lines most ls × (length ls ≤ count)

onto-few : (m k c : ℕ) (ls : List (List ℕ)) → Few m k ls → Few (suc m) (suc k) (onto_first c ls)
unfolding onto_first
onto-few m k c [] w = ((omega arith, tt), omega arith)
onto-few m k c (l ∷ ls) ((a, w), n) = ((omega arith, lines-wide m (suc m) (omega arith) ls w), omega arith)

lines-few : (text : List ℕ) → Few (length text) (suc (length text)) (lines_of text)
unfolding lines_of
lines-few [] = ((omega arith, tt), omega arith)
lines-few (c ∷ cs) =
    let w = lines-few cs in
    taken (Few (length (c ∷ cs)) (suc (length (c ∷ cs)))) ([] ∷ lines_of cs) (onto_first c (lines_of cs)) (eqb c 10)
    ((omega arith, lines-wide (length cs) (length (c ∷ cs)) (omega arith) (lines_of cs) w.0), omega (arith, w.1))
    (onto-few (length cs) (suc (length cs)) c (lines_of cs) w)

-- The number, the line and the column of what the lines come to.
record Told (most count : ℕ) (o : Outcome) : Type 0 where
  number : told o.number ≡ true
  line : o.line ≤ count
  column : o.column ≤ most + 1

folded-told : (most : ℕ) → most ≤ 1048576 → (s : State) (n : ℕ) (ls : List (List ℕ)) → NoFeeds ls → Lines most ls → Told most (n + length ls) (folded s (n + 1) ls)
unfolding folded
folded-told most h s n [] f w = record { number = refl; line = omega arith; column = omega arith }
folded-told most h s n (l ∷ ls) (f, fs) (w, ws) =
    let p = act-placed l f (omega arith) s in
    taken (Told most (n + length (l ∷ ls))) (folded (applied (act_of s l) s) (n + 1 + 1) ls) _ (eqb (number_of (act_of s l)) 0)
    (let t = folded-told most h (applied (act_of s l) s) (n + 1) ls fs ws in
    record { number = t.number; line = omega (arith, t.line); column = t.column })
    (record { number = p.0; line = omega arith; column = omega (arith, p.1) })

outcome-told : (text : List ℕ) → length text ≤ 1048576 → Told (length text) (length text + 1) (outcome_of text)
unfolding outcome_of
outcome-told text h =
    let w = lines-few text in
    let t = folded-told (length text) h begin 0 (lines_of text) (lines-fed text) w.0 in
    record { number = t.number; line = omega (arith, t.line, w.1); column = t.column }

-- the number of a line that is refused is one of a line's
pub outcome-numbers : (text : List ℕ) → length text ≤ 1048576 → ((outcome_of text).number ≡ 0 → ⊥) → of_lines (outcome_of text).number ≡ true
outcome-numbers text h u = some-told (outcome_of text).number (outcome-told text h).number u

-- ---- the answer

-- the last line, and the column behind the last character of a line; the most bytes of a list, and of its items
pub record Bounded (a : Assembled) : Type 0 where
  pub line : a.line ≤ 1048577
  pub column : a.column ≤ 1048577
  pub list : a.list ≤ 32768
  pub items : a.items ≤ 32768

-- one of two, by what the test says
chosen : {A : Type 0} (P : A → Type 0) (x y : A) (b : Bool) → (b ≡ true → P x) → (b ≡ false → P y) → P (cond b x y)
chosen P x y true p q = p refl
chosen P x y false p q = q refl

-- a number without a place, and without counts
bare : (n : ℕ) → Bounded (answer n 0 0 0 0)
bare n = record { line = omega arith; column = omega arith; list = omega arith; items = omega arith }

pub assembled-bounds : (text : List ℕ) (room room_items : ℕ) → Bounded (assembled_answer text room room_items)
unfolding assembled_answer
assembled-bounds text room room_items =
    let list = length (made_list text) in
    let items = length (made_items text) in
    chosen Bounded (answer 50 0 0 0 0) _ (ltb 1048576 (length text)) (λ e. bare 50)
    (λ h. chosen Bounded _ (answer (outcome_of text).number (outcome_of text).line (outcome_of text).column 0 0) (eqb (outcome_of text).number 0)
    (λ e. chosen Bounded (answer 3 0 0 0 0) _ (ltb most_bytes list) (λ e. bare 3)
    (λ f. chosen Bounded (answer 4 0 0 0 0) _ (ltb most_bytes items) (λ e. bare 4)
    (λ g. chosen Bounded (answer 33 0 0 0 0) (answer 0 0 0 list items) (too_short list room items room_items) (λ e. bare 33)
    (λ e. record { line = omega arith; column = omega arith; list = ltb-false most_bytes list f; items = ltb-false most_bytes items g }))))
    (λ e.
    let size = ltb-false 1048576 (length text) h in
    let t = outcome-told text size in
    record { line = omega (arith, t.line, size); column = omega (arith, t.column, size); list = omega arith; items = omega arith }))
