-- The fields that are named are fields that no builder refuses, and so is what a line makes of them. Assumes nothing.
use mathlib.Core.Path.{◌≡◌, refl, sym, ap, subst, ◌∙◌}
use mathlib.Core.Bool.{Bool, true, false, cond, not, ◌&&◌}
use mathlib.Core.List.{List, [], ◌∷◌, ◌++◌}
use Prim.Native.Nat.{ℕ, ◌+◌, ◌^◌, ◌<◌, ◌≤◌}
use native.Mathlib.Decide.{dec_le}
use native.Mathlib.Nat.{not-suc-le-zero}
use native.Mathlib.Omega.{arith}
use lib.Dec.{eqb, ltb}
use lib.ListN.{length, get_or, length-append, get_or-append}
use lib.Seq.{get_or-append_seam}
use borrow.Author.Tests.{eqb-true, ltb-true, ltb-false, lt-ltb, not-false}
use Rattle.bits.specs.Search.{index_of}
use Rattle.bits.specs.Rows as rows
use Rattle.bits.specs.Rows.{Row}
use Rattle.bits.proofs.Rows.{or-none, numbered, number-none, row-off, row_at}
use Rattle.registers.specs.declared.Modes.{Modes}
use Rattle.spelling.specs.Words.{number}
use Rattle.builders.specs.Field as builders
use Rattle.builders.specs.Sums.{crosses}
use Rattle.assembly.specs.declared.Word.{Word}
use Rattle.assembly.specs.Act.{Act, Nothing, Refused, Field, Limit, One, Sum, Search, Greatest}
use Rattle.assembly.specs.Words.{word_from, part, value_of, same_characters}
use Rattle.assembly.specs.Fields.{Named, named, known, span_of}
use Rattle.assembly.specs.Acts.{named_by, over_by, limited, searches, ordered}
use Rattle.assembly.specs.Statements.{statements, difference, name_rows, start_rows, width_rows, known_rows, second_rows, target_rows, value_rows, name_fault, start_fault, width_fault, known_fault, second_fault, target_fault, value_fault, refused_or, small_of, field_line, sum_line, search_line, greatest_line, reach_line, instruction_line, line_by, line_act}
use Rattle.text.specs.Make.{made_answer}
use Rattle.assembly.specs.Steps.{Room, Buildable}

-- Each field is one that no builder refuses.
pub record Sound (t : Named) : Type 0 where
  pub starts : length t.starts ≡ length t.names
  pub widths : length t.widths ≡ length t.names
  pub each : (k : ℕ) → k < length t.names → builders.Field (get_or t.starts k 0) (get_or t.widths k 0)

pub sound_none : Sound (named [] [] [])
sound_none = record { starts = refl; widths = refl; each = λ k h. absurd (not-suc-le-zero h) }

-- one more, which is another
at_last : (l : List ℕ) (a k : ℕ) → k ≡ length l → get_or (l ++ (a ∷ [])) k 0 ≡ a
at_last l a k e = ap (λ (n : ℕ). get_or (l ++ (a ∷ [])) n 0) e ∙ get_or-append_seam l a [] 0

sound_more : (t : Named) (w a n : ℕ) → Sound t → builders.Field a n → Sound (named (t.names ++ (w ∷ [])) (t.starts ++ (a ∷ [])) (t.widths ++ (n ∷ [])))
sound_more t w a n s f = record {
  starts = omega (arith, s.starts, length-append t.starts (a ∷ []), length-append t.names (w ∷ []));
  widths = omega (arith, s.widths, length-append t.widths (n ∷ []), length-append t.names (w ∷ []));
  each = λ k h. go k h (dec_le (k + 1) (length t.names));
}
  where
    go : (k : ℕ) → k < length (t.names ++ (w ∷ [])) → Dec (k + 1 ≤ length t.names) → builders.Field (get_or (t.starts ++ (a ∷ [])) k 0) (get_or (t.widths ++ (n ∷ [])) k 0)
    go k h (yes l) =
        let x = get_or-append t.starts (a ∷ []) 0 k (omega (arith, s.starts)) in
        let y = get_or-append t.widths (n ∷ []) 0 k (omega (arith, s.widths)) in
        let g = s.each k (omega arith) in
        record { some = omega (arith, y, g.some); width = omega (arith, y, g.width); fits = omega (arith, x, y, g.fits) }
    go k h (no u) =
        let e : k ≡ length t.names = omega (arith, length-append t.names (w ∷ [])) in
        let x = at_last t.starts a k (e ∙ sym s.starts) in
        let y = at_last t.widths n k (e ∙ sym s.widths) in
        record { some = omega (arith, y, f.some); width = omega (arith, y, f.width); fits = omega (arith, x, y, f.fits) }

pub sound-by : (act : Act) {t : Named} → Buildable act → Sound t → Sound (named_by act t)
sound-by Nothing b s = s
sound-by (Refused n k) b s = s
sound-by (Field w a n) {t} b s = sound_more t w a n s b
sound-by (Limit n) b s = s
sound-by (One i) b s = s
sound-by (Sum d a c e n) b s = s
sound-by (Search l a n v) b s = s
sound-by (Greatest a n) b s = s

-- ---- what a line makes

-- one of two, by what the test says
pub chosen : (P : Act → Type 0) (x y : Act) (b : Bool) → (b ≡ true → P x) → (b ≡ false → P y) → P (cond b x y)
chosen P x y true p q = p refl
chosen P x y false p q = q refl

-- the rows of a word that is not refused
off : (rs : List Row) → numbered rs ≡ true → rows.number_of rs ≡ 0 → (n : ℕ) → row_at rs n ≡ false
off rs t e = row-off rs (number-none rs t e)

number_small : (w : ℕ) → number w < 256 → small_of w ≡ number w
unfolding small_of
number_small w h = ap (λ (b : Bool). cond b (number w) 0) (lt-ltb (number w) 256 h)

module _ (t : Named) (s : Sound t) where
  -- it finds room, and no builder refuses it
  abbrev pub Fit : Act → Type 0
  Fit act = Room (length t.names) act × Buildable act

  or-fit : (fault : ℕ) (w : Word) (act : Act) → (fault ≡ 0 → Fit act) → Fit (refused_or fault w act)
  unfolding refused_or
  or-fit fault w act h = chosen Fit act (Refused fault (w.start + 1)) (eqb fault 0) (λ e. h (eqb-true fault 0 e)) (λ e. (tt, tt))

  known-field : (w : ℕ) → known t w ≡ true → builders.Field (span_of t w).start (span_of t w).width
  unfolding span_of
  known-field w e = s.each (index_of w t.names) (ltb-true (index_of w t.names) (length t.names) e)

  field_fit : (line : List ℕ) (at : ℕ) → Fit (field_line t line at)
  unfolding field_line name_fault start_fault width_fault
  field_fit line at =
      let name = word_from line at in
      let start = word_from line name.next in
      let width = word_from line start.next in
      or-fit _ name _ (λ e. or-fit _ start _ (λ f. or-fit _ width _ (λ g. or-fit _ (word_from line width.next) _ (λ h.
      let a = number start.word in
      let n = number width.word in
      let room = ltb-true (length t.names) 256 (not-false (ltb (length t.names) 256) (off (name_rows t name.word) refl e 72)) in
      let small = ltb-true a 256 (not-false (ltb a 256) (off (start_rows start.word) refl f 64)) in
      let w = or-none (ltb n 1) (ltb 64 n) (off (width_rows start.word width.word) refl g 30) in
      let some = ltb-false n 1 w.0 in
      let most = ltb-false 64 n w.1 in
      let fits = ltb-false 256 (a + n) (off (width_rows start.word width.word) refl g 31) in
      let x = number_small start.word small in
      let y = number_small width.word (omega arith) in
      (room, record { some = omega arith; width = omega arith; fits = omega arith })))))

  sum-fit : (d : Bool) (line : List ℕ) (at : ℕ) → Fit (sum_line d t line at)
  unfolding sum_line known_fault second_fault target_fault
  sum-fit d line at =
      let a = word_from line at in
      let b = word_from line a.next in
      let into = word_from line b.next in
      let x = word_from line into.next in
      or-fit _ a _ (λ e. or-fit _ b _ (λ f. or-fit _ into _ (λ i. or-fit _ x _ (λ g. or-fit _ (word_from line x.next) _ (λ h.
      let n = (span_of t a.word).width in
      let fa = known-field a.word (not-false (known t a.word) (off (known_rows t a.word) refl e 73)) in
      let fb = known-field b.word (not-false (known t b.word) (off (second_rows t n b.word) refl f 73)) in
      let fx = known-field x.word (not-false (known t x.word) (off (target_rows t (span_of t a.word).start (span_of t b.word).start n x.word) refl g 73)) in
      let wb = eqb-true (span_of t b.word).width n (not-false (eqb (span_of t b.word).width n) (off (second_rows t n b.word) refl f 74)) in
      let wx = eqb-true (span_of t x.word).width n (not-false (eqb (span_of t x.word).width n) (off (target_rows t (span_of t a.word).start (span_of t b.word).start n x.word) refl g 74)) in
      let c = or-none (crosses (span_of t x.word).start (span_of t a.word).start n) (crosses (span_of t x.word).start (span_of t b.word).start n) (off (target_rows t (span_of t a.word).start (span_of t b.word).start n x.word) refl g 32) in (
        tt,
        record {
          first = fa;
          second = subst (λ (k : ℕ). builders.Field (span_of t b.word).start k) wb fb;
          target = subst (λ (k : ℕ). builders.Field (span_of t x.word).start k) wx fx;
          clear_a = c.0;
          clear_b = c.1;
        },
      ))))))

  search-fit : (l : Bool) (line : List ℕ) (at : ℕ) → Fit (search_line l t line at)
  unfolding search_line known_fault value_fault
  search-fit l line at =
      let a = word_from line at in
      let v = word_from line a.next in
      or-fit _ a _ (λ e. or-fit _ v _ (λ f. or-fit _ (word_from line v.next) _ (λ h.
      let n = (span_of t a.word).width in
      let given = value_of (part line v.start v.next) in
      let fa = known-field a.word (not-false (known t a.word) (off (known_rows t a.word) refl e 73)) in
      (tt, (fa, ltb-true given.value (2 ^ n) (not-false (ltb given.value (2 ^ n)) (off (value_rows v.word n given) refl f 34)))))))

  greatest-fit : (line : List ℕ) (at : ℕ) → Fit (greatest_line t line at)
  unfolding greatest_line known_fault
  greatest-fit line at =
      let a = word_from line at in
      or-fit _ a _ (λ e. or-fit _ (word_from line a.next) _ (λ h. (tt, known-field a.word (not-false (known t a.word) (off (known_rows t a.word) refl e 73)))))

  reach-fit : (line : List ℕ) (at : ℕ) → Fit (reach_line line at)
  unfolding reach_line
  reach-fit line at = or-fit _ _ _ (λ a. or-fit _ _ _ (λ b. or-fit _ _ _ (λ c. or-fit _ _ _ (λ d. or-fit _ _ _ (λ e. (tt, tt))))))

  instruction-fit : (line : List ℕ) → Fit (instruction_line line)
  unfolding instruction_line
  instruction-fit line =
      chosen Fit _ (Refused (made_answer line 8).number (made_answer line 8).column) (eqb (made_answer line 8).number 0)
      (λ e. chosen Fit Nothing (One _) (eqb (made_answer line 8).count 0) (λ f. (tt, tt)) (λ f. (tt, tt))) (λ e. (tt, tt))

  by-fit : (line : List ℕ) (w : Word) → Fit (line_by t line w)
  unfolding line_by
  by-fit line w =
      let k = index_of w.word statements in
      chosen Fit _ _ (same_characters (part line w.start w.next) difference) (λ e. sum-fit true line w.next)
      (λ e. chosen Fit _ _ (eqb k 0) (λ e. field_fit line w.next)
      (λ e. chosen Fit _ _ (eqb k 1) (λ e. sum-fit false line w.next)
      (λ e. chosen Fit _ _ (eqb k 2) (λ e. search-fit false line w.next)
      (λ e. chosen Fit _ _ (eqb k 3) (λ e. search-fit true line w.next)
      (λ e. chosen Fit _ _ (eqb k 4) (λ e. greatest-fit line w.next)
      (λ e. chosen Fit _ _ (eqb k 5) (λ e. reach-fit line w.next)
      (λ e. instruction-fit line)))))))

  limited-fit : (limit : ℕ) (m : Modes) (start : ℕ) (act : Act) → Fit act → Fit (limited limit m start act)
  unfolding limited
  limited-fit limit m start act f = chosen Fit (Refused 75 (start + 1)) act (not (eqb limit 0) && over_by limit m act) (λ e. (tt, tt)) (λ e. f)

  ordered-fit : (taken : Bool) (start : ℕ) (act : Act) → Fit act → Fit (ordered taken start act)
  unfolding ordered
  ordered-fit taken start act f = chosen Fit (Refused 77 (start + 1)) act (searches act && taken) (λ e. (tt, tt)) (λ e. f)

  pub line-fit : (limit : ℕ) (m : Modes) (taken : Bool) (line : List ℕ) → Fit (line_act t limit m taken line)
  unfolding line_act
  line-fit limit m taken line =
      let first = word_from line 0 in
      ordered-fit taken first.start _ (limited-fit limit m first.start _ (by-fit line first))
