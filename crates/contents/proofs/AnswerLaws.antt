-- What each way through a reader and a writer answers, and what it leaves. Assumes nothing.
use mathlib.Core.Path.{◌≡◌, refl, sym, ap, ap₂, ◌∙◌}
use mathlib.Core.Bool.{Bool, true, false, cond}
use mathlib.Core.List.{List}
use Prim.Native.Nat.{ℕ}
use lib.Dec.{eqb}
use borrow.Author.Tests.{ne_eqb, eq-eqb, eqb-true, eqb-false}
use Rattle.bits.specs.Rows.{Row, number_of, NoRow, FirstRow}
use Rattle.bits.proofs.Rows.{none_number, first-number}
use Rattle.contents.specs.Moved.{Moved}
use Rattle.contents.specs.File.{done, refused, file_judged}
use Rattle.contents.specs.Content.{answered, read_answer, changed, ContentLeft}

-- ---- a target after an answer

pub changed-not : (a : Moved) (new old : List ℕ) → (a.number ≡ 0 → ⊥) → old ≡ changed a new old
changed-not a new old u = sym (ap (λ (t : Bool). cond t new old) (ne_eqb a.number 0 u))

pub changed-done : (a : Moved) (new old : List ℕ) → a.number ≡ 0 → new ≡ changed a new old
changed-done a new old z = sym (ap (λ (t : Bool). cond t new old) (eq-eqb a.number 0 z))

-- a refusal's number is not 0
pub refused-not : (a : Moved) (n p : ℕ) → a ≡ refused n p → (n ≡ 0 → ⊥) → a.number ≡ 0 → ⊥
refused-not a n p e u z = u (sym (ap (λ (x : Moved). x.number) e) ∙ z)

-- ---- what is left, where the answer r is a: on a refusal the buffer as it was, else the new content

abbrev pub leaving : Moved → List ℕ → ContentLeft
leaving x l = record { answer = x; buffer = l }

module _ (r a : Moved) (new old : List ℕ) (e : r ≡ a) where
  pub left-unmoved : (r.number ≡ 0 → ⊥) → leaving r old ≡ leaving a (changed a new old)
  left-unmoved u = ap₂ leaving e (changed-not r new old u ∙ ap (λ (x : Moved). changed x new old) e)

  pub left-changed : (t : List ℕ) → t ≡ new → r.number ≡ 0 → leaving r t ≡ leaving a (changed a new old)
  left-changed t h z = ap₂ leaving e (h ∙ changed-done r new old z ∙ ap (λ (x : Moved). changed x new old) e)

-- and what that says of the answer and of the buffer
pub left-parts : (r a : Moved) (new old t : List ℕ) → leaving r t ≡ leaving a (changed a new old) → (r ≡ a) × (t ≡ changed r new old)
left-parts r a new old t h =
    let e = ap (λ (l : ContentLeft). l.answer) h in
    (e, ap (λ (l : ContentLeft). l.buffer) h ∙ ap (λ (x : Moved). changed x new old) (sym e))

-- ---- the answer by a table

pub answered-none : (rows : List Row) (n : ℕ) → number_of rows ≡ 0 → done n ≡ answered rows n
unfolding answered
answered-none rows n z = sym (ap (λ (t : Bool). cond t (done n) (refused (number_of rows) 0)) (eq-eqb (number_of rows) 0 z))

pub answered-no-row : (rows : List Row) (n : ℕ) → NoRow rows → done n ≡ answered rows n
answered-no-row rows n f = answered-none rows n (none_number rows f)

pub answered-first : (rows : List Row) (n m : ℕ) → (m ≡ 0 → ⊥) → FirstRow rows m → refused m 0 ≡ answered rows n
unfolding answered
answered-first rows n m u f =
    sym (ap (λ (k : ℕ). cond (eqb k 0) (done n) (refused k 0)) (first-number rows m f) ∙ ap (λ (t : Bool). cond t (done n) (refused m 0)) (ne_eqb m 0 u))

-- only a table of which no row holds gives 0
pub answered-0 : (rows : List Row) (n : ℕ) → (answered rows n).number ≡ 0 → number_of rows ≡ 0
unfolding answered
answered-0 rows n z = go (eqb (number_of rows) 0) refl z
  where
    go : (t : Bool) → eqb (number_of rows) 0 ≡ t → (cond t (done n) (refused (number_of rows) 0)).number ≡ 0 → number_of rows ≡ 0
    go true e z = eqb-true (number_of rows) 0 e
    go false e z = z

-- ---- a reader

module _ (kind : ℕ) (bytes : List ℕ) (rows : List Row) (n : ℕ) (a : Moved) (e : a ≡ file_judged kind bytes) where
  pub read-refused : (a.number ≡ 0 → ⊥) → a ≡ read_answer kind bytes rows n
  unfolding read_answer
  read-refused u = rw (sym e) (sym (ap (λ (t : Bool). cond t (answered rows n) a) (ne_eqb a.number 0 u)))

  -- where the file stands, the rows decide
  pub read-rows : a.number ≡ 0 → answered rows n ≡ read_answer kind bytes rows n
  unfolding read_answer
  read-rows z = rw (sym e) (sym (ap (λ (t : Bool). cond t (answered rows n) a) (eq-eqb a.number 0 z)))

-- so where none of them holds either, n bytes are put out
pub read_done : {m : ℕ} (kind : ℕ) (bytes : List ℕ) (rows : List Row) (n : ℕ) → file_judged kind bytes ≡ done m → NoRow rows → done n ≡ read_answer kind bytes rows n
read_done {m} kind bytes rows n e f = answered-no-row rows n f ∙ read-rows kind bytes rows n (done m) (sym e) refl

-- a file that is not refused stands when judged, and none of the rows holds
pub read-stands : (kind : ℕ) (bytes : List ℕ) (rows : List Row) (n : ℕ) → (read_answer kind bytes rows n).number ≡ 0
    → ((file_judged kind bytes).number ≡ 0) × (number_of rows ≡ 0) × (read_answer kind bytes rows n ≡ done n)
unfolding read_answer
read-stands kind bytes rows n z = go (eqb (file_judged kind bytes).number 0) refl z
  where
    go : (t : Bool) → eqb (file_judged kind bytes).number 0 ≡ t → (cond t (answered rows n) (file_judged kind bytes)).number ≡ 0
        → ((file_judged kind bytes).number ≡ 0) × (number_of rows ≡ 0) × (read_answer kind bytes rows n ≡ done n)
    go true e z =
        let r = answered-0 rows n z in
        let f = eqb-true (file_judged kind bytes).number 0 e in
        (f, r, sym (answered-none rows n r ∙ read-rows kind bytes rows n (file_judged kind bytes) refl f))
    go false e z = absurd (eqb-false (file_judged kind bytes).number 0 e z)
