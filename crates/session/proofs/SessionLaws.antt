-- The numbers of a run are small and its items are there; the outcome by the first refused file; the picture that is written. Assumes nothing.
use mathlib.Core.Path.{◌≡◌, refl, sym, ap, subst, ◌∙◌}
use mathlib.Core.Bool.{Bool, true, false, cond, not, ◌||◌}
use mathlib.Core.List.{List, [], ◌++◌}
use mathlib.Core.Logic.{◌⊎◌, inl, inr}
use Prim.Native.Nat.{ℕ, ◌+◌, ◌*◌, ◌≤◌}
use native.Mathlib.Decide.{ℕ_discrete}
use native.Mathlib.Omega.{arith}
use lib.Dec.{eqb}
use lib.ListN.{length, take, drop}
use lib.Seq.{take_all, length-take-le}
use borrow.Author.Tests.{eq-eqb, ne_eqb, le-ltb}
use Rattle.bits.proofs.Rows.{taken as either}
use Rattle.registers.specs.declared.Modes.{Modes}
use Rattle.registers.specs.Modes.{modes_of, wrong_modes, any_set}
use Rattle.registers.proofs.ModeLaws.{modes-none}
use Rattle.judge.specs.declared.Lengths.{Lengths}
use Rattle.judge.specs.declared.Done.{Done}
use Rattle.judge.specs.declared.Refused.{Refused as Wrong}
use Rattle.judge.specs.Answers.{Answer, answer_of}
use Rattle.contents.proofs.MovedLaws.{number-some}
use Rattle.judge.specs.Judge.{run_rows, judged}
use Rattle.judge.proofs.Numbers.{refusal-counts}
use Rattle.judge.proofs.Accepted.{run-accepted, run-done, room_fits}
use Rattle.judge.proofs.Bounds.{judged-bounds}
use Rattle.module.specs.Run.{Lent, Left, run_lengths, ran}
use Rattle.module.proofs.RunLaws.{ran-answer}
use Rattle.std.specs.Prelude.{Result, Ok, Err}
use Rattle.std.specs.Result.{result_unwrap_or}
use Rattle.contents.specs.declared.Kind.{Kind}
use Rattle.contents.specs.declared.Kind.TheVariants.{Picture, List as KindList, Items, ModesPicture}
use Rattle.contents.specs.declared.Refused.{Refused}
use Rattle.contents.specs.Kinds.{number_of_kind}
use Rattle.contents.specs.Moved.{Moved, moved_of}
use Rattle.contents.specs.File.{is_picture, done, blocks_of}
use Rattle.contents.specs.Content.{answered, changed, over, ContentLeft}
use Rattle.pictures.specs.Picture.{picture_registers, picture_of, picture_fits, picture_write_rows, picture_written}
use Rattle.contents.proofs.AnswerLaws.{changed-done, left-parts, answered-no-row}
use Rattle.contents.proofs.RoundTrip.{all-length}
use Rattle.pictures.proofs.PictureLaws.{picture-kinds, registers-few, are-fits, picture-right, length-picture, picture-blocks}
use Rattle.report.specs.Report.{item_lines, printed}
use Rattle.session.specs.declared.Counts.{Counts}
use Rattle.session.specs.Session.{Outcome, only_line, kind_written, after_of, finished, unless_refused}
use Rattle.session.specs.Shown.{Shown}
use Rattle.session.specs.Steps.{Small}

-- no more is given than there is room for
given-there : (l : Lengths) (modes : Modes) (list : List ℕ) → 32 * (judged l modes list).given ≤ l.out
given-there l modes list = go (ℕ_discrete (judged l modes list).number 0)
  where
    go : Dec ((judged l modes list).number ≡ 0) → 32 * (judged l modes list).given ≤ l.out
    go (yes z) = omega (arith, ap (λ (a : Answer). a.given) (run-done l modes list z), room_fits l modes list (run-accepted l modes list z))
    go (no u) = omega (arith, ap (λ (a : Answer). a.given) (refusal-counts (run_rows l modes list) l modes list refl u))

judged-small : (l : Lengths) (modes : Modes) (list : List ℕ) → Small (judged l modes list) l.out
judged-small l modes list =
    let b = judged-bounds l modes list in
    record { place = b.place; steps = b.steps; taken = b.taken; given = b.given; there = given-there l modes list }

pub run_small : (l : Lent (List ℕ)) (out' : List ℕ) (a : Answer) → a ≡ (ran l).answer → length out' ≡ length l.out → Small a (length out')
run_small l out' a e h =
    subst (λ (n : ℕ). Small a n) (sym h)
    (subst (λ (x : Answer). Small x (length l.out)) (sym (e ∙ ran-answer l)) (judged-small (run_lengths l) (modes_of l.registers) l.list))

-- a run that is done has number 0, and one that is refused has not
pub done-number : {r : Result Done Wrong} {d : Done} → r ≡ Ok d → (answer_of r).number ≡ 0
done-number e = ap (λ (x : Result Done Wrong). (answer_of x).number) e

pub refused-number : {r : Result Done Wrong} {w : Wrong} → r ≡ Err w → (answer_of r).number ≡ 0 → ⊥
refused-number {w = w} e z = number-some w.why (sym (ap (λ (x : Result Done Wrong). (answer_of x).number) e) ∙ z)

-- ---- the outcome, by the first refused file

-- a line that gives no items says nothing of the out buffer
pub line-alone : (letter number place : ℕ) (out : List ℕ) → printed letter number place 0 0 0 0 out ≡ printed letter number place 0 0 0 0 []
unfolding printed item_lines
line-alone letter number place out = refl

-- the answer `a`, which is that on the stage's file, decides: its line, or the next stage
module _ (letter : ℕ) (a b : Moved) (next : Outcome) (e : a ≡ b) where
  refused-first : (a.number ≡ 0 → ⊥) → unless_refused letter b next ≡ only_line letter a
  refused-first u = rw (sym e) (ap (λ (t : Bool). cond (not t) (only_line letter a) next) (ne_eqb a.number 0 u))

  pub stands-first : a.number ≡ 0 → unless_refused letter b next ≡ next
  stands-first z = rw (sym e) (ap (λ (t : Bool). cond (not t) (only_line letter a) next) (eq-eqb a.number 0 z))

-- ---- what stands in the buffers

-- An outcome stands in both buffers.
abbrev pub Both : Outcome → Counts → List ℕ → List ℕ → List ℕ → List ℕ → Type 0
Both o r old text after after' = Shown o r old text × (after' ≡ over o.after after)

-- a stage whose file is refused leaves after.pic's buffer as it was
pub line-shown : (letter : ℕ) (a b : Moved) (next : Outcome) (r : Counts) (old text after : List ℕ)
    → a ≡ b → (a.number ≡ 0 → ⊥) → Shown (only_line letter a) r old text
    → Both (unless_refused letter b next) r old text after after
line-shown letter a b next r old text after e u s =
    subst (λ (o : Outcome). Both o r old text after after) (sym (refused-first letter a b next e u)) (s, refl)

-- a stage whose file stands is the next stage
pub next-shown : (letter : ℕ) (a b : Moved) (next next' : Outcome) (r : Counts) (old text after after' : List ℕ)
    → a ≡ b → a.number ≡ 0 → next ≡ next' → Both next' r old text after after'
    → Both (unless_refused letter b next) r old text after after'
next-shown letter a b next next' r old text after after' e z q s =
    subst (λ (o : Outcome). Both o r old text after after') (sym (stands-first letter a b next e z ∙ q)) s

-- a run's lines and its picture
pub finished-shown : (took : ℕ) (o : Outcome) (s : Left (List ℕ) Answer) (m g out : List ℕ) (a : Answer) (n w : ℕ) (old text after after' : List ℕ)
    → o ≡ finished took s → ◌≡◌ {A = Left (List ℕ) Answer} (record { memory = m; registers = g; out = out; answer = a }) s
    → n ≤ length text → n ≡ length (printed 114 a.number a.place a.byte a.steps a.taken a.given out)
    → text ≡ printed 114 a.number a.place a.byte a.steps a.taken a.given out ++ drop n old
    → w ≤ 8704 → w ≡ length (after_of took a.number m g) → after' ≡ over (after_of took a.number m g) after
    → Both o (record { text = n; after = w }) old text after after'
unfolding finished
finished-shown took o s m g out a n w old text after after' e q h l t most c k =
    subst (λ (x : Outcome). Both x (record { text = n; after = w }) old text after after') (sym (e ∙ ap (finished took) (sym q)))
    (record { room = h; count = l; printed = t; written = c; most = most }, k)

-- ---- after.pic

pub after_none : (took number : ℕ) (m g : List ℕ) → (number ≡ 0 → ⊥) → after_of took number m g ≡ []
unfolding after_of
after_none took number m g u =
    let kind = kind_written took g in
    ap (λ (t : Bool). cond t (blocks_of kind (picture_of m (take (picture_registers kind) g))) []) (ne_eqb number 0 u)

pub after-done : (took number : ℕ) (m g : List ℕ) → number ≡ 0
    → (let kind = kind_written took g in after_of took number m g ≡ blocks_of kind (picture_of m (take (picture_registers kind) g)))
unfolding after_of
after-done took number m g z =
    let kind = kind_written took g in
    ap (λ (t : Bool). cond t (blocks_of kind (picture_of m (take (picture_registers kind) g))) []) (eq-eqb number 0 z)

-- of either kind it is 17 blocks
pub after-size : (kind : ℕ) (m x : List ℕ) → length x ≡ picture_registers kind → length (blocks_of kind (picture_of m x)) ≡ 8704
after-size kind m x e =
    all-length kind (picture_of m x) ∙ picture-blocks kind (length (picture_of m x)) (length-picture m x ∙ ap (λ (n : ℕ). 8192 + n) e)

-- the registers of its kind
pub front_length : (kind : ℕ) (g : List ℕ) → length g ≡ 100 → length (take (picture_registers kind) g) ≡ picture_registers kind
front_length kind g e = length-take-le (picture_registers kind) g (omega (arith, registers-few kind))

-- they are not such as 15 refuses, where those of the run are not: one of kind 1 has no mode registers
pub front-right : (kind : ℕ) (g : List ℕ) → is_picture kind ≡ true → length g ≡ 100 → wrong_modes (modes_of g) ≡ false → wrong_modes (modes_of (take (picture_registers kind) g)) ≡ false
unfolding wrong_modes
front-right kind g p n right = go (picture-kinds kind p)
  where
    go : (kind ≡ 1) ⊎ (kind ≡ 4) → wrong_modes (modes_of (take (picture_registers kind) g)) ≡ false
    go (inl k) =
        ap (λ (x : ℕ). wrong_modes (modes_of (take (picture_registers x) g))) k
        ∙ ap wrong_modes (modes-none (take 96 g) (omega (arith, length-take-le 96 g (omega arith))))
    go (inr k) =
        ap (λ (x : ℕ). wrong_modes (modes_of (take (picture_registers x) g))) k
        ∙ ap (λ (x : List ℕ). wrong_modes (modes_of x)) (take_all 100 g (omega arith))
        ∙ right

pub written-picture : (took : ℕ) (g : List ℕ) → is_picture (kind_written took g) ≡ true
unfolding kind_written
written-picture took g = either (λ (k : ℕ). is_picture k ≡ true) 4 1 (eqb took 4 || any_set (modes_of g)) refl refl

-- the kind, by the one that was taken and by the mode registers
written-one : (t u : Bool) → u ≡ true → ◌≡◌ {A = ℕ} 4 (cond (t || u) 4 1)
written-one true u e = refl
written-one false u e = sym (ap (λ (x : Bool). cond x 4 1) e)

module _ (g : List ℕ) where
  pub written-modes : (took : Kind) → took ≡ ModesPicture → 4 ≡ kind_written (number_of_kind took) g
  unfolding kind_written
  written-modes took e = sym (ap (λ (k : Kind). kind_written (number_of_kind k) g) e)

  pub written-set : (took : Kind) → any_set (modes_of g) ≡ true → 4 ≡ kind_written (number_of_kind took) g
  unfolding kind_written
  written-set took e = written-one (eqb (number_of_kind took) 4) (any_set (modes_of g)) e

  pub written-unset : (took : Kind) → (took ≡ ModesPicture → ⊥) → any_set (modes_of g) ≡ false → 1 ≡ kind_written (number_of_kind took) g
  unfolding kind_written
  written-unset Picture u e = sym (ap (λ (x : Bool). cond x 4 1) e)
  written-unset KindList u e = sym (ap (λ (x : Bool). cond x 4 1) e)
  written-unset Items u e = sym (ap (λ (x : Bool). cond x 4 1) e)
  written-unset ModesPicture u e = absurd (u refl)

-- the bytes that were put out, none where that was refused
pub bytes-given : (r : Result ℕ Refused) → result_unwrap_or r 0 ≡ (moved_of r).bytes
bytes-given (Ok n) = refl
bytes-given (Err e) = refl

module _ (took number : ℕ) (m g a a' : List ℕ) (kind size : ℕ) (r : Moved) (z : number ≡ 0) (lm : length m ≡ 8192) (lg : length g ≡ 100) (la : length a ≡ 8704)
    (right : wrong_modes (modes_of g) ≡ false) (ek : kind ≡ kind_written took g) (es : size ≡ picture_registers kind)
    (q : ◌≡◌ {A = ContentLeft} (record { answer = r; buffer = a' }) (picture_written kind m (take size g) a)) where
  abbrev x : List ℕ
  x = take (picture_registers kind) g

  is : is_picture kind ≡ true
  is = ap is_picture ek ∙ written-picture took g

  lx : length x ≡ picture_registers kind
  lx = front_length kind g lg

  abbrev b : List ℕ
  b = blocks_of kind (picture_of m x)

  parts : (r ≡ answered (picture_write_rows kind (picture_fits kind (length m) (length x)) (modes_of x) (length a)) 8704) × (a' ≡ changed r (over b a) a)
  unfolding picture_written
  parts = left-parts r _ (over b a) a a' (q ∙ ap (λ (n : ℕ). picture_written kind m (take n g) a) es)

  all : r ≡ done 8704
  all =
      let rows = picture_write_rows kind (picture_fits kind (length m) (length x)) (modes_of x) (length a) in
      parts.0
      ∙ sym (answered-no-row rows 8704 (ap not (picture-right kind is), (ap not (are-fits kind (length m) (length x) is lm lx), (front-right kind g is lg right, (le-ltb (length a) 8704 (omega arith), tt)))))

  -- it is what is written
  same : b ≡ after_of took number m g
  same = ap (λ (k : ℕ). blocks_of k (picture_of m (take (picture_registers k) g))) ek ∙ sym (after-done took number m g z)

  pub kept : (r.bytes ≤ 8704) × (r.bytes ≡ length (after_of took number m g)) × (a' ≡ over (after_of took number m g) a)
  kept =
      let n : r.bytes ≡ 8704 = ap (λ (y : Moved). y.bytes) all in (
        omega arith,
        n ∙ sym (after-size kind m x lx) ∙ ap length same,
        parts.1 ∙ sym (changed-done r (over b a) a (ap (λ (y : Moved). y.number) all)) ∙ ap (λ (l : List ℕ). over l a) same,
      )
