-- What each way of taking a file answers and leaves, the kind that before.pic is taken for, and that a place is small. Assumes nothing.
use mathlib.Core.Path.{◌≡◌, refl, sym, ap, ap₂, subst, ◌∙◌}
use mathlib.Core.Bool.{Bool, true, false, cond, not, ◌&&◌}
use mathlib.Core.List.{List}
use mathlib.Core.Logic.{◌⊎◌, inl, inr}
use Prim.Native.Nat.{ℕ, ◌-◌, ◌/◌, ◌<◌, ◌≤◌}
use native.Mathlib.Nat.{sub-zero}
use native.Mathlib.Omega.{arith}
use native.Mathlib.Decide.{ℕ_discrete}
use lib.Dec.{eqb, leb, ltb}
use lib.ListN.{length, take, drop, length-append, length-drop}
use lib.Seq.{take_at}
use borrow.Author.Tests.{eq-eqb, ne_eqb, lt-ltb, le-ltb, le-leb, lt-leb, ltb-false}
use borrow.Rule.Slice.PartMut.{mid_of, put_mid, mid_len}
use Rattle.bits.specs.Rows.{number_of}
use Rattle.bits.proofs.Rows.{taken}
use Rattle.bits.proofs.Puts.{part-put, put_front}
use Rattle.blocks.specs.Block.{two_at}
use Rattle.std.specs.Prelude.{Result, Ok, Err}
use Rattle.contents.specs.declared.Refused.{Refused}
use Rattle.contents.specs.Moved.{Moved, moved_of}
use Rattle.contents.proofs.MovedLaws.{number-some}
use Rattle.contents.specs.File.{is_picture, done, refused, content_of, file_judged}
use Rattle.contents.specs.Content.{read_answer, changed, over, target_fits, read_rows, ContentLeft, content_read}
use Rattle.pictures.specs.Picture.{picture_registers, scrambled, content_modes, picture_fits, picture_read_rows, PictureLeft, picture_read}
use Rattle.contents.proofs.Bounds.{read-place, judged-place}
use Rattle.contents.proofs.FileLaws.{Stands, file-stands}
use Rattle.contents.proofs.OneForm.{size_is, count-is}
use Rattle.contents.proofs.AnswerLaws.{answered-none, read-refused, read-rows, read-stands, left-parts, changed-done, refused-not}
use Rattle.pictures.proofs.PictureLaws.{registers-few, are-fits, both-parts}
use Rattle.pictures.proofs.ConversionLaws.{picture-bytes}
use Rattle.std.proofs.Common.{Bor}
use Rattle.session.specs.declared.Found.{Found}
use Rattle.session.specs.declared.Found.TheVariants.{Absent, Failed, Bytes}
use Rattle.session.specs.Session.{File, absent, failed, bytes, file_of, read, file_answer, kind_of, picture_judged, picture_answer, content_answer, content_in, blank_registers, start_registers}

-- ---- a reader whose target fits answers as the judge

read_fits : (kind : ℕ) (b : List ℕ) (fits : Bool) → ((file_judged kind b).number ≡ 0 → fits ≡ true)
    → read_answer kind b (read_rows fits) (length (content_of b)) ≡ file_judged kind b
read_fits kind b fits f =
    let n = length (content_of b) in
    elim (ℕ_discrete (file_judged kind b).number 0) [
      | yes z ↦ sym ((file-stands kind b z).answer ∙ answered-none (read_rows fits) n (ap (λ (x : Bool). number_of (read_rows x)) (f z)) ∙ read-rows kind b (read_rows fits) n (file_judged kind b) refl z)
      | no u ↦ sym (read-refused kind b (read_rows fits) n (file_judged kind b) refl u)
    ]

-- ---- by length

read-long : (limit : ℕ) (judge : List ℕ → Moved) (b : List ℕ) → limit < length b → refused 20 0 ≡ read limit judge b
unfolding read
read-long limit judge b h = sym (ap (λ (t : Bool). cond t (refused 20 0) (judge b)) (lt-ltb limit (length b) h))

pub read_short : (limit : ℕ) (judge : List ℕ → Moved) (b : List ℕ) → length b ≤ limit → judge b ≡ read limit judge b
unfolding read
read_short limit judge b h = sym (ap (λ (t : Bool). cond t (refused 20 0) (judge b)) (le-ltb limit (length b) h))

-- what was found, where b are its bytes
pub found-bytes : {f : Found} {b : Bor (List ℕ)} → f ≡ Bytes b → bytes b.now ≡ file_of f
found-bytes g = sym (ap file_of g)

pub found-long : {f : Found} {b : Bor (List ℕ)} (none : Moved) (limit : ℕ) (judge : List ℕ → Moved) → f ≡ Bytes b → limit < length b.now
    → refused 20 0 ≡ file_answer none limit judge (file_of f)
found-long {b = b} none limit judge g h = read-long limit judge b.now h ∙ ap (file_answer none limit judge) (found-bytes g)

-- 16 blocks hold no more than 8,192 bytes
content-fits : (kind : ℕ) (b : List ℕ) → Stands kind b → length b ≤ 8192 → length (content_of b) ≤ 8192
content-fits kind b s h = omega (arith, size_is kind b s, count-is kind b s)

-- ---- the place is that of a block

-- at most that of the last block that a file may have
module _ (limit : ℕ) (judge : List ℕ → Moved) (inside : (b : List ℕ) → (judge b).place ≤ length b / 512) (h : limit ≤ 8704) where
  within : (b : List ℕ) → (read limit judge b).place ≤ 17
  unfolding read
  within b = go (ltb limit (length b)) refl
    where
      go : (t : Bool) → ltb limit (length b) ≡ t → (cond t (refused 20 0) (judge b)).place ≤ 17
      go true e = omega arith
      go false e = omega (arith, ltb-false limit (length b) e, inside b)

  file-place : (none : Moved) (f : File) → none.place ≡ 0 → (file_answer none limit judge f).place ≤ 17
  file-place none absent z = omega arith
  file-place none failed z = omega arith
  file-place none (bytes b) z = within b

  place-small : (none : Moved) (f : File) (a : Moved) → a ≡ file_answer none limit judge f → none.place ≡ 0 → a.place ≤ 17
  place-small none f a e z = omega (arith, ap (λ (x : Moved). x.place) e, file-place none f z)

-- ---- before.pic

-- the kind that is taken, by the length and the first two bytes
module _ (b : List ℕ) where
  pub kind-short : length b < 2 → 1 ≡ kind_of b
  unfolding kind_of
  kind-short h = sym (ap (λ (t : Bool). cond (t && eqb (two_at b 0) 4) 4 1) (lt-leb 2 (length b) h))

  module _ (h : 2 ≤ length b) where
    pub kind-four : two_at b 0 ≡ 4 → 4 ≡ kind_of b
    unfolding kind_of
    kind-four e = sym (ap₂ (λ (s t : Bool). cond (s && t) 4 1) (le-leb 2 (length b) h) (eq-eqb (two_at b 0) 4 e))

    pub kind-other : (two_at b 0 ≡ 4 → ⊥) → 1 ≡ kind_of b
    unfolding kind_of
    kind-other u = sym (ap₂ (λ (s t : Bool). cond (s && t) 4 1) (le-leb 2 (length b) h) (ne_eqb (two_at b 0) 4 u))

-- it is that of a picture
kind-picture : (b : List ℕ) → is_picture (kind_of b) ≡ true
unfolding kind_of
kind-picture b = taken (λ (k : ℕ). is_picture k ≡ true) 4 1 (leb 2 (length b) && eqb (two_at b 0) 4) refl refl

-- What is promised of memory and registers: they hold the content of a file that is not refused.
-- A place is no further than a picture has blocks.
abbrev pub Taken : File → Moved → List ℕ → List ℕ → Type 0
Taken file r m g =
    (r ≡ picture_answer file)
    × ((r.number ≡ 0 → (m ≡ scrambled (content_in file)) × (g ≡ start_registers file)) × (r.place ≤ 17))

-- refused
pub picture-refused : (file : File) (r : Moved) (m g : List ℕ) → r ≡ refused 20 0 → refused 20 0 ≡ picture_answer file → Taken file r m g
picture-refused file r m g e q =
    (e ∙ q, (λ z. absurd (refused-not r 20 0 e (λ x. omega arith) z), omega (arith, ap (λ (x : Moved). x.place) e)))

-- of a file that is not to be had
pub picture-unread : {f : Found} → (f ≡ Absent) ⊎ (f ≡ Failed) → refused 20 0 ≡ picture_answer (file_of f)
picture-unread e = elim e [ inl i ↦ sym (ap (λ (f : Found). picture_answer (file_of f)) i) | inr i ↦ sym (ap (λ (f : Found). picture_answer (file_of f)) i) ]

-- read: the registers of the picture's kind, into the front of a register set of zeros
module _ (b m g m' g' : List ℕ) (kind size : ℕ) (r : Moved) (ek : kind ≡ kind_of b) (es : size ≡ picture_registers kind) (eg : g ≡ blank_registers)
    (lm : length m ≡ 8192) (q : ◌≡◌ {A = PictureLeft} (record { answer = r; memory = m'; registers = g' }) (picture_read kind b m (mid_of 0 (size - 0) g))) where
  abbrev content : List ℕ
  content = content_of b

  abbrev fits : Bool
  fits = picture_fits kind (length m) (length (mid_of 0 (size - 0) g))

  is : is_picture kind ≡ true
  is = ap is_picture ek ∙ kind-picture b

  room : size ≤ length g
  room = omega (arith, registers-few kind, ap length eg)

  -- they fit, so that only 15 is asked behind the file
  fit : fits ≡ true
  fit = are-fits kind (length m) (length (mid_of 0 (size - 0) g)) is lm (mid_len 0 size g room ∙ sub-zero size ∙ es)

  parts : (r ≡ read_answer kind b (picture_read_rows fits (content_modes content)) (length content))
      × (m' ≡ changed r (scrambled content) m) × (g' ≡ changed r (drop 8192 content) (mid_of 0 (size - 0) g))
  unfolding picture_read
  parts = both-parts r _ (scrambled content) m (drop 8192 content) (mid_of 0 (size - 0) g) m' g' q

  judged : r ≡ picture_judged b
  judged =
      parts.0 ∙ ap₂ (λ (k : ℕ) (t : Bool). read_answer k b (picture_read_rows t (content_modes content)) (length content)) ek fit

  found : r.number ≡ 0 → (m' ≡ scrambled content) × (put_mid 0 (size - 0) g g' ≡ over (drop 8192 content) blank_registers)
  found z =
      let rows = picture_read_rows fits (content_modes content) in
      let stands = file-stands kind b (read-stands kind b rows (length content) (sym (ap (λ (x : Moved). x.number) parts.0) ∙ z)).0 in
      let n : length (drop 8192 content) ≡ picture_registers kind = length-drop 8192 content ∙ omega (arith, picture-bytes kind b is stands) in
      let e : g' ≡ drop 8192 content = parts.2 ∙ sym (changed-done r (drop 8192 content) (mid_of 0 (size - 0) g) z) in (
        parts.1 ∙ sym (changed-done r (scrambled content) m z),
        part-put 0 size g g' (ap length e ∙ n ∙ sym es ∙ sym (sub-zero size)) ∙ put_front g' g ∙ ap₂ over e eg,
      )

  pub picture-taken : (file : File) → bytes b ≡ file → length b ≤ 8704 → Taken file r m' (put_mid 0 (size - 0) g g')
  picture-taken file e h =
      let s = judged ∙ read_short 8704 picture_judged b h in
      subst (λ (x : File). Taken x r m' (put_mid 0 (size - 0) g g')) e
      (s, (found, place-small 8704 picture_judged (λ x. read-place (kind_of x) x _ _) (omega arith) (refused 20 0) (bytes b) r s refl))

-- ---- run.lst and in.itm

-- What is promised of a target: it begins with the content of a file that is not refused. Of a place, the same.
abbrev pub Holds : ℕ → File → Moved → List ℕ → Type 0
Holds kind file r t =
    (r ≡ content_answer kind file)
    × ((r.number ≡ 0 → (r.bytes ≤ length t) × (take r.bytes t ≡ content_in file)) × (r.place ≤ 17))

pub content-absent : (kind : ℕ) (file : File) (r : Moved) (t : List ℕ) → r ≡ done 0 → absent ≡ file → Holds kind file r t
content-absent kind file r t d e = subst (λ (x : Moved). Holds kind file x t) (sym d) (subst (λ (x : File). Holds kind x (done 0) t) e (refl, (λ z. (omega arith, refl), omega arith)))

pub content-refused : (kind : ℕ) (file : File) (r : Moved) (t : List ℕ) → r ≡ refused 20 0 → refused 20 0 ≡ content_answer kind file → Holds kind file r t
content-refused kind file r t e q =
    (e ∙ q, (λ z. absurd (refused-not r 20 0 e (λ x. omega arith) z), omega (arith, ap (λ (x : Moved). x.place) e)))

pub content-taken : (kind : ℕ) (file : File) (b t t' : List ℕ) (r : Moved) → bytes b ≡ file → is_picture kind ≡ false → length b ≤ 8192 → length t ≡ 8192
    → ◌≡◌ {A = ContentLeft} (record { answer = r; buffer = t' }) (content_read kind b t) → Holds kind file r t'
unfolding content_read
content-taken kind file b t t' r e k h lt q =
    let s = j ∙ read_short 8192 (file_judged kind) b h in
    subst (λ (x : File). Holds kind x r t') e (s, (found, place-small 8192 (file_judged kind) (judged-place kind) (omega arith) (done 0) (bytes b) r s refl))
  where
    p : (r ≡ read_answer kind b (read_rows (target_fits kind b t)) (length (content_of b))) × (t' ≡ changed r (over (content_of b) t) t)
    p = left-parts r _ (over (content_of b) t) t t' q

    room : (file_judged kind b).number ≡ 0 → length (content_of b) ≤ 8192
    room z = content-fits kind b (file-stands kind b z) h

    j : r ≡ file_judged kind b
    j =
        p.0
        ∙ read_fits kind b (target_fits kind b t) (λ z. let l = room z in ap₂ (λ (x y : Bool). not x && y) k (le-leb (length (content_of b)) (length t) (omega arith)))

    found : r.number ≡ 0 → (r.bytes ≤ length t') × (take r.bytes t' ≡ content_of b)
    found z =
        let c = content_of b in
        let zj : (file_judged kind b).number ≡ 0 = sym (ap (λ (x : Moved). x.number) j) ∙ z in
        let l = room zj in
        let n : r.bytes ≡ length c = ap (λ (x : Moved). x.bytes) (j ∙ (file-stands kind b zj).answer) in
        let w : t' ≡ over c t = p.1 ∙ sym (changed-done r (over c t) t z) in (
          omega (arith, ap length w, length-append c (drop (length c) t)),
          ap₂ (λ (x : ℕ) (y : List ℕ). take x y) n w ∙ take_at c (drop (length c) t) (length c) refl,
        )

-- ---- what was taken, by its result

pub moved-done : {r : Result ℕ Refused} {n : ℕ} → r ≡ Ok n → (moved_of r).number ≡ 0
moved-done e = ap (λ (x : Result ℕ Refused). (moved_of x).number) e

pub moved-not : {r : Result ℕ Refused} {e : Refused} → r ≡ Err e → (moved_of r).number ≡ 0 → ⊥
moved-not {e = e} h z = number-some e.why (sym (ap (λ (x : Result ℕ Refused). (moved_of x).number) h) ∙ z)

-- so many bytes are the content of the file
pub content-held : {r : Result ℕ Refused} {n : ℕ} {c : List ℕ} (t : List ℕ) → r ≡ Ok n → ((moved_of r).number ≡ 0 → ((moved_of r).bytes ≤ length t) × (take (moved_of r).bytes t ≡ c))
    → (n ≤ length t) × (take n t ≡ c)
content-held {c = c} t e h = subst (λ (x : ℕ). (x ≤ length t) × (take x t ≡ c)) (ap (λ (x : Result ℕ Refused). (moved_of x).bytes) e) (h (moved-done e))
