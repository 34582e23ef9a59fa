-- Every text that makes a list has one form: the text that shows the list. Assumes nothing.
use mathlib.Core.Path.{◌≡◌, refl, ap, sym, ◌∙◌}
use mathlib.Core.Bool.{Bool, true, false, cond, not, ◌||◌}
use mathlib.Core.List.{List, [], ◌∷◌, ◌++◌}
use Prim.Native.Nat.{ℕ, zero, suc, ◌+◌, ◌%◌, ◌<◌, ◌≤◌}
use native.Mathlib.Omega.{arith}
use lib.Dec.{ltb}
use lib.ListN.{length, length-append}
use borrow.Author.Tests.{eq-eqb, le-ltb}
use Rattle.judge.specs.Kinds.{most_bytes}
use Rattle.judge.specs.Judge.{unfit}
use Rattle.lines.specs.declared.Line.{Line}
use Rattle.lines.specs.Alone.{bytes_of}
use Rattle.lines.proofs.Leads.{Bytes}
use Rattle.lines.proofs.Kept.{word_kept}
use Rattle.judge.proofs.RowLaws.{fit-whole}
use Rattle.text.specs.declared.Reading.{Reading}
use Rattle.text.specs.Show.{shown_text}
use Rattle.text.specs.Make.{begin, stepped, brought, emitted, made_bytes}
use Rattle.text.specs.Promise.{Canonical}
use Rattle.text.proofs.Carried.{Carries, stepped-carried}
use Rattle.text.proofs.ReadLaws.{AllBytes}
use Rattle.text.proofs.RoundTrip.{make-show}
use Rattle.text.proofs.ScanLaws.{length-brought}

-- ---- what is made is bytes, eight by eight

abbrev Each : List ℕ → Type 0
Each [] = Unit {0}
Each (x ∷ xs) = (x < 256) × Each xs

each_append : (xs ys : List ℕ) → Each xs → Each ys → Each (xs ++ ys)
each_append [] ys h q = q
each_append (x ∷ xs) ys h q = (h.0, each_append xs ys h.1 q)

each_at : (xs : List ℕ) → Each xs → AllBytes xs
each_at [] h k = omega arith
each_at (x ∷ xs) h zero = h.0
each_at (x ∷ xs) h (suc k) = each_at xs h.1 k

-- the line's instruction is of bytes
abbrev Kept : Line → Type 0
Kept l = Bytes l.got

carries : Carries Kept
carries = record { word = word_kept; head = λ l h. h; comment = λ l h. h; early = λ l h. h }

brought-bytes : (s : Reading) → Kept s.line → Each (brought s)
unfolding brought
brought-bytes s b = go s.ready
  where
    go : (x : Bool) → Each (cond x (bytes_of s.line.got) [])
    go true = (b.kind, (b.source, (b.tag, (b.mode, (b.addr, (b.flip, (b.code, (b.logic, tt))))))))
    go false = tt

emitted-bytes : (s : Reading) (at : ℕ) (cs : List ℕ) → Kept s.line → Each (emitted s at cs)
unfolding emitted
emitted-bytes s at [] h = tt
emitted-bytes s at (c ∷ cs) h =
    let next = stepped s at c in
    let k = stepped-carried Kept carries s at c h in
    each_append (brought next) (emitted next (at + 1) cs) (brought-bytes next k) (emitted-bytes next (at + 1) cs k)

pub made-bytes : (text : List ℕ) → AllBytes (made_bytes text)
unfolding made_bytes
made-bytes text =
    each_at (emitted begin 0 (text ++ (10 ∷ []))) (emitted-bytes begin 0 (text ++ (10 ∷ [])) zeros)
  where
    zeros : Kept begin.line
    zeros = record { kind = omega arith; source = omega arith; tag = omega arith; mode = omega arith; addr = omega arith; flip = omega arith; code = omega arith; logic = omega arith }

emitted-whole : (s : Reading) (at : ℕ) (cs : List ℕ) → length (emitted s at cs) % 8 ≡ 0
unfolding emitted
emitted-whole s at [] = omega arith
emitted-whole s at (c ∷ cs) =
    let next = stepped s at c in
    let r = emitted-whole next (at + 1) cs in
    omega (arith, length-append (brought next) (emitted next (at + 1) cs), length-brought next, r)

pub made-whole : (text : List ℕ) → length (made_bytes text) % 8 ≡ 0
unfolding made_bytes
made-whole text = emitted-whole begin 0 (text ++ (10 ∷ []))

made-fits : (text : List ℕ) → length (made_bytes text) ≤ most_bytes → unfit 8 (length (made_bytes text)) ≡ false
made-fits text h =
    ap (λ (b : Bool). not b || ltb most_bytes (length (made_bytes text))) (eq-eqb (length (made_bytes text) % 8) 0 (made-whole text)) ∙ le-ltb most_bytes (length (made_bytes text)) h

-- ---- the one form

-- a text in its one form is shown again of what it makes
pub shown-again : (text : List ℕ) → Canonical text → shown_text (made_bytes text) ≡ text
shown-again text c =
    let back = make-show c.list (fit-whole 8 (length c.list) c.fits) c.bytes in
    ap (λ (t : List ℕ). shown_text (made_bytes t)) c.shown ∙ ap shown_text back.0 ∙ sym c.shown

-- every text that makes a list of at most 4,096 instructions has such a form, which makes the same list
pub has-form : (text : List ℕ) → length (made_bytes text) ≤ most_bytes → Canonical (shown_text (made_bytes text)) × (made_bytes (shown_text (made_bytes text)) ≡ made_bytes text)
has-form text h = (
  record { list = made_bytes text; fits = made-fits text h; bytes = made-bytes text; shown = refl },
  (make-show (made_bytes text) (made-whole text) (made-bytes text)).0,
)
