-- A line is read behind any other as by itself: what stands before it changes neither what it makes nor its refusal. Assumes nothing.
use mathlib.Core.Path.{◌≡◌, refl, sym, ap, ap₂, subst, ◌∙◌}
use mathlib.Core.Bool.{Bool, true, false, cond}
use mathlib.Core.List.{List, [], ◌∷◌, ◌++◌, append_assoc}
use Prim.Native.Nat.{ℕ, ◌+◌, ◌<◌}
use native.Mathlib.Decide.{ℕ_discrete}
use native.Mathlib.Omega.{arith}
use lib.Dec.{eqb, ltb}
use borrow.Author.Tests.{ne_eqb, eqb-true, eqb-false, le-ltb, ltb-false}
use Rattle.spelling.specs.Words.{extended}
use Rattle.judge.specs.declared.Instruction.{Instruction}
use Rattle.lines.specs.declared.Line.{Line}
use Rattle.lines.specs.declared.Phase.{Phase}
use Rattle.lines.specs.declared.Phase.TheVariants.{Head, Comment, Refused}
use Rattle.lines.specs.Worded.{line, worded, sort_of}
use Rattle.text.specs.declared.Reading.{Reading}
use Rattle.text.specs.Make.{reading, blank, ended, closed, character, commented, stepped, brought, emitted, ends}

-- ---- two readings that go on alike

-- Two lines that make the same of what follows: the instruction so far counts only where there is one.
pub data Like : Line → Line → Type 0 where
  same : {l : Line} → Like l l
  head : {g h : Instruction} → Like (line Head g) (line Head h)
  remark : {g h : Instruction} → Like (line Comment g) (line Comment h)
  refusal : {n : ℕ} {g h : Instruction} → Like (line (Refused n) g) (line (Refused n) h)

pub like-phase : {l m : Line} → Like l m → l.phase ≡ m.phase
like-phase same = refl
like-phase head = refl
like-phase remark = refl
like-phase refusal = refl

-- The same word at their end, and the same bytes with the last character; where the lines stand may differ.
record Alike (s t : Reading) : Type 0 where
  lines : Like s.line t.line
  words : s.word ≡ t.word
  bytes : brought s ≡ brought t

alike : {l m : Line} {w v a b : ℕ} → Like l m → w ≡ v → Alike (reading l w a false) (reading m v b false)
unfolding brought
alike k e = record { lines = k; words = e; bytes = refl }

both : (b : Bool) {x y z u : Reading} → Alike x z → Alike y u → Alike (cond b x y) (cond b z u)
both true p q = p
both false p q = q

either-like : (b : Bool) {x y z u : Line} → Like x z → Like y u → Like (cond b x y) (cond b z u)
either-like true p q = p
either-like false p q = q

ended-like : {l m : Line} (w : ℕ) → Like l m → Like (ended l w) (ended m w)
unfolding ended worded
ended-like w same = same
ended-like w head = either-like (eqb w 0) head same
ended-like w remark = either-like (eqb w 0) remark remark
ended-like w refusal = either-like (eqb w 0) refusal refusal

closed-alike : (next : Phase) → ((g h : Instruction) → Like (line next g) (line next h)) → {l m : Line} (at at' start start' : ℕ) → Like l m → Alike (closed next l at start) (closed next m at' start')
unfolding closed brought
closed-alike next n at at' start start' (same {l = l}) =
    both (eqb (sort_of l.phase) 1) (alike same refl)
    (both (eqb (sort_of l.phase) 2) (record { lines = same; words = refl; bytes = refl })
    (both (eqb (sort_of l.phase) 4) (alike same refl) (alike same refl)))
closed-alike next n at at' start start' (head {g = g} {h = h}) = alike (n g h) refl
closed-alike next n at at' start start' remark = alike refusal refl
closed-alike next n at at' start start' refusal = alike refusal refl

stepped-alike : (s t : Reading) (at at' c : ℕ) → Like s.line t.line → s.word ≡ t.word → Alike (stepped s at c) (stepped t at' c)
unfolding stepped character commented
stepped-alike s t at at' c k e =
    let l : Like (ended s.line s.word) (ended t.line t.word) = subst (λ (v : ℕ). Like (ended s.line s.word) (ended t.line v)) e (ended-like s.word k) in
    subst
    (λ (p : Phase).
    Alike (stepped s at c)
    (cond (ltb (sort_of p) 3) (character t at' c) (cond (eqb (sort_of p) 3) (commented t at' c) (reading t.line t.word t.start false))))
    (like-phase k)
    (both (ltb (sort_of s.line.phase) 3)
    (both (eqb c 10) (closed-alike Head (λ g h. head) at at' s.start t.start l)
    (both (eqb c 59) (closed-alike Comment (λ g h. remark) at at' s.start t.start l)
    (both (blank c) (alike l refl) (alike k (ap (λ (v : ℕ). extended v c) e)))))
    (both (eqb (sort_of s.line.phase) 3) (both (eqb c 10) (alike head refl) (alike k e)) (alike k e)))

pub read_alike : (cs : List ℕ) (s t : Reading) (at at' : ℕ) → Like s.line t.line → s.word ≡ t.word
    → (emitted s at cs ≡ emitted t at' cs) × Like (ends s at cs).line (ends t at' cs).line
unfolding emitted ends
read_alike [] s t at at' k e = (refl, k)
read_alike (c ∷ cs) s t at at' k e =
    let a = stepped-alike s t at at' c k e in
    let r = read_alike cs (stepped s at c) (stepped t at' c) (at + 1) (at' + 1) a.lines a.words in
    (ap₂ ◌++◌ a.bytes r.0, r.1)

-- ---- one piece of a text behind another

-- The place behind the characters.
pub behind : ℕ → List ℕ → ℕ
behind at [] = at
behind at (c ∷ cs) = behind (at + 1) cs

pub ends-append : (a b : List ℕ) (s : Reading) (at : ℕ) → ends s at (a ++ b) ≡ ends (ends s at a) (behind at a) b
unfolding ends behind
ends-append [] b s at = refl
ends-append (c ∷ a) b s at = ends-append a b (stepped s at c) (at + 1)

pub emitted-append : (a b : List ℕ) (s : Reading) (at : ℕ) → emitted s at (a ++ b) ≡ emitted s at a ++ emitted (ends s at a) (behind at a) b
unfolding emitted ends behind
emitted-append [] b s at = refl
emitted-append (c ∷ a) b s at =
    let t = stepped s at c in
    ap (λ (x : List ℕ). brought t ++ x) (emitted-append a b t (at + 1)) ∙ sym (append_assoc (brought t) (emitted t (at + 1) a) (emitted (ends t (at + 1) a) (behind (at + 1) a) b))

-- ---- behind a line feed

-- A new line begins, or there was a refusal.
pub data Fed : Reading → Type 0 where
  begun : {g : Instruction} {start : ℕ} {r : Bool} → Fed (reading (line Head g) 0 start r)
  stuck : {s : Reading} → 3 < sort_of s.line.phase → Fed s

either : (b : Bool) {x y : Reading} → (b ≡ true → Fed x) → (b ≡ false → Fed y) → Fed (cond b x y)
either true p q = p refl
either false p q = q refl

feed-fed : (s : Reading) (at : ℕ) → Fed (stepped s at 10)
unfolding stepped character closed commented
feed-fed s at =
    either (ltb n 3)
    (λ e. either (eqb k 1) (λ e. begun) (λ e. either (eqb k 2) (λ e. begun) (λ e. either (eqb k 4) (λ e. stuck (omega (arith, eqb-true k 4 e))) (λ e. stuck (omega arith)))))
    (λ a. either (eqb n 3) (λ e. begun) (λ b. stuck (more n a b)))
  where
    n : ℕ
    n = sort_of s.line.phase

    k : ℕ
    k = sort_of (ended s.line s.word).phase

    more : (n : ℕ) → ltb n 3 ≡ false → eqb n 3 ≡ false → 3 < n
    more n a b = go (ℕ_discrete n 3)
      where
        go : Dec (n ≡ 3) → 3 < n
        go (yes e) = absurd (eqb-false n 3 b e)
        go (no u) = omega (arith, ltb-false n 3 a)

pub line-fed : (cs : List ℕ) (s : Reading) (at : ℕ) → Fed (ends s at (cs ++ (10 ∷ [])))
unfolding ends
line-fed [] s at = feed-fed s at
line-fed (c ∷ cs) s at = line-fed cs (stepped s at c) (at + 1)

-- a refusal stays
idle : (s : Reading) (at c : ℕ) → 3 < sort_of s.line.phase → stepped s at c ≡ reading s.line s.word s.start false
unfolding stepped
idle s at c h = simp (le-ltb (sort_of s.line.phase) 3 (omega arith), ne_eqb (sort_of s.line.phase) 3 (λ e. omega arith))

pub stuck-stays : (cs : List ℕ) (s : Reading) (at : ℕ) → 3 < sort_of s.line.phase → (ends s at cs).line ≡ s.line
unfolding ends
stuck-stays [] s at h = refl
stuck-stays (c ∷ cs) s at h =
    ap (λ (x : Reading). (ends x (at + 1) cs).line) (idle s at c h) ∙ stuck-stays cs (reading s.line s.word s.start false) (at + 1) h
