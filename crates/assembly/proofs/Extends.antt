-- The promise: every text that making makes a list of, assembling makes the same list of, and no items. Assumes nothing.
use mathlib.Core.Path.{◌≡◌, refl, sym, ap, ap₂, subst, ◌∙◌}
use mathlib.Core.Bool.{Bool, true, false, cond}
use mathlib.Core.List.{List, [], ◌∷◌, ◌++◌, append_assoc, append-nil}
use Prim.Native.Nat.{ℕ, ◌+◌, ◌%◌, ◌≤◌}
use native.Mathlib.Decide.{dec_le, ℕ_discrete}
use native.Mathlib.Omega.{arith}
use lib.Dec.{eqb}
use lib.ListN.{length, drop, drop_of_length-le, length-append}
use borrow.Author.Tests.{eq-eqb, ne_eqb, eqb-true, le-ltb}
use Rattle.judge.specs.declared.Instruction.{Instruction}
use Rattle.judge.specs.Instructions.{instruction_at}
use Rattle.judge.specs.Kinds.{most_bytes}
use Rattle.registers.specs.declared.Modes.{Modes}
use Rattle.builders.specs.Lists.{encoded}
use Rattle.lines.specs.declared.Line.{Line}
use Rattle.lines.specs.declared.Phase.TheVariants.{Head}
use Rattle.lines.specs.Alone.{bytes_of, of_kind}
use Rattle.lines.specs.Worded.{line}
use Rattle.text.specs.declared.Reading.{Reading}
use Rattle.text.specs.Make.{Made}
use Rattle.text.specs.Make as make
use Rattle.text.specs.Make.{reading, emitted, ends, made_bytes, last_of, refused_at, made_answer, made_out}
use Rattle.text.proofs.MadeLaws as made
use Rattle.text.proofs.ReadLaws as read
use Rattle.text.proofs.LineNumbers.{Numbered, ends-numbered, refused-some}
use Rattle.text.proofs.OneForm.{made-whole}
use Rattle.assembly.specs.Act.{Act, Nothing, One}
use Rattle.assembly.specs.Words.{word_from}
use Rattle.assembly.specs.Fields.{Named}
use Rattle.assembly.specs.Acts.{number_of, column_of, list_of, items_of, limit_by, limited, ordered}
use Rattle.assembly.specs.Statements.{eight, line_by, line_act}
use Rattle.assembly.specs.Assembly.{onto_first, lines_of, State, begin, applied, act_of, Outcome, folded, outcome_of, made_list, made_items, answer, assembled_answer, assembled_list, assembled_items}
use Rattle.assembly.proofs.FirstWord.{NoFeed, made-line}
use Rattle.assembly.proofs.OneLine.{NoFeeds, lines-fed, one-instruction, instruction-is}
use Rattle.assembly.proofs.AnswerLaws.{done}
use Rattle.assembly.proofs.Anew.{head, like-phase, read_alike, behind, ends-append, emitted-append, Fed, begun, stuck, line-fed, stuck-stays}

-- ---- a line that making does not refuse

-- What it makes: no refusal, these bytes, no items, and no limit.
record Makes (bytes : List ℕ) (act : Act) : Type 0 where
  number : number_of act ≡ 0
  list : list_of act ≡ bytes
  items : items_of act ≡ []
  limit : limit_by act 0 ≡ 0

none_left : (bytes : List ℕ) → length bytes ≡ 0 → bytes ≡ []
none_left [] z = refl
none_left (x ∷ xs) z = absurd (omega arith)

module _ (cs : List ℕ) (f : NoFeed cs) (h : length cs ≤ 1048576) (z : make.number_of (last_of cs).line.phase ≡ 0) where
  empty-made : length (made_bytes cs) ≡ 0 → Makes (made_bytes cs) Nothing
  empty-made e = record { number = refl; list = sym (none_left (made_bytes cs) e); items = refl; limit = refl }

  one-made : (length (made_bytes cs) ≡ 0 → ⊥) → Makes (made_bytes cs) (One (instruction_at (made_out cs eight) 0))
  unfolding encoded
  one-made u =
      let bytes = made_bytes cs in
      let size : length bytes ≡ 8 = whole (length bytes) u (one-instruction cs f) (made-whole cs) in
      let out : made_out cs eight ≡ bytes = (made.done cs eight h z (omega (arith, size)) (omega (arith, size))).1 ∙ ap (λ (n : ℕ). bytes ++ drop n eight) size ∙ append-nil bytes in
      let back : bytes ≡ bytes_of (instruction_at bytes 0) = read.eight bytes 0 (omega (arith, size)) ∙ ap (λ (x : List ℕ). bytes_of (instruction_at bytes 0) ++ x) (drop_of_length-le bytes {i = 8} (omega (arith, size))) in
      record { number = refl; list = ap (λ (x : List ℕ). bytes_of (instruction_at x 0)) out ∙ sym back; items = refl; limit = refl }
    where
      whole : (n : ℕ) → (n ≡ 0 → ⊥) → n ≤ 8 → n % 8 ≡ 0 → n ≡ 8
      whole n u a b = omega arith

  act-made : (t : Named) (m : Modes) (taken : Bool) → Makes (made_bytes cs) (line_act t 0 m taken cs)
  unfolding line_act limited ordered
  act-made t m taken = go (ℕ_discrete (length (made_bytes cs)) 0)
    where
      one : Act
      one = One (instruction_at (made_out cs eight) 0)

      by : (b : Bool) → eqb (length (made_bytes cs)) 0 ≡ b → line_by t cs (word_from cs 0) ≡ cond b Nothing one
      by b e = made-line t cs f z ∙ instruction-is cs f h ∙ simp (eq-eqb (make.number_of (last_of cs).line.phase) 0 z, e)

      go : Dec (length (made_bytes cs) ≡ 0) → Makes (made_bytes cs) (line_act t 0 m taken cs)
      go (yes e) = subst (λ (a : Act). Makes (made_bytes cs) (ordered taken (word_from cs 0).start a)) (sym (by true (eq-eqb (length (made_bytes cs)) 0 e))) (empty-made e)
      go (no u) = subst (λ (a : Act). Makes (made_bytes cs) (ordered taken (word_from cs 0).start a)) (sym (by false (ne_eqb (length (made_bytes cs)) 0 u))) (one-made u)

-- ---- the lines of a text, each with its line feed

joined : List (List ℕ) → List ℕ
joined [] = []
joined (l ∷ ls) = (l ++ (10 ∷ [])) ++ joined ls

lines-joined : (text : List ℕ) → text ++ (10 ∷ []) ≡ joined (lines_of text)
unfolding lines_of onto_first joined
lines-joined [] = refl
lines-joined (c ∷ cs) = go (eqb c 10) refl (lines-joined cs)
  where
    onto : (ls : List (List ℕ)) → cs ++ (10 ∷ []) ≡ joined ls → (c ∷ cs) ++ (10 ∷ []) ≡ joined (onto_first c ls)
    onto [] e = absurd (omega (arith, ap length e, length-append cs (10 ∷ [])))
    onto (l ∷ ls) e = ap (λ (x : List ℕ). c ∷ x) e

    go : (b : Bool) → eqb c 10 ≡ b → cs ++ (10 ∷ []) ≡ joined (lines_of cs) → (c ∷ cs) ++ (10 ∷ []) ≡ joined (cond b ([] ∷ lines_of cs) (onto_first c (lines_of cs)))
    go true e r = ap₂ (λ (x : ℕ) (xs : List ℕ). x ∷ xs) (eqb-true c 10 e) r
    go false e r = onto (lines_of cs) r

-- ---- line by line

-- What is to come out: no refusal, these bytes, and no items.
pub record Comes (bytes : List ℕ) (o : Outcome) : Type 0 where
  pub number : o.number ≡ 0
  pub list : o.state.list ≡ bytes
  pub items : o.state.items ≡ []

-- a new line begins
record Begins (t : Reading) : Type 0 where
  got : Instruction
  start : ℕ
  ready : Bool
  is : t ≡ reading (line Head got) 0 start ready

-- where what follows is not refused
begins : (t : Reading) (at : ℕ) (cs : List ℕ) → Fed t → Numbered t.line → make.number_of (ends t at cs).line.phase ≡ 0 → Begins t
begins t at cs begun n z = record { got = t.line.got; start = t.start; ready = t.ready; is = refl }
begins t at cs (stuck h) n z = absurd (refused-some t.line n h (sym (ap (λ (l : Line). make.number_of l.phase) (stuck-stays cs t at h)) ∙ z))

comes : (ls : List (List ℕ)) (g : Instruction) (start at : ℕ) (r : Bool) (s : State) (n : ℕ) → NoFeeds ls → length (joined ls) ≤ 1048577 → s.limit ≡ 0 → s.items ≡ []
    → make.number_of (ends (reading (line Head g) 0 start r) at (joined ls)).line.phase ≡ 0
    → Comes (s.list ++ emitted (reading (line Head g) 0 start r) at (joined ls)) (folded s n ls)
unfolding folded joined emitted applied made_bytes last_of
comes [] g start at r s n f h l i z = record { number = refl; list = sym (append-nil s.list); items = i }
comes (l ∷ ls) g start at r s n f h e i z =
    let here = reading (line Head g) 0 start r in
    let fed = l ++ (10 ∷ []) in
    let then = behind at fed in
    let left : make.number_of (ends (ends here at fed) then (joined ls)).line.phase ≡ 0 = sym (ap (λ (x : Reading). make.number_of x.line.phase) (ends-append fed (joined ls) here at)) ∙ z in
    let next = begins (ends here at fed) then (joined ls) (line-fed l here at) (ends-numbered g start at r fed) left in
    let alone = read_alike fed here make.begin at 0 head refl in
    let good : make.number_of (last_of l).line.phase ≡ 0 = ap make.number_of (sym (like-phase alone.1) ∙ ap (λ (x : Reading). x.line.phase) next.is) in
    let size = length-append fed (joined ls) in
    let m : Makes (made_bytes l) (act_of s l) =
    subst (λ (limit : ℕ). Makes (made_bytes l) (line_act s.fields limit s.modes s.taken l)) (sym e)
    (act-made l f.0 (omega (arith, h, size, length-append l (10 ∷ []))) good s.fields s.modes s.taken) in
    let rest =
    comes ls next.got next.start then next.ready (applied (act_of s l) s) (n + 1) f.1 (omega (arith, h, size)) (ap (limit_by (act_of s l)) e ∙ m.limit) (ap₂ ◌++◌ i m.items)
    (sym (ap (λ (x : Reading). make.number_of (ends x then (joined ls)).line.phase) next.is) ∙ left) in
    let bytes : s.list ++ emitted here at (fed ++ joined ls) ≡ (s.list ++ list_of (act_of s l)) ++ emitted (reading (line Head next.got) 0 next.start next.ready) then (joined ls) =
    ap (λ (x : List ℕ). s.list ++ x) (emitted-append fed (joined ls) here at ∙ ap₂ (λ (x : List ℕ) (t : Reading). x ++ emitted t then (joined ls)) (alone.0 ∙ sym m.list) next.is)
    ∙ sym (append_assoc s.list (list_of (act_of s l)) (emitted (reading (line Head next.got) 0 next.start next.ready) then (joined ls))) in
    subst (Comes (s.list ++ emitted here at (fed ++ joined ls)))
    (sym (ap (λ (k : ℕ). cond (eqb k 0) (folded (applied (act_of s l) s) (n + 1) ls) (record { number = k; line = n; column = column_of (act_of s l); state = s })) m.number))
    (record { number = rest.number; list = rest.list ∙ sym bytes; items = rest.items })

-- ---- whole texts

-- Of a text of at most 1,048,576 characters whose lines making does not refuse: assembling refuses none of them either, and comes to the same list, with no items.
pub same-list : (text : List ℕ) → length text ≤ 1048576 → make.number_of (last_of text).line.phase ≡ 0 → Comes (made_bytes text) (outcome_of text)
unfolding outcome_of made_bytes last_of
same-list text h z =
    let e = lines-joined text in
    subst (λ (x : List ℕ). Comes (emitted make.begin 0 x) (folded begin 1 (lines_of text))) (sym e)
    (comes (lines_of text) (of_kind 0) 0 0 false begin 1 (lines-fed text) (omega (arith, ap length e, length-append text (10 ∷ []))) refl refl
    (sym (ap (λ (x : List ℕ). make.number_of (ends make.begin 0 x).line.phase) e) ∙ z))

-- What making a text asks of it, where it is done.
record Stands (text out : List ℕ) : Type 0 where
  short : length text ≤ 1048576
  number : make.number_of (last_of text).line.phase ≡ 0
  few : length (made_bytes text) ≤ most_bytes
  room : length (made_bytes text) ≤ length out

stands : (text out : List ℕ) → (made_answer text (length out)).number ≡ 0 → Stands text out
unfolding refused_at
stands text out d = go (dec_le (length text) 1048576) (ℕ_discrete (make.number_of (last_of text).line.phase) 0) (dec_le (length (made_bytes text)) most_bytes) (dec_le (length (made_bytes text)) (length out))
  where
    other : {r : Made} → made_answer text (length out) ≡ r → (r.number ≡ 0 → ⊥) → Stands text out
    other e u = absurd (u (sym (ap (λ (x : Made). x.number) e) ∙ d))

    go : Dec (length text ≤ 1048576) → Dec (make.number_of (last_of text).line.phase ≡ 0) → Dec (length (made_bytes text) ≤ most_bytes) → Dec (length (made_bytes text) ≤ length out) → Stands text out
    go (no a) n f s = other (made.too_long text out (omega arith)).0 (λ z. omega (arith, z))
    go (yes a) (no n) f s = other (made.bad text out a n).0 n
    go (yes a) (yes n) (no f) s = other (made.too_many text out a n (omega arith)).0 (λ z. omega (arith, z))
    go (yes a) (yes n) (yes f) (no s) = other (made.too_short text out a n f (omega arith)).0 (λ z. omega (arith, z))
    go (yes a) (yes n) (yes f) (yes s) = record { short = a; number = n; few = f; room = s }

-- Where making a text is done, assembling it is, with the same list, and with no items.
pub extends : (text out items : List ℕ) → (made_answer text (length out)).number ≡ 0
    → (assembled_answer text (length out) (length items) ≡ answer 0 0 0 (made_answer text (length out)).count 0)
    × (assembled_list text out items ≡ made_out text out)
    × (assembled_items text out items ≡ items)
extends text out items d =
    let s = stands text out d in
    let c = same-list text s.short s.number in
    let m = made.done text out s.short s.number s.few s.room in
    let size : length (made_list text) ≡ length (made_bytes text) = ap length c.list in
    let none : length (made_items text) ≡ 0 = ap length c.items in
    let a =
    done text out items s.short c.number (omega (arith, size, s.few)) (omega (arith, none))
    (simp (le-ltb (length out) (length (made_list text)) (omega (arith, size, s.room)), le-ltb (length items) (length (made_items text)) (omega (arith, none)))) in (
      a.0 ∙ ap₂ (λ (x y : ℕ). answer 0 0 0 x y) (size ∙ sym (ap (λ (x : Made). x.count) m.0)) none,
      a.1 ∙ ap (λ (x : List ℕ). x ++ drop (length x) out) c.list ∙ sym m.1,
      a.2 ∙ ap (λ (x : List ℕ). x ++ drop (length x) items) c.items,
    )
