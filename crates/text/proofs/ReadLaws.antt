-- Text that was shown is read back: characters, words, lines and whole lists. Assumes nothing.
use mathlib.Core.Path.{◌≡◌, refl, sym, subst, ap, ap₂, ◌∙◌}
use mathlib.Core.Bool.{Bool, true, false, cond, not, ◌&&◌, ◌||◌}
use mathlib.Core.List.{List, [], ◌∷◌, ◌++◌, append_assoc}
use Prim.Native.Nat.{ℕ, zero, suc, ◌+◌, ◌*◌, ◌<◌, ◌≤◌}
use native.Mathlib.Omega.{arith}
use lib.Dec.{eqb, ltb}
use lib.ListN.{length, get_or, drop, drop_of_length-le}
use lib.Seq.{drop-cons}
use borrow.Author.Tests.{ne_eqb, ltb-true, eqb-true, not-true}
use Rattle.spelling.specs.Words.{good, goods, extended, extended_by, visible, spelled_in, spelled, plain}
use Rattle.bits.proofs.Rows.{and_left, and_right}
use Rattle.judge.specs.declared.Instruction.{Instruction}
use Rattle.lines.specs.declared.Line.{Line}
use Rattle.lines.specs.declared.Phase.TheVariants.{Head, Comment}
use Rattle.registers.specs.Modes.{none_set}
use Rattle.judge.specs.Instructions.{instruction_at}
use Rattle.judge.specs.Modes.{modes_after}
use Rattle.lines.specs.Alone.{bytes_of}
use Rattle.lines.specs.Worded.{line, worded, sort_of}
use Rattle.lines.proofs.Leads.{Plains, Leads, stop, skip, word, comment, Bytes}
use Rattle.lines.proofs.SaidLaws.{words-lead}
use Rattle.text.specs.declared.Reading.{Reading}
use Rattle.text.specs.Show.{spaced, rest, line_text, shown_at, shown_from}
use Rattle.text.specs.Make.{reading, begin, blank, start_of, ended, closed, character, commented, stepped, brought, emitted, ends, number_of, made_bytes, last_of}

-- From the line l and the word w at its end on, the characters cs bring the bytes bs and are not refused, wherever they stand.
pub record Reads (l : Line) (w : ℕ) (cs bs : List ℕ) : Type 0 where
  pub holds : (start at : ℕ) (r : Bool) → (emitted (reading l w start r) at cs ≡ bs) × (number_of (ends (reading l w start r) at cs).line.phase ≡ 0)

-- Neither refused nor in a comment.
abbrev pub Active : Line → Type 0
Active l = ltb (sort_of l.phase) 3 ≡ true

-- ---- characters

-- one character, and what it makes of the line
step-reads : (l l' : Line) (w w' c : ℕ) (x : Bool) (place : ℕ → ℕ → ℕ) {cs bs : List ℕ} → ((start at : ℕ) (r : Bool) → stepped (reading l w start r) at c ≡ reading l' w' (place start at) x)
    → Reads l' w' cs bs → Reads l w (c ∷ cs) (cond x (bytes_of l'.got) [] ++ bs)
unfolding emitted ends brought
step-reads l l' w w' c x place {cs} {bs} e h = record {
  holds = λ start at r. (
    ap (λ (z : Reading). brought z ++ emitted z (at + 1) cs) (e start at r) ∙ ap (λ (ys : List ℕ). cond x (bytes_of l'.got) [] ++ ys) (h.holds (place start at) (at + 1) x).0,
    ap (λ (z : Reading). number_of (ends z (at + 1) cs).line.phase) (e start at r) ∙ (h.holds (place start at) (at + 1) x).1,
  );
}

-- What a good character is not.
pub record Good (c : ℕ) : Type 0 where
  pub feed : eqb c 10 ≡ false
  pub semicolon : eqb c 59 ≡ false
  pub gap : blank c ≡ false

good-is : (c : ℕ) → good c ≡ true → Good c
good-is c h =
    let low : 32 < c = ltb-true 32 c (and_left (ltb 32 c) (ltb c 127 && not (eqb c 59)) h) in
    let other = not-true (eqb c 59) (and_right (ltb c 127) (not (eqb c 59)) (and_right (ltb 32 c) (ltb c 127 && not (eqb c 59)) h)) in
    let a = ne_eqb c 32 (λ e. omega arith) in
    let b = ne_eqb c 9 (λ e. omega arith) in
    let d = ne_eqb c 13 (λ e. omega arith) in record {
      feed = ne_eqb c 10 (λ e. omega arith);
      semicolon = other;
      gap = ap₂ (λ (x y : Bool). x || (y || eqb c 13)) a b ∙ d;
    }

-- a character of a word
good-step : (l : Line) (w c : ℕ) → Active l → Good c → (start at : ℕ) (r : Bool) → stepped (reading l w start r) at c ≡ reading l (extended w c) (start_of w at start) false
unfolding stepped character
good-step l w c a g start at r = simp (a, g.feed, g.semicolon, g.gap)

good-reads : (l : Line) (w c : ℕ) {cs bs : List ℕ} → Active l → good c ≡ true → Reads l (extended w c) cs bs → Reads l w (c ∷ cs) bs
good-reads l w c a g h = step-reads l l w (extended w c) c false (λ start at. start_of w at start) (good-step l w c a (good-is c g)) h

-- a blank
blank_step : (l : Line) (w : ℕ) → Active l → (start at : ℕ) (r : Bool) → stepped (reading l w start r) at 32 ≡ reading (ended l w) 0 start false
unfolding stepped character
blank_step l w a start at r = simp a

blank-reads : (l : Line) (w : ℕ) {cs bs : List ℕ} → Active l → Reads (ended l w) 0 cs bs → Reads l w (32 ∷ cs) bs
blank-reads l w a h = step-reads l (ended l w) w 0 32 false (λ start at. start) (blank_step l w a) h

-- the end of a line whose instruction is whole
feed-step : (l : Line) (w : ℕ) → Active l → sort_of (ended l w).phase ≡ 2
    → (start at : ℕ) (r : Bool) → stepped (reading l w start r) at 10 ≡ reading (line Head (ended l w).got) 0 at true
unfolding stepped character closed
feed-step l w a h start at r = simp (a, h)

feed-reads : (l : Line) (w : ℕ) {cs bs : List ℕ} → Active l → sort_of (ended l w).phase ≡ 2 → Reads (line Head (ended l w).got) 0 cs bs → Reads l w (10 ∷ cs) (bytes_of (ended l w).got ++ bs)
feed-reads l w a s h = step-reads l (line Head (ended l w).got) w 0 10 true (λ start at. at) (feed-step l w a s) h

semicolon-step : (l : Line) (w : ℕ) → Active l → sort_of (ended l w).phase ≡ 2
    → (start at : ℕ) (r : Bool) → stepped (reading l w start r) at 59 ≡ reading (line Comment (ended l w).got) 0 at true
unfolding stepped character closed
semicolon-step l w a h start at r = simp (a, h)

semicolon-reads : (l : Line) (w : ℕ) {cs bs : List ℕ} → Active l → sort_of (ended l w).phase ≡ 2 → Reads (line Comment (ended l w).got) 0 cs bs
    → Reads l w (59 ∷ cs) (bytes_of (ended l w).got ++ bs)
semicolon-reads l w a s h = step-reads l (line Comment (ended l w).got) w 0 59 true (λ start at. at) (semicolon-step l w a s) h

-- the end of a line with no instruction
empty-step : (g : Instruction) (start at : ℕ) (r : Bool) → stepped (reading (line Head g) 0 start r) at 10 ≡ reading (line Head g) 0 at false
unfolding stepped character closed ended
empty-step g start at r = refl

empty-reads : (g : Instruction) {cs bs : List ℕ} → Reads (line Head g) 0 cs bs → Reads (line Head g) 0 (10 ∷ cs) bs
empty-reads g h = step-reads (line Head g) (line Head g) 0 0 10 false (λ start at. at) (empty-step g) h

-- a comment, and its end
comment-step : (g : Instruction) (c : ℕ) → eqb c 10 ≡ false → (start at : ℕ) (r : Bool) → stepped (reading (line Comment g) 0 start r) at c ≡ reading (line Comment g) 0 start false
unfolding stepped commented
comment-step g c h start at r = simp h

comment-reads : (g : Instruction) (c : ℕ) {cs bs : List ℕ} → eqb c 10 ≡ false → Reads (line Comment g) 0 cs bs → Reads (line Comment g) 0 (c ∷ cs) bs
comment-reads g c e h = step-reads (line Comment g) (line Comment g) 0 0 c false (λ start at. start) (comment-step g c e) h

comment-feed : (g : Instruction) {cs bs : List ℕ} → Reads (line Head g) 0 cs bs → Reads (line Comment g) 0 (10 ∷ cs) bs
unfolding stepped commented
comment-feed g h = step-reads (line Comment g) (line Head g) 0 0 10 false (λ start at. at) (λ start at r. refl) h

-- ---- words

goods-reads : (l : Line) (w : ℕ) (cs : List ℕ) {more bs : List ℕ} → Active l → goods cs ≡ true → Reads l (extended_by w cs) more bs → Reads l w (cs ++ more) bs
unfolding goods extended_by
goods-reads l w [] a g h = h
goods-reads l w (c ∷ cs) a g h = good-reads l w c a (and_left (good c) (goods cs) g) (goods-reads l (extended w c) cs a (and_right (good c) (goods cs) g) h)

-- What a word is that reads back as itself.
record Plain (w : ℕ) : Type 0 where
  some : eqb w 0 ≡ false
  characters : goods (spelled w) ≡ true
  back : extended_by 0 (spelled w) ≡ w

plain-is : (w : ℕ) → plain w ≡ true → Plain w
unfolding plain
plain-is w h =
    let x = not (eqb w 0) in
    let y = goods (spelled w) in
    let z = eqb (extended_by 0 (spelled w)) w in
    let yz = and_right x (y && z) h in record {
      some = not-true (eqb w 0) (and_left x (y && z) h);
      characters = and_left y z yz;
      back = eqb-true (extended_by 0 (spelled w)) w (and_right y z yz);
    }

plain-reads : (l : Line) (w : ℕ) {more bs : List ℕ} → Active l → Plain w → Reads l w more bs → Reads l 0 (spelled w ++ more) bs
plain-reads l w {more} {bs} a p h = goods-reads l 0 (spelled w) a p.characters (subst (λ (v : ℕ). Reads l v more bs) (sym p.back) h)

spaced-is : (w : ℕ) → Plain w → spaced w ≡ 32 ∷ spelled w
unfolding spaced
spaced-is w p = ap (λ (b : Bool). cond b [] (32 ∷ spelled w)) p.some

ended_is : (l : Line) (w : ℕ) → Plain w → ended l w ≡ worded l w
unfolding ended
ended_is l w p = ap (λ (b : Bool). cond b l (worded l w)) p.some

-- ---- lines

goods-comment : (g : Instruction) (cs : List ℕ) {more bs : List ℕ} → goods cs ≡ true → Reads (line Comment g) 0 more bs → Reads (line Comment g) 0 (cs ++ more) bs
unfolding goods
goods-comment g [] h r = r
goods-comment g (c ∷ cs) h r = comment-reads g c (good-is c (and_left (good c) (goods cs) h)).feed (goods-comment g cs (and_right (good c) (goods cs) h) r)

rest-comment : (g : Instruction) (ws : List ℕ) {more bs : List ℕ} → Plains ws → Reads (line Head g) 0 more bs → Reads (line Comment g) 0 (rest ws ++ more) bs
unfolding rest
rest-comment g [] ps h = comment-feed g h
rest-comment g (w ∷ ws) {more} {bs} ps h =
    let p = plain-is w ps.0 in
    subst (λ (cs : List ℕ). Reads (line Comment g) 0 cs bs)
    (sym (ap (λ (x : List ℕ). (x ++ rest ws) ++ more) (spaced-is w p) ∙ ap (λ (x : List ℕ). 32 ∷ x) (append_assoc (spelled w) (rest ws) more)))
    (comment-reads g 32 refl (goods-comment g (spelled w) p.characters (rest-comment g ws ps.1 h)))

-- what follows a line's end, whatever the line was
abbrev pub After : List ℕ → List ℕ → Type 0
After cs bs = (g : Instruction) → Reads (line Head g) 0 cs bs

-- the words behind the one that stands at the line's end
rest-reads : (l m : Line) (w : ℕ) {ws cs bs : List ℕ} {i : Instruction} → Active l → ended l w ≡ m → Leads m ws i → After cs bs → Reads l w (rest ws ++ cs) (bytes_of i ++ bs)
unfolding rest spaced ended visible spelled_in spelled
rest-reads l m w {cs = cs} {bs = bs} {i = i} a e (stop h q) next =
    subst (λ (j : Instruction). Reads l w (10 ∷ cs) (bytes_of j ++ bs)) (ap (λ (x : Line). x.got) e ∙ q)
    (feed-reads l w a (ap (λ (x : Line). sort_of x.phase) e ∙ h) (next (ended l w).got))
rest-reads l m w {cs = cs} {bs = bs} {i = i} a e (skip {w = v} {ws = ws} z r) next =
    subst (λ (x : ℕ). Reads l w ((spaced x ++ rest ws) ++ cs) (bytes_of i ++ bs)) (sym z) (rest-reads l m w a e r next)
rest-reads l m w {cs = cs} {bs = bs} {i = i} a e (word {w = v} {ws = ws} m' act p q r) next =
    let pl = plain-is v p in
    subst (λ (xs : List ℕ). Reads l w xs (bytes_of i ++ bs))
    (sym (ap (λ (x : List ℕ). (x ++ rest ws) ++ cs) (spaced-is v pl) ∙ ap (λ (x : List ℕ). 32 ∷ x) (append_assoc (spelled v) (rest ws) cs)))
    (blank-reads l w a (subst (λ (x : Line). Reads x 0 (spelled v ++ (rest ws ++ cs)) (bytes_of i ++ bs)) (sym e)
    (plain-reads m v act pl (rest-reads m m' v act (ended_is m v pl ∙ q) r next))))
rest-reads l m w {cs = cs} {bs = bs} {i = i} a e (comment {w = v} {ws = ws} z h q ps) next =
    subst (λ (x : ℕ). Reads l w ((spaced x ++ rest ws) ++ cs) (bytes_of i ++ bs)) (sym z)
    (blank-reads l w a (subst (λ (x : Line). Reads x 0 (59 ∷ (rest ws ++ cs)) (bytes_of i ++ bs)) (sym e)
    (subst (λ (j : Instruction). Reads m 0 (59 ∷ (rest ws ++ cs)) (bytes_of j ++ bs)) q
    (semicolon-reads m 0 (ap (λ (x : ℕ). ltb x 3) h) h (rest-comment m.got ws ps (next m.got))))))

-- a whole line
line_reads : (l : Line) {ws cs bs : List ℕ} {i : Instruction} → Active l → Leads l ws i → After cs bs → Reads l 0 (line_text ws ++ cs) (bytes_of i ++ bs)
unfolding line_text rest spaced ended visible spelled_in spelled
line_reads l {cs = cs} {bs = bs} a (stop h q) next = rest-reads l l 0 a refl (stop h q) next
line_reads l {cs = cs} {bs = bs} {i = i} a (skip {ws = ws} z r) next =
    subst (λ (x : ℕ). Reads l 0 ((spelled x ++ rest ws) ++ cs) (bytes_of i ++ bs)) (sym z) (rest-reads l l 0 a refl r next)
line_reads l {cs = cs} {bs = bs} {i = i} a (word {w = v} {ws = ws} m act p q r) next =
    let pl = plain-is v p in
    subst (λ (xs : List ℕ). Reads l 0 xs (bytes_of i ++ bs)) (sym (append_assoc (spelled v) (rest ws) cs))
    (plain-reads l v a pl (rest-reads l m v a (ended_is l v pl ∙ q) r next))
line_reads l {cs = cs} {bs = bs} {i = i} a (comment {ws = ws} z h q ps) next =
    subst (λ (x : ℕ). Reads l 0 ((spelled x ++ rest ws) ++ cs) (bytes_of i ++ bs)) (sym z)
    (subst (λ (j : Instruction). Reads l 0 (59 ∷ (rest ws ++ cs)) (bytes_of j ++ bs)) q
    (semicolon-reads l 0 a h (rest-comment l.got ws ps (next l.got))))

-- ---- lists

-- The bytes of the n instructions from number k on.
bytes_from : List ℕ → ℕ → ℕ → List ℕ
bytes_from list k zero = []
bytes_from list k (suc n) = bytes_of (instruction_at list k) ++ bytes_from list (suc k) n

-- Each element is a byte.
abbrev pub AllBytes : List ℕ → Type 0
AllBytes list = (j : ℕ) → get_or list j 0 < 256

instruction-bytes : (list : List ℕ) (k : ℕ) → AllBytes list → Bytes (instruction_at list k)
unfolding instruction_at
instruction-bytes list k h = record {
  kind = h (8 * k);
  source = h (8 * k + 1);
  tag = h (8 * k + 2);
  mode = h (8 * k + 3);
  addr = h (8 * k + 4);
  flip = h (8 * k + 5);
  code = h (8 * k + 6);
  logic = h (8 * k + 7);
}

end_reads : (g : Instruction) → Reads (line Head g) 0 [] []
unfolding emitted ends
end_reads g = record { holds = λ start at r. (refl, refl) }

list-reads : (list : List ℕ) (n k : ℕ) → AllBytes list → After (shown_from list k n ++ (10 ∷ [])) (bytes_from list k n)
unfolding shown_from bytes_from
list-reads list zero k h g = empty-reads g (end_reads g)
list-reads list (suc n) k h g =
    let t = shown_at list k in
    subst (λ (xs : List ℕ). Reads (line Head g) 0 xs (bytes_of (instruction_at list k) ++ bytes_from list (suc k) n)) (sym (append_assoc t (shown_from list (suc k) n) (10 ∷ [])))
    (line_reads (line Head g) refl (words-lead (modes_after list none_set k) g (instruction_at list k) (instruction-bytes list k h)) (list-reads list n (suc k) h))

-- eight bytes of a list are an instruction's
pub eight : (list : List ℕ) (k : ℕ) → 8 * k + 8 ≤ length list → drop (8 * k) list ≡ bytes_of (instruction_at list k) ++ drop (8 * suc k) list
unfolding instruction_at
eight list k h =
    let at : (j : ℕ) → j < 8 → drop (8 * k + j) list ≡ get_or list (8 * k + j) 0 ∷ drop (8 * k + (j + 1)) list = λ j q. more (8 * k + j) (8 * k + (j + 1)) (omega arith) (omega arith) in
    more (8 * k) (8 * k + 1) (omega arith) (omega arith)
    ∙ ap (λ (x : List ℕ). get_or list (8 * k) 0 ∷ x) (at 1 (omega arith)
    ∙ ap (λ (x : List ℕ). get_or list (8 * k + 1) 0 ∷ x) (at 2 (omega arith)
    ∙ ap (λ (x : List ℕ). get_or list (8 * k + 2) 0 ∷ x) (at 3 (omega arith)
    ∙ ap (λ (x : List ℕ). get_or list (8 * k + 3) 0 ∷ x) (at 4 (omega arith)
    ∙ ap (λ (x : List ℕ). get_or list (8 * k + 4) 0 ∷ x) (at 5 (omega arith)
    ∙ ap (λ (x : List ℕ). get_or list (8 * k + 5) 0 ∷ x) (at 6 (omega arith)
    ∙ ap (λ (x : List ℕ). get_or list (8 * k + 6) 0 ∷ x) (more (8 * k + 7) (8 * suc k) (omega arith) (omega arith))))))))
  where
    more : (a b : ℕ) → b ≡ suc a → a < length list → drop a list ≡ get_or list a 0 ∷ drop b list
    more a b e q = drop-cons list a 0 q ∙ ap (λ (x : ℕ). get_or list a 0 ∷ drop x list) (sym e)

bytes_back : (list : List ℕ) (n k : ℕ) → length list ≡ 8 * k + 8 * n → bytes_from list k n ≡ drop (8 * k) list
unfolding bytes_from
bytes_back list zero k h = sym (drop_of_length-le list {i = 8 * k} (omega arith))
bytes_back list (suc n) k h = ap (λ (x : List ℕ). bytes_of (instruction_at list k) ++ x) (bytes_back list n (suc k) (omega arith)) ∙ sym (eight list k (omega arith))

-- Every list of whole instructions, whatever its bytes, is made again from its text.
pub round_trip : (list : List ℕ) (n : ℕ) → length list ≡ 8 * n → AllBytes list
    → (made_bytes (shown_from list 0 n) ≡ list) × (number_of (last_of (shown_from list 0 n)).line.phase ≡ 0)
unfolding made_bytes last_of
round_trip list n h b =
    let r = (list-reads list n 0 b begin.line.got).holds 0 0 false in
    (r.0 ∙ bytes_back list n 0 (omega arith), r.1)
