-- The promise of specs/Limits: under a limit no store of a text's list reaches over it. Assumes nothing.
use mathlib.Core.Path.{◌≡◌, refl, sym, ap, subst, ◌∙◌}
use mathlib.Core.Bool.{Bool, true, false, cond, not, ◌&&◌, ◌||◌}
use mathlib.Core.List.{List, [], ◌∷◌, ◌++◌, append-nil}
use Prim.Native.Nat.{ℕ, ◌+◌, ◌*◌, ◌<◌, ◌≤◌}
use native.Mathlib.Decide.{ℕ_discrete}
use native.Mathlib.Omega.{arith}
use lib.Dec.{eqb, ltb, leb}
use lib.ListN.{length}
use borrow.Author.Tests.{eqb-true, eq-eqb, ne_eqb, ltb-false, leb-true}
use Rattle.bits.specs.Search.{index_of}
use Rattle.bits.proofs.Rows.{taken, or-none, and_none, and_left, and_right, number-none, row-off}
use Rattle.registers.specs.declared.Modes.{Modes}
use Rattle.registers.specs.Modes.{none_set}
use Rattle.judge.specs.declared.Instruction.{Instruction}
use Rattle.judge.specs.Instructions.{stores}
use Rattle.judge.specs.Modes.{mode_of, unset}
use Rattle.judge.specs.Judge.{fault_of}
use Rattle.builders.specs.Lists.{encoded}
use Rattle.reach.specs.Reach.{reach_of, reach_by, reach_at}
use Rattle.spelling.specs.Words.{number}
use Rattle.text.specs.Make.{made_answer}
use Rattle.assembly.specs.declared.Word.{Word}
use Rattle.assembly.specs.Act.{Act, Nothing, Refused, Field, Limit, One, Sum, Search, Greatest}
use Rattle.assembly.specs.Words.{word_from, part, same_characters}
use Rattle.assembly.specs.Fields.{Named, named}
use Rattle.assembly.specs.Acts.{number_of, list_of, limit_by, modes_by_act, over_by, limited}
use Rattle.assembly.specs.Statements.{statements, difference, count_rows, count_fault, refused_or, field_line, sum_line, search_line, greatest_line, reach_line, instruction_line, line_by, line_act}
use Rattle.assembly.specs.Assembly.{State, begin, applied, act_of, Outcome, folded, outcome_of, made_list}
use Rattle.assembly.specs.Limits.{limit_of, limits_to, Kept}
use Rattle.assembly.proofs.ActLaws.{ordered-first, line-passed}
use Rattle.assembly.proofs.FoldLaws.{step-on, step-stands}
use Rattle.assembly.proofs.AnswerLaws.{stands}
use Rattle.assembly.proofs.SoundLaws.{chosen}
use Rattle.assembly.proofs.ReachLaws.{Within, within_none, within-one, within_more, sum-mild, search-mild, greatest-mild}

-- ---- which lines set a limit: it does not hang on the fields

-- no limit, or one of at least a word
abbrev Free : Act → Type 0
Free act = (limit : ℕ) → limit_by act limit ≡ limit

or-free : (fault : ℕ) (w : Word) (act : Act) → Free act → Free (refused_or fault w act)
unfolding refused_or
or-free fault w act h = chosen Free act (Refused fault (w.start + 1)) (eqb fault 0) (λ e. h) (λ e l. refl)

module _ (t : Named) (line : List ℕ) (at : ℕ) where
  field-free : Free (field_line t line at)
  unfolding field_line
  field-free = or-free _ _ _ (or-free _ _ _ (or-free _ _ _ (or-free _ _ _ (λ l. refl))))

  sum-free : (d : Bool) → Free (sum_line d t line at)
  unfolding sum_line
  sum-free d = or-free _ _ _ (or-free _ _ _ (or-free _ _ _ (or-free _ _ _ (or-free _ _ _ (λ l. refl)))))

  search-free : (d : Bool) → Free (search_line d t line at)
  unfolding search_line
  search-free d = or-free _ _ _ (or-free _ _ _ (or-free _ _ _ (λ l. refl)))

  greatest-free : Free (greatest_line t line at)
  unfolding greatest_line
  greatest-free = or-free _ _ _ (or-free _ _ _ (λ l. refl))

instruction-free : (line : List ℕ) → Free (instruction_line line)
unfolding instruction_line
instruction-free line =
    chosen Free _ (Refused (made_answer line 8).number (made_answer line 8).column) (eqb (made_answer line 8).number 0)
    (λ e. chosen Free Nothing (One _) (eqb (made_answer line 8).count 0) (λ f l. refl) (λ f l. refl)) (λ e l. refl)

-- a limit is at least one word
abbrev Counted : Act → Type 0
Counted Nothing = Unit {0}
Counted (Refused n k) = Unit {0}
Counted (Field w a n) = Unit {0}
Counted (Limit n) = 0 < n
Counted (One i) = Unit {0}
Counted (Sum d a b s n) = Unit {0}
Counted (Search l a n v) = Unit {0}
Counted (Greatest a n) = Unit {0}

free-counted : (act : Act) → Free act → Counted act
free-counted Nothing f = tt
free-counted (Refused n k) f = tt
free-counted (Field w a n) f = tt
free-counted (Limit n) f =
    let x : n ≡ 0 = f 0 in
    let y : n ≡ 1 = f 1 in
    absurd (omega arith)
free-counted (One i) f = tt
free-counted (Sum d a b s n) f = tt
free-counted (Search l a n v) f = tt
free-counted (Greatest a n) f = tt

or-counted : (fault : ℕ) (w : Word) (act : Act) → (fault ≡ 0 → Counted act) → Counted (refused_or fault w act)
unfolding refused_or
or-counted fault w act h = chosen Counted act (Refused fault (w.start + 1)) (eqb fault 0) (λ e. h (eqb-true fault 0 e)) (λ e. tt)

count-some : (w : ℕ) → count_fault w ≡ 0 → 0 < number w
unfolding count_fault
count-some w e =
    let off = row-off (count_rows w) (number-none (count_rows w) refl e) 64 in
    ltb-false (number w) 1 (or-none (ltb (number w) 1) (ltb 256 (number w)) off).0

reach-counted : (line : List ℕ) (at : ℕ) → Counted (reach_line line at)
unfolding reach_line
reach-counted line at =
    or-counted _ _ _ (λ a. or-counted _ _ _ (λ b. or-counted _ _ _ (λ c. or-counted _ _ _ (λ d. or-counted _ _ _ (λ e. count-some _ c)))))

by-counted : (t : Named) (line : List ℕ) (w : Word) → Counted (line_by t line w)
unfolding line_by
by-counted t line w =
    let k = index_of w.word statements in
    let at = w.next in
    chosen Counted _ _ (same_characters (part line w.start at) difference) (λ e. free-counted (sum_line true t line at) (sum-free t line at true))
    (λ e. chosen Counted _ _ (eqb k 0) (λ e. free-counted (field_line t line at) (field-free t line at))
    (λ e. chosen Counted _ _ (eqb k 1) (λ e. free-counted (sum_line false t line at) (sum-free t line at false))
    (λ e. chosen Counted _ _ (eqb k 2) (λ e. free-counted (search_line false t line at) (search-free t line at false))
    (λ e. chosen Counted _ _ (eqb k 3) (λ e. free-counted (search_line true t line at) (search-free t line at true))
    (λ e. chosen Counted _ _ (eqb k 4) (λ e. free-counted (greatest_line t line at) (greatest-free t line at))
    (λ e. chosen Counted _ _ (eqb k 5) (λ e. reach-counted line at)
    (λ e. free-counted (instruction_line line) (instruction-free line))))))))

both : (b : Bool) (x y x' y' : Act) → limit_by x 0 ≡ limit_by x' 0 → limit_by y 0 ≡ limit_by y' 0 → limit_by (cond b x y) 0 ≡ limit_by (cond b x' y') 0
both true x y x' y' p q = p
both false x y x' y' p q = q

by-same : (t u : Named) (line : List ℕ) (w : Word) → limit_by (line_by t line w) 0 ≡ limit_by (line_by u line w) 0
unfolding line_by
by-same t u line w =
    let k = index_of w.word statements in
    let at = w.next in
    both (same_characters (part line w.start at) difference) _ _ _ _ (sum-free t line at true 0 ∙ sym (sum-free u line at true 0))
    (both (eqb k 0) _ _ _ _ (field-free t line at 0 ∙ sym (field-free u line at 0))
    (both (eqb k 1) _ _ _ _ (sum-free t line at false 0 ∙ sym (sum-free u line at false 0))
    (both (eqb k 2) _ _ _ _ (search-free t line at false 0 ∙ sym (search-free u line at false 0))
    (both (eqb k 3) _ _ _ _ (search-free t line at true 0 ∙ sym (search-free u line at true 0))
    (both (eqb k 4) _ _ _ _ (greatest-free t line at 0 ∙ sym (greatest-free u line at 0))
    (both (eqb k 5) _ _ _ _ refl refl))))))

-- the limit behind a line: its own, or the one before it
says : (act : Act) → Counted act → (limit : ℕ) → limit_by act limit ≡ cond (eqb (limit_by act 0) 0) limit (limit_by act 0)
says Nothing c limit = refl
says (Refused n k) c limit = refl
says (Field w a n) c limit = refl
says (Limit n) c limit = ap (λ (b : Bool). cond b limit n) (sym (ne_eqb n 0 (λ e. omega arith)))
says (One i) c limit = refl
says (Sum d a b s n) c limit = refl
says (Search l a n v) c limit = refl
says (Greatest a n) c limit = refl

-- a line that sets a limit brings nothing else
record Bare (act : Act) : Type 0 where
  number : number_of act ≡ 0
  list : list_of act ≡ []
  modes : (m : Modes) → modes_by_act act m ≡ m

bare : (act : Act) → 0 < limit_by act 0 → Bare act
bare Nothing h = absurd (omega arith)
bare (Refused n k) h = absurd (omega arith)
bare (Field w a n) h = absurd (omega arith)
bare (Limit n) h = record { number = refl; list = refl; modes = λ m. refl }
bare (One i) h = absurd (omega arith)
bare (Sum d a b s n) h = absurd (omega arith)
bare (Search l a n v) h = absurd (omega arith)
bare (Greatest a n) h = absurd (omega arith)

-- ---- one line under a limit

one-low : (n limit : ℕ) (m : Modes) (i : Instruction) → limit ≤ n → (stores i && (unset m i || ltb limit (reach_of (mode_of m i)))) ≡ false → reach_by m i ≤ n
unfolding reach_by
one-low n limit m i h e = go (stores i) refl
  where
    go : (b : Bool) → stores i ≡ b → cond (stores i && eqb (fault_of m i).number 0) (reach_of (mode_of m i)) 0 ≤ n
    go true s =
        let r = (or-none (unset m i) (ltb limit (reach_of (mode_of m i))) (and_none (stores i) _ e s)).1 in
        taken (λ (x : ℕ). x ≤ n) (reach_of (mode_of m i)) 0 (stores i && eqb (fault_of m i).number 0) (omega (arith, ltb-false limit (reach_of (mode_of m i)) r)) (omega arith)
    go false s =
        let z : cond (stores i && eqb (fault_of m i).number 0) (reach_of (mode_of m i)) 0 ≡ 0 = simp s in
        omega (arith, z)

act-within : (n limit : ℕ) (list : List ℕ) (m : Modes) (act : Act) → limit ≤ n → over_by limit m act ≡ false → Within n list m → Within n (list ++ list_of act) (modes_by_act act m)
unfolding encoded
act-within n limit list m Nothing h e w = subst (λ (x : List ℕ). Within n x m) (sym (append-nil list)) w
act-within n limit list m (Refused x k) h e w = subst (λ (x : List ℕ). Within n x m) (sym (append-nil list)) w
act-within n limit list m (Field x a k) h e w = subst (λ (x : List ℕ). Within n x m) (sym (append-nil list)) w
act-within n limit list m (Limit x) h e w = subst (λ (x : List ℕ). Within n x m) (sym (append-nil list)) w
act-within n limit list m (One i) h e w = within-one n list m i w (one-low n limit m i h e)
act-within n limit list m (Sum d a b s k) h e w = within_more n list m _ w (sum-mild n d a b s k (omega (arith, ltb-false limit 256 e)))
act-within n limit list m (Search l a k v) h e w = within_more n list m _ w (search-mild n l a k)
act-within n limit list m (Greatest a k) h e w = within_more n list m _ w (greatest-mild n a k)

-- ---- the lines under a limit

-- A state under a limit of at most n words, whose list keeps it.
record Under (n : ℕ) (s : State) : Type 0 where
  some : 0 < s.limit
  most : s.limit ≤ n
  within : Within n s.list s.modes

under-line : (n : ℕ) (s : State) (l : List ℕ) → Under n s → limit_of l ≤ n → number_of (act_of s l) ≡ 0 → Under n (applied (act_of s l) s)
unfolding applied line_act limit_of
under-line n s l u h z =
    let w = word_from l 0 in
    let a = line_by s.fields l w in
    let p = line-passed s.fields s.limit s.modes s.taken l z in
    let over = and_none (not (eqb s.limit 0)) (over_by s.limit s.modes a) p.low (ap not (ne_eqb s.limit 0 (λ q. omega (arith, q, u.some)))) in
    let k = by-same s.fields (named [] [] []) l w in
    let e : limit_by (act_of s l) s.limit ≡ cond (eqb (limit_by a 0) 0) s.limit (limit_by a 0) = ap (λ (x : Act). limit_by x s.limit) p.act ∙ says a (by-counted s.fields l w) s.limit in
    let q = pick s.limit (limit_by a 0) n u.some u.most (omega (arith, k, h)) in
    record {
      some = omega (arith, e, q.0);
      most = omega (arith, e, q.1);
      within = subst (λ (x : Act). Within n (s.list ++ list_of x) (modes_by_act x s.modes)) (sym p.act) (act-within n s.limit s.list s.modes a u.most over u.within);
    }
  where
    pick : (limit k n : ℕ) → 0 < limit → limit ≤ n → k ≤ n → (0 < cond (eqb k 0) limit k) × (cond (eqb k 0) limit k ≤ n)
    pick limit k n x y z = go (ℕ_discrete k 0)
      where
        go : Dec (k ≡ 0) → (0 < cond (eqb k 0) limit k) × (cond (eqb k 0) limit k ≤ n)
        go (yes e) =
            let q : cond (eqb k 0) limit k ≡ limit = ap (λ (b : Bool). cond b limit k) (eq-eqb k 0 e) in
            (omega (arith, q, x), omega (arith, q, y))
        go (no v) =
            let q : cond (eqb k 0) limit k ≡ k = ap (λ (b : Bool). cond b limit k) (ne_eqb k 0 v) in
            (omega (arith, q), omega (arith, q, z))

under-lines : (n : ℕ) (ls : List (List ℕ)) (s : State) (row : ℕ) → Under n s → limits_to n ls ≡ true → (folded s row ls).number ≡ 0
    → Within n (folded s row ls).state.list (folded s row ls).state.modes
unfolding folded
under-lines n [] s row u t z = u.within
under-lines n (l ∷ ls) s row u t z =
    let h = step-stands s row l ls z in
    let e : folded s row (l ∷ ls) ≡ folded (applied (act_of s l) s) (row + 1) ls = step-on s row l ls refl h in
    let low = leb-true (limit_of l) n (and_left (leb (limit_of l) n) (limits_to n ls) t) in
    subst (λ (o : Outcome). Within n o.state.list o.state.modes) (sym e)
    (under-lines n ls (applied (act_of s l) s) (row + 1) (under-line n s l u low h) (and_right (leb (limit_of l) n) (limits_to n ls) t) (sym (ap (λ (o : Outcome). o.number) e) ∙ z))

-- ---- whole texts

-- the first line, where there is no limit yet
front : (first : List ℕ) (ls : List (List ℕ)) → number_of (line_by (named [] [] []) first (word_from first 0)) ≡ 0
    → folded begin 1 (first ∷ ls) ≡ folded (applied (line_by (named [] [] []) first (word_from first 0)) begin) 2 ls
unfolding line_act limited
front first ls z = step-on begin 1 first ls (ordered-first (word_from first 0).start (line_by (named [] [] []) first (word_from first 0))) z

pub reach-kept : (text : List ℕ) (n : ℕ) → Kept text n
unfolding outcome_of limit_of applied line_act limited
reach-kept text n = record {
  each = λ first ls room room_items split limit some rest z j h.
      let a = line_by (named [] [] []) first (word_from first 0) in
      let b = bare a (omega (arith, limit)) in
      let s = applied a begin in
      let whole : outcome_of text ≡ folded s 2 ls = ap (folded begin 1) split ∙ front first ls b.number in
      let under : Under n s =
      record {
        some = omega (arith, limit);
        most = omega (arith, limit);
        within = subst (λ (x : List ℕ). Within n x (modes_by_act a none_set)) (sym b.list) (subst (Within n []) (sym (b.modes none_set)) (within_none n));
      } in
      let w = under-lines n ls s 2 under rest (ap (λ (o : Outcome). o.number) (sym whole) ∙ stands text room room_items z) in
      let e = ap (λ (o : Outcome). o.state.list) whole in
      let size : length (made_list text) ≡ 8 * w.count = ap length e ∙ w.size in
      subst (λ (l : List ℕ). reach_at none_set l j ≤ n) (sym e) (w.each j (omega (arith, size, h)));
}
