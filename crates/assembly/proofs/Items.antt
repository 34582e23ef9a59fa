-- The promise of specs/Items: each search of a text takes its own items, and every other instruction that takes one takes it behind them. Assumes nothing.
use mathlib.Core.Path.{◌≡◌, refl, sym, ap, ap₂, subst, ◌∙◌}
use mathlib.Core.Bool.{Bool, true, false, cond, ◌&&◌, ◌||◌, true≢false}
use mathlib.Core.List.{List, [], ◌∷◌, ◌++◌, append_assoc, append-nil}
use Prim.Native.Nat.{ℕ, suc, ◌+◌, ◌-◌, ◌*◌, ◌<◌, ◌≤◌}
use native.Mathlib.Omega.{arith}
use lib.Dec.{eqb}
use lib.ListN.{length, take, drop, length-append}
use lib.Seq.{drop-append-add}
use Rattle.bits.specs.Bits.{digit, item}
use Rattle.bits.proofs.Rows.{taken, or-none}
use Rattle.judge.specs.declared.Instruction.{Instruction}
use Rattle.judge.specs.Instructions.{instruction_at, takes}
use Rattle.builders.specs.Lists.{bytes_of, encoded, rounds, take_y}
use Rattle.builders.specs.Sums.{sum_byte, difference_byte, bit_round, sum_list, difference_list}
use Rattle.builders.specs.Searches.{differs, decided, started, move_x, search_round, search_rounds, search_list, number_items, or_flipped, without, unmark, greatest_round, greatest_list}
use Rattle.builders.specs.Word.{taken_by}
use Rattle.builders.proofs.ListLaws.{length-encoded, encoded-append, rounds-apart, later, decoded-encoded, length-search-rounds, number-length, items_at}
use Rattle.builders.proofs.Takes.{taken-append, taken-rounds, taken-decoded}
use Rattle.assembly.specs.Act.{Act, Nothing, Refused, Field, Limit, One, Sum, Search, Greatest}
use Rattle.assembly.specs.Acts.{number_of, column_of, list_of, items_of, taken_by_act, searches}
use Rattle.assembly.specs.Assembly.{State, begin, applied, act_of, Outcome, folded, outcome_of, made_list, made_items}
use Rattle.assembly.specs.Items.{taken_before, item_at, LineOf, state_after, place_after, InStep}
use Rattle.assembly.proofs.ActLaws.{line-passed}
use Rattle.assembly.proofs.FoldLaws.{step-on, step-stands, lines-apart, grown}
use Rattle.assembly.proofs.AnswerLaws.{stands}

-- ---- how many items each line's instructions take

-- The instructions of a line.
abbrev instructions_of : Act → List Instruction
instructions_of Nothing = []
instructions_of (Refused n k) = []
instructions_of (Field w a n) = []
instructions_of (Limit n) = []
instructions_of (One i) = i ∷ []
instructions_of (Sum d a b s n) = cond d (difference_list a b s n) (sum_list a b s n)
instructions_of (Search l a n v) = search_list l a n
instructions_of (Greatest a n) = greatest_list a n

list-as : (act : Act) → list_of act ≡ encoded (instructions_of act)
unfolding encoded
list-as Nothing = refl
list-as (Refused n k) = refl
list-as (Field w a n) = refl
list-as (Limit n) = refl
list-as (One i) = refl
list-as (Sum d a b s n) = refl
list-as (Search l a n v) = refl
list-as (Greatest a n) = refl

sum-takes : (d : Bool) (a b s n : ℕ) → taken_by (cond d (difference_list a b s n) (sum_list a b s n)) ≡ 0
unfolding taken_by
sum-takes true a b s n = omega (arith, taken-rounds (λ k. bit_round difference_byte (a + k) (b + k) (s + k)) 0 n (λ k. refl))
sum-takes false a b s n = omega (arith, taken-rounds (λ k. bit_round sum_byte (a + k) (b + k) (s + k)) 0 n (λ k. refl))

-- the start of a search, and its first k rounds
rounds-take : (l : Bool) (a k : ℕ) → taken_by (started l ∷ search_rounds l a k) ≡ k
unfolding taken_by
rounds-take true a k = omega (arith, taken-rounds (λ j. search_round true (a + j)) 1 k (λ j. refl))
rounds-take false a k = omega (arith, taken-rounds (λ j. search_round false (a + j)) 1 k (λ j. refl))

search-takes : (l : Bool) (a n : ℕ) → taken_by (search_list l a n) ≡ n
unfolding taken_by
search-takes l a n = taken-append (started l ∷ search_rounds l a n) (move_x ∷ []) ∙ omega (arith, rounds-take l a n)

greatest-takes : (a n : ℕ) → taken_by (greatest_list a n) ≡ 0
unfolding taken_by
greatest-takes a n = omega (arith, taken-rounds (λ k. greatest_round (a + (n - suc k))) 0 n (λ k. none (a + (n - suc k))))
  where
    none : (g : ℕ) → taken_by (greatest_round g) ≡ 0
    none g = omega (arith, taken-append (rounds or_flipped 8) (without g ∷ unmark ∷ []), taken-rounds or_flipped 0 8 (λ e. refl))

-- ---- the lines so far

-- The list is that of some instructions, which take as many items as the text brings, and more only where one of the text's own takes some.
record Stepped (s : State) : Type 0 where
  made : List Instruction
  list : s.list ≡ encoded made
  most : length s.items ≤ 32 * taken_by made
  just : s.taken ≡ false → 32 * taken_by made ≡ length s.items

stepped-begin : Stepped begin
unfolding encoded taken_by
stepped-begin = record { made = []; list = refl; most = omega arith; just = λ e. refl }

-- what a line's instructions take, beside what it brings
brings : (act : Act) → length (items_of act) ≤ 32 * taken_by (instructions_of act)
unfolding taken_by
brings Nothing = omega arith
brings (Refused n k) = omega arith
brings (Field w a n) = omega arith
brings (Limit n) = omega arith
brings (One i) = omega arith
brings (Sum d a b s n) = omega arith
brings (Search l a n v) = omega (arith, search-takes l a n, number-length v n)
brings (Greatest a n) = omega arith

-- none of the text's own takes one so far, so none did before, and this line brings all that it takes
brings-just : (act : Act) (t : Bool) → taken_by_act act t ≡ false → (t ≡ false) × (32 * taken_by (instructions_of act) ≡ length (items_of act))
unfolding taken_by
brings-just Nothing t e = (e, refl)
brings-just (Refused n k) t e = (e, refl)
brings-just (Field w a n) t e = (e, refl)
brings-just (Limit n) t e = (e, refl)
brings-just (One i) t e =
    let both = or-none t (takes i) e in
    (both.0, ap (λ (b : Bool). 32 * (cond b 1 0 + 0)) both.1)
brings-just (Sum d a b s n) t e = (e, omega (arith, sum-takes d a b s n))
brings-just (Search l a n v) t e = (e, omega (arith, search-takes l a n, number-length v n))
brings-just (Greatest a n) t e = (e, omega (arith, greatest-takes a n))

stepped_by : (act : Act) (s : State) → Stepped s → Stepped (applied act s)
unfolding applied
stepped_by act s p =
    let more = instructions_of act in
    let sum = taken-append p.made more in
    let size = length-append s.items (items_of act) in
    record {
      made = p.made ++ more;
      list = ap₂ (λ (x y : List ℕ). x ++ y) p.list (list-as act) ∙ sym (encoded-append p.made more);
      most = omega (arith, p.most, brings act, sum, size);
      just = λ e.
          let q = brings-just act s.taken e in
          omega (arith, p.just q.0, q.1, sum, size);
    }

stepped-lines : (ls : List (List ℕ)) (s : State) (row : ℕ) → Stepped s → Stepped (folded s row ls).state
unfolding folded
stepped-lines [] s row p = p
stepped-lines (l ∷ ls) s row p =
    taken (λ (o : Outcome). Stepped o.state) (folded (applied (act_of s l) s) (row + 1) ls)
    (record { number = number_of (act_of s l); line = row; column = column_of (act_of s l); state = s }) (eqb (number_of (act_of s l)) 0)
    (stepped-lines ls (applied (act_of s l) s) (row + 1) (stepped_by (act_of s l) s p)) p

-- ---- lines that stand

-- a search stands where none of the text's own takes an item
in_order : (s : State) (l : List ℕ) → number_of (act_of s l) ≡ 0 → (searches (act_of s l) && s.taken) ≡ false
in_order s l z =
    let p = line-passed s.fields s.limit s.modes s.taken l z in
    subst (λ (x : Act). (searches x && s.taken) ≡ false) (sym p.act) p.order

-- where one does, no line brings an item
still : (act : Act) (t : Bool) → (searches act && t) ≡ false → t ≡ true → (items_of act ≡ []) × (taken_by_act act t ≡ true)
still Nothing t e h = (refl, h)
still (Refused n k) t e h = (refl, h)
still (Field w a n) t e h = (refl, h)
still (Limit n) t e h = (refl, h)
still (One i) t e h = (refl, ap (λ (b : Bool). b || takes i) h)
still (Sum d a b s n) t e h = (refl, h)
still (Search l a n v) t e h = absurd (true≢false (sym h ∙ e))
still (Greatest a n) t e h = (refl, h)

items-still : (ls : List (List ℕ)) (s : State) (row : ℕ) → s.taken ≡ true → (folded s row ls).number ≡ 0 → (folded s row ls).state.items ≡ s.items
unfolding folded applied
items-still [] s row t z = refl
items-still (l ∷ ls) s row t z =
    let h = step-stands s row l ls z in
    let next = applied (act_of s l) s in
    let e : folded s row (l ∷ ls) ≡ folded next (row + 1) ls = step-on s row l ls refl h in
    let q = still (act_of s l) s.taken (in_order s l h) t in
    ap (λ (o : Outcome). o.state.items) e
    ∙ items-still ls next (row + 1) q.1 (sym (ap (λ (o : Outcome). o.number) e) ∙ z)
    ∙ ap (λ (x : List ℕ). s.items ++ x) q.0
    ∙ append-nil s.items

-- ---- instructions in a list's bytes

-- how many are taken by those in front, and the one behind them
front-taken : (l : List Instruction) (r : List ℕ) → taken_before (encoded l ++ r) (length l) ≡ taken_by l
front-taken l r = sym (taken-decoded (encoded l ++ r) (length l)) ∙ ap taken_by (decoded-encoded l r)

front-next : (l : List Instruction) (i : Instruction) (r : List ℕ) → instruction_at (encoded l ++ (bytes_of i ++ r)) (length l) ≡ i
unfolding encoded instruction_at
front-next [] i r = refl
front-next (x ∷ l) i r = later x (encoded l ++ (bytes_of i ++ r)) (length l) ∙ front-next l i r

encoded-joined : (l m : List Instruction) (i : Instruction) (n : List Instruction) (r : List ℕ) → encoded l ++ (encoded (m ++ (i ∷ n)) ++ r) ≡ encoded (l ++ m) ++ (bytes_of i ++ (encoded n ++ r))
unfolding encoded
encoded-joined l m i n r =
    ap (λ (x : List ℕ). encoded l ++ (x ++ r)) (encoded-append m (i ∷ n))
    ∙ ap (λ (x : List ℕ). encoded l ++ x) (append_assoc (encoded m) (encoded (i ∷ n)) r)
    ∙ sym (append_assoc (encoded l) (encoded m) (encoded (i ∷ n) ++ r))
    ∙ ap (λ (x : List ℕ). x ++ (encoded (i ∷ n) ++ r)) (sym (encoded-append l m))

-- a search from its round k on
abbrev begun : Bool → ℕ → ℕ → List Instruction
begun less a k = started less ∷ search_rounds less a k

from-round : (less : Bool) (a n k : ℕ) → k < n → (rest : List Instruction) × (search_list less a n ≡ begun less a k ++ (take_y ∷ rest))
unfolding rounds
from-round less a n k h =
    let g : ℕ → List Instruction = λ j. search_round less (a + j) in
    let m = n - (k + 1) in
    let size : k + (1 + m) ≡ n = omega arith in
    let others = differs (a + (k + 0)) ∷ decided less (a + (k + 0)) ∷ rounds (λ j. g (k + (1 + j))) m in
    let split : rounds g n ≡ rounds g k ++ (take_y ∷ others) =
    ap (rounds g) (sym size) ∙ rounds-apart g k (1 + m) ∙ ap (λ (x : List Instruction). rounds g k ++ x) (rounds-apart (λ j. g (k + j)) 1 m) in (
      others ++ (move_x ∷ []),
      ap (λ (x : List Instruction). started less ∷ (x ++ (move_x ∷ []))) split
          ∙ ap (λ (x : List Instruction). started less ∷ x) (append_assoc (rounds g k) (take_y ∷ others) (move_x ∷ [])),
    )

-- ---- a line of a text that is made

module _ {text : List ℕ} {before : List (List ℕ)} {line : List ℕ} (at : LineOf text before line) where
  stood : Stepped (state_after before)
  stood = stepped-lines before begin 1 stepped-begin

  -- the line's place, in instructions
  place : place_after before ≡ length stood.made
  place = omega (arith, ap length stood.list, length-encoded stood.made)

  number-none : (outcome_of text).number ≡ 0
  number-none = stands text at.room at.room_items at.made

  from-line : (n : ℕ) × (outcome_of text ≡ folded (state_after before) n (line ∷ at.after))
  unfolding outcome_of
  from-line =
      let lines = ap (folded begin 1) at.lines in
      let q = lines-apart before (line ∷ at.after) begin 1 (sym (ap (λ (o : Outcome). o.number) lines) ∙ number-none) in
      (q.0, lines ∙ q.1)

  line-stands : number_of (act_of (state_after before) line) ≡ 0
  line-stands = step-stands (state_after before) from-line.0 line at.after (sym (ap (λ (o : Outcome). o.number) from-line.1) ∙ number-none)

  module _ {act : Act} (makes : act_of (state_after before) line ≡ act) where
    behind-line : outcome_of text ≡ folded (applied act (state_after before)) (from-line.0 + 1) at.after
    behind-line = from-line.1 ∙ step-on (state_after before) from-line.0 line at.after makes (sym (ap number_of makes) ∙ line-stands)

    list-there : (rest : List ℕ) × (made_list text ≡ (state_after before).list ++ (list_of act ++ rest))
    unfolding applied
    list-there =
        let g = grown at.after (applied act (state_after before)) (from-line.0 + 1) in
        (g.more, ap (λ (o : Outcome). o.state.list) behind-line ∙ g.list ∙ append_assoc (state_after before).list (list_of act) g.more)

    items-there : (rest : List ℕ) × (made_items text ≡ (state_after before).items ++ (items_of act ++ rest))
    unfolding applied
    items-there =
        let g = grown at.after (applied act (state_after before)) (from-line.0 + 1) in
        (g.more_items, ap (λ (o : Outcome). o.state.items) behind-line ∙ g.items ∙ append_assoc (state_after before).items (items_of act) g.more_items)

    -- the text's list, by the instructions before the line
    list-by : made_list text ≡ encoded stood.made ++ (list_of act ++ list-there.0)
    list-by = list-there.1 ∙ ap (λ (x : List ℕ). x ++ (list_of act ++ list-there.0)) stood.list

    before-taken : taken_before (made_list text) (place_after before) ≡ taken_by stood.made
    before-taken = ap₂ taken_before list-by place ∙ front-taken stood.made (list_of act ++ list-there.0)

one-there : {text : List ℕ} {before : List (List ℕ)} {line : List ℕ} (at : LineOf text before line)
    {i : Instruction} → act_of (state_after before) line ≡ One i → instruction_at (made_list text) (place_after before) ≡ i
unfolding encoded
one-there at {i} makes = ap₂ instruction_at (list-by at makes) (place at) ∙ front-next (stood at).made i (list-there at makes).0

-- behind an instruction that takes an item no line brings one
items-last : {text : List ℕ} {before : List (List ℕ)} {line : List ℕ} (at : LineOf text before line)
    {i : Instruction} → act_of (state_after before) line ≡ One i → takes i ≡ true → made_items text ≡ (state_after before).items
unfolding applied
items-last {before = before} at {i} makes t =
    let s = state_after before in
    let taking : (s.taken || takes i) ≡ true = ap (λ (b : Bool). s.taken || b) t ∙ or-true s.taken in
    let e = behind-line at makes in
    ap (λ (o : Outcome). o.state.items) e
    ∙ items-still at.after (applied (One i) s) ((from-line at).0 + 1) taking (sym (ap (λ (o : Outcome). o.number) e) ∙ number-none at)
    ∙ append-nil s.items
  where
    or-true : (b : Bool) → (b || true) ≡ true
    or-true true = refl
    or-true false = refl

-- ---- a search

module _ {text : List ℕ} {before : List (List ℕ)} {line : List ℕ} (at : LineOf text before line)
    {less : Bool} {a n v : ℕ} (makes : act_of (state_after before) line ≡ Search less a n v) where
  none-taken : (state_after before).taken ≡ false
  none-taken = subst (λ (x : Act). (searches x && (state_after before).taken) ≡ false) makes (in_order (state_after before) line (line-stands at))

  just-taken : 32 * taken_by (stood at).made ≡ length (state_after before).items
  just-taken = (stood at).just none-taken

  module _ (k : ℕ) (h : k < n) where
    abbrev up_to : List Instruction
    up_to = (stood at).made ++ begun less a k

    rest : List ℕ
    rest = encoded (from-round less a n k h).0 ++ (list-there at makes).0

    list-up-to : made_list text ≡ encoded up_to ++ (bytes_of take_y ++ rest)
    unfolding rest encoded
    list-up-to =
        list-by at makes
        ∙ ap (λ (x : List Instruction). encoded (stood at).made ++ (encoded x ++ (list-there at makes).0)) (from-round less a n k h).1
        ∙ encoded-joined (stood at).made (begun less a k) take_y (from-round less a n k h).0 (list-there at makes).0

    place-up-to : place_after before + 1 + 3 * k ≡ length up_to
    place-up-to = omega (arith, place at, length-append (stood at).made (begun less a k), length-search-rounds less a k)

    takes-bit : instruction_at (made_list text) (place_after before + 1 + 3 * k) ≡ take_y
    takes-bit = ap₂ instruction_at list-up-to place-up-to ∙ front-next up_to take_y rest

    taken-up-to : taken_before (made_list text) (place_after before + 1 + 3 * k) ≡ taken_by (stood at).made + k
    taken-up-to =
        ap₂ taken_before list-up-to place-up-to
        ∙ front-taken up_to (bytes_of take_y ++ rest)
        ∙ taken-append (stood at).made (begun less a k)
        ∙ ap (λ (x : ℕ). taken_by (stood at).made + x) (rounds-take less a k)

    bit-there : (more : List ℕ) → item_at (made_items text ++ more) (taken_before (made_list text) (place_after before + 1 + 3 * k)) ≡ item (λ p. digit v k)
    bit-there more =
        let own = items-there at makes in
        let items = (state_after before).items in
        let behind = own.0 ++ more in
        let whole : made_items text ++ more ≡ items ++ (number_items v n ++ behind) =
        ap (λ (x : List ℕ). x ++ more) own.1
        ∙ append_assoc items (number_items v n ++ own.0) more
        ∙ ap (λ (x : List ℕ). items ++ x) (append_assoc (number_items v n) own.0 more) in
        let start : 32 * (taken_by (stood at).made + k) ≡ length items + 32 * k = omega (arith, just-taken) in
        ap₂ item_at whole taken-up-to
        ∙ ap (λ (x : ℕ). take 32 (drop x (items ++ (number_items v n ++ behind)))) start
        ∙ ap (take 32) (drop-append-add items (number_items v n ++ behind) (32 * k))
        ∙ items_at (λ j p. digit v j) n k behind h

-- ---- whole texts

pub items-in-step : (text : List ℕ) → InStep text
items-in-step text = record {
  search = λ before line less a n v at makes. record {
    list = list-there at makes;
    items = items-there at makes;
    ahead = ap (λ (x : ℕ). 32 * x) (before-taken at makes) ∙ just-taken at makes;
    taking = takes-bit at makes;
    taken = λ k more h. bit-there at makes k h more;
  };
  other = λ before line i at makes takes. record {
    taking = one-there at makes;
    behind = omega (arith, (stood at).most, before-taken at makes, ap length (items-last at makes takes));
  };
}
