-- Laws of the lines of a text in turn: one line, those behind it, and that the list and the items only grow. Assumes nothing.
use mathlib.Core.Path.{◌≡◌, refl, sym, ap, ◌∙◌}
use mathlib.Core.Bool.{Bool, cond}
use mathlib.Core.List.{List, [], ◌∷◌, ◌++◌, append_assoc, append-nil}
use Prim.Native.Nat.{ℕ, ◌+◌}
use native.Mathlib.Decide.{ℕ_discrete}
use lib.Dec.{eqb}
use borrow.Author.Tests.{ne_eqb}
use Rattle.bits.proofs.Rows.{taken}
use Rattle.assembly.specs.Act.{Act}
use Rattle.assembly.specs.Acts.{number_of, column_of, list_of, items_of}
use Rattle.assembly.specs.Assembly.{State, applied, act_of, Outcome, folded}

-- The outcome where a line is refused.
abbrev pub stopped : State → ℕ → Act → Outcome
stopped s n act = record { number = number_of act; line = n; column = column_of act; state = s }

-- a line that makes act, which is no refusal
pub step-on : (s : State) (n : ℕ) (l : List ℕ) (ls : List (List ℕ)) {act : Act} → act_of s l ≡ act → number_of act ≡ 0 → folded s n (l ∷ ls) ≡ folded (applied act s) (n + 1) ls
unfolding folded
step-on s n l ls {act} e z =
    ap (λ (x : Act). cond (eqb (number_of x) 0) (folded (applied x s) (n + 1) ls) (stopped s n x)) e
    ∙ ap (λ (k : ℕ). cond (eqb k 0) (folded (applied act s) (n + 1) ls) (record { number = k; line = n; column = column_of act; state = s })) z

-- of lines that stand the first does
pub step-stands : (s : State) (n : ℕ) (l : List ℕ) (ls : List (List ℕ)) → (folded s n (l ∷ ls)).number ≡ 0 → number_of (act_of s l) ≡ 0
unfolding folded
step-stands s n l ls z = go (ℕ_discrete (number_of (act_of s l)) 0)
  where
    go : Dec (number_of (act_of s l) ≡ 0) → number_of (act_of s l) ≡ 0
    go (yes e) = e
    go (no u) =
        sym (ap (λ (b : Bool). (cond b (folded (applied (act_of s l) s) (n + 1) ls) (stopped s n (act_of s l))).number) (ne_eqb (number_of (act_of s l)) 0 u)) ∙ z

-- lines that stand, in two parts
pub lines-apart : (before ls : List (List ℕ)) (s : State) (n : ℕ) → (folded s n (before ++ ls)).number ≡ 0
    → (m : ℕ) × (folded s n (before ++ ls) ≡ folded (folded s n before).state m ls)
unfolding folded
lines-apart [] ls s n z = (n, refl)
lines-apart (l ∷ before) ls s n z =
    let h = step-stands s n l (before ++ ls) z in
    let next = applied (act_of s l) s in
    let whole : folded s n (l ∷ (before ++ ls)) ≡ folded next (n + 1) (before ++ ls) = step-on s n l (before ++ ls) refl h in
    let front : folded s n (l ∷ before) ≡ folded next (n + 1) before = step-on s n l before refl h in
    let q = lines-apart before ls next (n + 1) (sym (ap (λ (o : Outcome). o.number) whole) ∙ z) in
    (q.0, whole ∙ q.1 ∙ ap (λ (o : Outcome). folded o.state q.0 ls) (sym front))

-- The list and the items of s, and more behind them.
pub record Grown (s t : State) : Type 0 where
  pub more : List ℕ
  pub list : t.list ≡ s.list ++ more
  pub more_items : List ℕ
  pub items : t.items ≡ s.items ++ more_items

grown-none : (s : State) → Grown s s
grown-none s = record { more = []; list = sym (append-nil s.list); more_items = []; items = sym (append-nil s.items) }

grown-by : (act : Act) (s t : State) → Grown (applied act s) t → Grown s t
unfolding applied
grown-by act s t g = record {
  more = list_of act ++ g.more;
  list = g.list ∙ append_assoc s.list (list_of act) g.more;
  more_items = items_of act ++ g.more_items;
  items = g.items ∙ append_assoc s.items (items_of act) g.more_items;
}

pub grown : (ls : List (List ℕ)) (s : State) (n : ℕ) → Grown s (folded s n ls).state
unfolding folded
grown [] s n = grown-none s
grown (l ∷ ls) s n =
    taken (λ (o : Outcome). Grown s o.state) (folded (applied (act_of s l) s) (n + 1) ls) (stopped s n (act_of s l)) (eqb (number_of (act_of s l)) 0)
    (grown-by (act_of s l) s (folded (applied (act_of s l) s) (n + 1) ls).state (grown ls (applied (act_of s l) s) (n + 1))) (grown-none s)
