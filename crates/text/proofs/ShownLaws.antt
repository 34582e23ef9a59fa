-- Laws of showing: one line more, how long a line can be, and one law for each outcome. Assumes nothing.
use mathlib.Core.Path.{◌≡◌, refl, sym, ap, ap₂, ◌∙◌}
use mathlib.Core.Bool.{Bool, true, false, cond}
use mathlib.Core.List.{List, [], ◌∷◌, ◌++◌}
use Prim.Native.Nat.{ℕ, zero, suc, ◌+◌, ◌-◌, ◌*◌, ◌/◌, ◌%◌, ◌<◌, ◌≤◌}
use native.Mathlib.Numerals.{add-one}
use native.Mathlib.Omega.{arith}
use lib.Dec.{eqb}
use lib.ListN.{length, drop, length-append}
use borrow.Author.Tests.{lt-ltb, le-ltb, ne_eqb}
use Rattle.spelling.specs.Words.{top_place, visible, spelled_in, spelled}
use Rattle.judge.specs.declared.Instruction.{Instruction}
use Rattle.registers.specs.declared.Modes.{Modes}
use Rattle.registers.specs.Modes.{none_set}
use Rattle.judge.specs.Instructions.{instruction_at}
use Rattle.judge.specs.Modes.{modes_by, modes_after}
use Rattle.judge.specs.Judge.{unfit}
use Rattle.judge.specs.declared.modes.Settled.{Settled}
use Rattle.judge.specs.Steps.{settled_by}
use Rattle.lines.specs.Alone.{fault_alone, refused}
use Rattle.lines.specs.Said.{said, in_bytes, words_of}
use Rattle.text.specs.Show.{Shown, spaced, rest, line_text, shown_at, shown_from, shown_text, shown_as, shown_answer, shown_out}

-- ---- one line more

pub shown-more : (list : List ℕ) (n k : ℕ) → k < n → shown_from list k (n - k) ≡ shown_at list k ++ shown_from list (k + 1) (n - (k + 1))
unfolding shown_from
shown-more list n k h =
    let e : n - k ≡ suc (n - (k + 1)) = omega arith in
    ap (shown_from list k) e ∙ ap (λ (x : ℕ). shown_at list k ++ shown_from list x (n - (k + 1))) (sym (add-one k))

pub shown-end : (list : List ℕ) (n k : ℕ) → n ≤ k → shown_from list k (n - k) ≡ []
unfolding shown_from
shown-end list n k h =
    let e : n - k ≡ 0 = omega arith in
    ap (shown_from list k) e

-- instruction k's line, and the mode registers behind it, as the loops come to them
module _ (list : List ℕ) (k : ℕ) {m : Modes} {i : Instruction} (em : m ≡ modes_after list none_set k) (ei : i ≡ instruction_at list k) where
  pub line-is : line_text (words_of m i) ≡ shown_at list k
  line-is = ap₂ (λ (x : Modes) (y : Instruction). line_text (words_of x y)) em ei

  pub modes-next : {s : Settled} → s ≡ settled_by i m → s.modes ≡ modes_after list none_set (k + 1)
  unfolding modes_after
  modes-next e = ap (λ (x : Settled). x.modes) e ∙ ap₂ modes_by ei em ∙ sym (ap (modes_after list none_set) (add-one k))

-- ---- how long a line can be

visible-length : (c : ℕ) → length (visible c) ≤ 1
unfolding visible
visible-length c = go (eqb c 0)
  where
    go : (b : Bool) → length (cond b [] (c ∷ [])) ≤ 1
    go true = omega arith
    go false = omega arith

spelled-length : (n w : ℕ) → length (spelled_in n w) ≤ n
unfolding spelled_in
spelled-length zero w = omega arith
spelled-length (suc n) w =
    let r = spelled-length n (w % top_place * 256) in
    omega (arith, length-append (visible (w / top_place)) (spelled_in n (w % top_place * 256)), visible-length (w / top_place))

spaced-length : (w : ℕ) → length (spaced w) ≤ 9
unfolding spaced spelled
spaced-length w = go (eqb w 0) (spelled-length 8 w)
  where
    go : (b : Bool) → length (spelled_in 8 w) ≤ 8 → length (cond b [] (32 ∷ spelled_in 8 w)) ≤ 9
    go true h = omega arith
    go false h = omega arith

rest-length : (ws : List ℕ) → length (rest ws) ≤ 9 * length ws + 1
unfolding rest
rest-length [] = omega arith
rest-length (w ∷ ws) =
    let r = rest-length ws in
    omega (arith, length-append (spaced w) (rest ws), spaced-length w)

line-length : (ws : List ℕ) → length (line_text ws) ≤ 9 * length ws + 1
unfolding line_text spelled
line-length [] = omega arith
line-length (w ∷ ws) = omega (arith, length-append (spelled_in 8 w) (rest ws), spelled-length 8 w, rest-length ws)

words-length : (m : Modes) (i : Instruction) → length (words_of m i) ≡ 19
unfolding words_of said in_bytes
words-length m i = go (refused i)
  where
    go : (b : Bool) → length (cond b (in_bytes i (fault_alone i)) (said m i)) ≡ 19
    go true = refl
    go false = refl

pub line-fits : (m : Modes) (i : Instruction) → length (line_text (words_of m i)) ≤ 192
line-fits m i = omega (arith, line-length (words_of m i), words-length m i)

-- ---- the outcomes

module _ (list out : List ℕ) where
  kept : (r : Shown) → shown_answer list (length out) ≡ r → (r.number ≡ 0 → ⊥) → shown_out list out ≡ out
  unfolding shown_out
  kept r e n = ap (λ (b : Bool). cond b (shown_text list ++ drop (length (shown_text list)) out) out) (ap (λ (x : Shown). eqb x.number 0) e ∙ ne_eqb r.number 0 n)

  pub unfitting : unfit 8 (length list) ≡ true → (shown_answer list (length out) ≡ shown_as 3 0) × (shown_out list out ≡ out)
  unfolding shown_answer
  unfitting h =
      let e : shown_answer list (length out) ≡ shown_as 3 0 = simp h in
      (e, kept (shown_as 3 0) e (λ z. omega (arith, z)))

  pub too_short : unfit 8 (length list) ≡ false → length out < length (shown_text list) → (shown_answer list (length out) ≡ shown_as 27 0) × (shown_out list out ≡ out)
  unfolding shown_answer
  too_short h s =
      let e : shown_answer list (length out) ≡ shown_as 27 0 = simp (h, lt-ltb (length out) (length (shown_text list)) s) in
      (e, kept (shown_as 27 0) e (λ z. omega (arith, z)))

  pub done : unfit 8 (length list) ≡ false → length (shown_text list) ≤ length out
      → (shown_answer list (length out) ≡ shown_as 0 (length (shown_text list))) × (shown_out list out ≡ shown_text list ++ drop (length (shown_text list)) out)
  unfolding shown_answer shown_out
  done h s =
      let e : shown_answer list (length out) ≡ shown_as 0 (length (shown_text list)) =
      simp (h, le-ltb (length out) (length (shown_text list)) s) in
      (e, ap (λ (x : Shown). cond (eqb x.number 0) (shown_text list ++ drop (length (shown_text list)) out) out) e)
