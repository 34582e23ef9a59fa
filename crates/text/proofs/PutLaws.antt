-- Laws of text and bytes put one after the other. Assumes nothing.
use mathlib.Core.Path.{◌≡◌, refl, sym, ap, ◌∙◌}
use mathlib.Core.Bool.{Bool, true, false, cond}
use mathlib.Core.List.{List, [], ◌∷◌, ◌++◌}
use Prim.Native.Nat.{ℕ, ◌+◌, ◌<◌, ◌≤◌}
use native.Mathlib.Numerals.{add-one}
use native.Mathlib.Omega.{arith}
use lib.ListN.{length, get_or, drop, drop_of_length-le, length-append}
use lib.Seq.{drop-cons}
use borrow.Author.Tests.{eq-eqb, ne_eqb}
use Rattle.spelling.specs.Words.{spelled}
use Rattle.judge.specs.declared.Instruction.{Instruction}
use Rattle.registers.specs.declared.Modes.{Modes}
use Rattle.lines.specs.Alone.{fault_alone, refused}
use Rattle.lines.specs.Said.{said, in_bytes, words_of}
use Rattle.text.specs.declared.Reading.{Reading}
use Rattle.text.specs.Show.{spaced, rest, line_text}
use Rattle.text.specs.Make.{stepped, brought, emitted}
use Rattle.text.proofs.ScanLaws.{left, emitted-more, emitted-end}

-- ---- words

pub spaced-none : (w : ℕ) → w ≡ 0 → spaced w ≡ []
unfolding spaced
spaced-none w h = ap (λ (b : Bool). cond b [] (32 ∷ spelled w)) (eq-eqb w 0 h)

pub spaced-some : (w : ℕ) → (w ≡ 0 → ⊥) → spaced w ≡ 32 ∷ spelled w
unfolding spaced
spaced-some w h = ap (λ (b : Bool). cond b [] (32 ∷ spelled w)) (ne_eqb w 0 h)

pub line_first : (ws : List ℕ) → 0 < length ws → line_text ws ≡ spelled (get_or ws 0 0) ++ rest (drop 1 ws)
unfolding line_text
line_first [] h = absurd (omega arith)
line_first (w ∷ ws) h = refl

pub rest_more : (ws : List ℕ) (k : ℕ) → k < length ws → rest (drop k ws) ≡ spaced (get_or ws k 0) ++ rest (drop (k + 1) ws)
unfolding rest
rest_more ws k h = ap rest (drop-cons ws k 0 h) ∙ ap (λ (n : ℕ). spaced (get_or ws k 0) ++ rest (drop n ws)) (sym (add-one k))

pub rest_end : (ws : List ℕ) (k : ℕ) → length ws ≤ k → rest (drop k ws) ≡ 10 ∷ []
unfolding rest
rest_end ws k h = ap rest (drop_of_length-le ws {i = k} h)

-- ---- what a text brings

module _ (text : List ℕ) (i : ℕ) (s s' : Reading) where
  pub turn : i < length text → s' ≡ stepped s i (get_or text i 0) → emitted s i (left text i) ≡ brought s' ++ emitted s' (i + 1) (left text (i + 1))
  turn h e = emitted-more text i s h ∙ ap (λ (z : Reading). brought z ++ emitted z (i + 1) (left text (i + 1))) (sym e)

  pub turn-room : i < length text → s' ≡ stepped s i (get_or text i 0) → length (emitted s i (left text i)) ≡ length (brought s') + length (emitted s' (i + 1) (left text (i + 1)))
  turn-room h e = ap length (turn h e) ∙ length-append (brought s') (emitted s' (i + 1) (left text (i + 1)))

  pub last : length text ≤ i → s' ≡ stepped s i 10 → emitted s i (left text i) ≡ brought s'
  last h e = emitted-end text i s h ∙ ap brought (sym e)

  pub last-room : length text ≤ i → s' ≡ stepped s i 10 → length (emitted s i (left text i)) ≡ length (brought s')
  last-room h e = ap length (last h e)

-- ---- a line has words

pub words-some : (m : Modes) (i : Instruction) → 0 < length (words_of m i)
unfolding words_of said in_bytes
words-some m i = go (refused i)
  where
    go : (b : Bool) → 0 < length (cond b (in_bytes i (fault_alone i)) (said m i))
    go true = omega arith
    go false = omega arith
