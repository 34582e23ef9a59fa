-- What making gives back, one law for each outcome. Assumes nothing.
use mathlib.Core.Path.{◌≡◌, ap, ◌∙◌}
use mathlib.Core.Bool.{Bool, cond}
use mathlib.Core.List.{List, ◌++◌}
use Prim.Native.Nat.{ℕ, ◌<◌, ◌≤◌}
use native.Mathlib.Omega.{arith}
use lib.Dec.{eqb}
use lib.ListN.{length, drop}
use borrow.Author.Tests.{lt-ltb, le-ltb, eq-eqb, ne_eqb}
use Rattle.judge.specs.Kinds.{most_bytes}
use Rattle.text.specs.Make.{Made, answer, number_of, last_of, made_bytes, refused_at, made_answer, made_out}

module _ (text out : List ℕ) where
  abbrev number : ℕ
  number = number_of (last_of text).line.phase

  kept : (r : Made) → made_answer text (length out) ≡ r → (r.number ≡ 0 → ⊥) → made_out text out ≡ out
  unfolding made_out
  kept r e n = ap (λ (b : Bool). cond b (made_bytes text ++ drop (length (made_bytes text)) out) out) (ap (λ (x : Made). eqb x.number 0) e ∙ ne_eqb r.number 0 n)

  pub too_long : 1048576 < length text → (made_answer text (length out) ≡ answer 50 0 0 0) × (made_out text out ≡ out)
  unfolding made_answer
  too_long h =
      let e : made_answer text (length out) ≡ answer 50 0 0 0 = simp (lt-ltb 1048576 (length text) h) in
      (e, kept (answer 50 0 0 0) e (λ z. omega (arith, z)))

  pub bad : length text ≤ 1048576 → (number ≡ 0 → ⊥) → (made_answer text (length out) ≡ refused_at text number (last_of text).start) × (made_out text out ≡ out)
  unfolding made_answer refused_at
  bad h n =
      let e : made_answer text (length out) ≡ refused_at text number (last_of text).start = simp (le-ltb 1048576 (length text) h, ne_eqb number 0 n) in
      (e, kept (refused_at text number (last_of text).start) e n)

  pub too_many : length text ≤ 1048576 → number ≡ 0 → most_bytes < length (made_bytes text) → (made_answer text (length out) ≡ answer 3 0 0 0) × (made_out text out ≡ out)
  unfolding made_answer
  too_many h n f =
      let e : made_answer text (length out) ≡ answer 3 0 0 0 = simp (le-ltb 1048576 (length text) h, eq-eqb number 0 n, lt-ltb most_bytes (length (made_bytes text)) f) in
      (e, kept (answer 3 0 0 0) e (λ z. omega (arith, z)))

  pub too_short : length text ≤ 1048576 → number ≡ 0 → length (made_bytes text) ≤ most_bytes → length out < length (made_bytes text) → (made_answer text (length out) ≡ answer 33 0 0 0) × (made_out text out ≡ out)
  unfolding made_answer
  too_short h n f s =
      let e : made_answer text (length out) ≡ answer 33 0 0 0 =
      simp (le-ltb 1048576 (length text) h, eq-eqb number 0 n, le-ltb most_bytes (length (made_bytes text)) f, lt-ltb (length out) (length (made_bytes text)) s) in
      (e, kept (answer 33 0 0 0) e (λ z. omega (arith, z)))

  pub done : length text ≤ 1048576 → number ≡ 0 → length (made_bytes text) ≤ most_bytes → length (made_bytes text) ≤ length out
      → (made_answer text (length out) ≡ answer 0 0 0 (length (made_bytes text))) × (made_out text out ≡ made_bytes text ++ drop (length (made_bytes text)) out)
  unfolding made_answer made_out
  done h n f s =
      let e : made_answer text (length out) ≡ answer 0 0 0 (length (made_bytes text)) =
      simp (le-ltb 1048576 (length text) h, eq-eqb number 0 n, le-ltb most_bytes (length (made_bytes text)) f, le-ltb (length out) (length (made_bytes text)) s) in
      (e, ap (λ (x : Made). cond (eqb x.number 0) (made_bytes text ++ drop (length (made_bytes text)) out) out) e)
