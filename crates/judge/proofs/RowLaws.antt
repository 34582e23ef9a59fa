-- Rows as facts: what a test that holds, or does not, says. Assumes nothing.
use mathlib.Core.Path.{◌≡◌, refl, ap, ◌∙◌}
use mathlib.Core.Bool.{Bool, true, false, not, ◌&&◌, false≢true}
use Prim.Native.Nat.{ℕ, ◌%◌, ◌≤◌}
use lib.Dec.{eqb, ltb}
use borrow.Author.Tests.{eqb-true, ltb-false, not-false}
use Rattle.bits.proofs.Rows.{or-none}
use Rattle.judge.specs.Judge.{unfit}

pub and_both : (a b : Bool) → (a && b) ≡ true → (a ≡ true) × (b ≡ true)
and_both true b e = (refl, e)
and_both false b e = absurd (false≢true e)

pub both-and : (a b : Bool) → a ≡ true → b ≡ true → (a && b) ≡ true
both-and a b p q = ap (λ (x : Bool). x && b) p ∙ q

-- a length that is fit is whole and at most 32,768
pub fit-whole : (unit n : ℕ) → unfit unit n ≡ false → n % unit ≡ 0
fit-whole unit n e = eqb-true (n % unit) 0 (not-false (eqb (n % unit) 0) (or-none (not (eqb (n % unit) 0)) (ltb 32768 n) e).0)

pub fit-size : (unit n : ℕ) → unfit unit n ≡ false → n ≤ 32768
fit-size unit n e = ltb-false 32768 n (or-none (not (eqb (n % unit) 0)) (ltb 32768 n) e).1
