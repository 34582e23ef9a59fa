-- What a builder of a list leaves, by its number: for each such builder's two ends, and for whoever reads its answer. Assumes nothing.
use mathlib.Core.Path.{◌≡◌, refl, sym, ap, ap₂, ◌∙◌}
use mathlib.Core.List.{List}
use Prim.Native.Nat.{ℕ}
use native.Mathlib.Decide.{ℕ_discrete}
use lib.ListN.{length}
use borrow.Author.Tests.{eq-eqb, ne_eqb}
use Rattle.std.specs.Prelude.{Result, Ok, Err}
use Rattle.std.specs.Result.{IsErrAnd}
use Rattle.bits.specs.declared.refusals.Refusal.{Refusal}
use Rattle.bits.specs.Refusals.{number_of_refusal}
use Rattle.bits.specs.Steps.{put_at}
use Rattle.bits.proofs.Puts.{put_front}
use Rattle.builders.specs.Building.{Built}
use Rattle.builders.specs.Building.{BuiltLeft, built_with}
use Rattle.builders.specs.Results.{built_of}
use Rattle.builders.proofs.Refusals.{numbered}

module _ (fault : ℕ) (bytes list : List ℕ) where
  -- refused: the buffer as it was, and the count 0
  pub one-refused : (number : ℕ) → number ≡ fault → (number ≡ 0 → ⊥)
      → ◌≡◌ {A = BuiltLeft} (record { answer = record { number = number; count = 0 }; list = list }) (built_with fault bytes list)
  one-refused number e u =
      ap (λ (n : ℕ). record { answer = record { number = n; count = 0 }; list = list }) e
      ∙ sym (simp (ne_eqb fault 0 (λ z. u (e ∙ z))))

  -- so for a reason of that number
  pub one-err : (r : Result ℕ Refusal) (x : Refusal) → IsErrAnd r (λ e. e ≡ x) → number_of_refusal x ≡ fault
      → ◌≡◌ {A = BuiltLeft} (record { answer = built_of r; list = list }) (built_with fault bytes list)
  one-err (Ok n) x p e = absurd p
  one-err (Err r) x p e = one-refused (number_of_refusal r) (ap number_of_refusal p ∙ e) (numbered r)

  -- done: the buffer has the bytes at its front, and they are counted
  pub one-done : (number : ℕ) → number ≡ fault → number ≡ 0 → (n : ℕ) (l : List ℕ) → n ≡ length bytes → l ≡ put_at 0 bytes list
      → ◌≡◌ {A = BuiltLeft} (record { answer = record { number = 0; count = n }; list = l }) (built_with fault bytes list)
  one-done number e z n l en el =
      ap₂ (λ (x : ℕ) (y : List ℕ). record { answer = record { number = 0; count = x }; list = y }) en (el ∙ put_front bytes list)
      ∙ sym (simp (eq-eqb fault 0 (sym e ∙ z)))

  -- so where the number given is 0 the answer counts the bytes, whatever the buffer
  answered : fault ≡ 0 → (built_with fault bytes list).answer ≡ record { number = 0; count = length bytes }
  answered z = ap (λ (b : BuiltLeft). b.answer) (sym (one-done fault refl z (length bytes) (put_at 0 bytes list) refl refl))

  -- the answer's number is the one given
  pub one_number : (built_with fault bytes list).answer.number ≡ fault
  one_number = go (ℕ_discrete fault 0)
    where
      go : Dec (fault ≡ 0) → (built_with fault bytes list).answer.number ≡ fault
      go (yes z) = ap (λ (b : Built). b.number) (answered z) ∙ sym z
      go (no u) = ap (λ (b : BuiltLeft). b.answer.number) (sym (one-refused fault refl u))

  -- and by the answer's number: the count, and the whole of a refusal
  pub one-count : (built_with fault bytes list).answer.number ≡ 0 → (built_with fault bytes list).answer.count ≡ length bytes
  one-count z = ap (λ (b : Built). b.count) (answered (sym one_number ∙ z))

  pub one-unwritten : ((built_with fault bytes list).answer.number ≡ 0 → ⊥)
      → built_with fault bytes list ≡ record { answer = record { number = fault; count = 0 }; list = list }
  one-unwritten u = sym (one-refused fault refl (λ z. u (one_number ∙ z)))
