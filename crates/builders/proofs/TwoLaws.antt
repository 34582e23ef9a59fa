-- What a builder of a list with its items leaves, by its number: for each such builder's two ends, and for whoever reads its answer. Assumes nothing.
use mathlib.Core.Path.{◌≡◌, refl, sym, ap, ap₂, ◌∙◌}
use mathlib.Core.List.{List}
use Prim.Native.Nat.{ℕ}
use native.Mathlib.Decide.{ℕ_discrete}
use lib.ListN.{length}
use borrow.Author.Tests.{eq-eqb, ne_eqb}
use Rattle.std.specs.Prelude.{Result, Ok, Err}
use Rattle.std.specs.Result.{IsErrAnd}
use Rattle.bits.specs.declared.refusals.Refusal.{Refusal}
use Rattle.bits.specs.Refusals.{number_of_refusal}
use Rattle.bits.specs.Steps.{put_at}
use Rattle.bits.proofs.Puts.{put_front}
use Rattle.builders.specs.Building.{BuiltTwo}
use Rattle.builders.specs.Building.{BuiltTwoLeft, built_two}
use Rattle.builders.specs.declared.Sizes.{Sizes}
use Rattle.builders.specs.Results.{built_two_of}
use Rattle.builders.proofs.Refusals.{numbered}

module _ (fault : ℕ) (bytes item_bytes list items : List ℕ) where
  -- refused: both buffers as they were, and both counts 0
  pub two-refused : (number : ℕ) → number ≡ fault → (number ≡ 0 → ⊥)
      → ◌≡◌ {A = BuiltTwoLeft} (record { answer = record { number = number; list = 0; items = 0 }; list = list; items = items })
      (built_two fault bytes item_bytes list items)
  unfolding built_two
  two-refused number e u =
      ap (λ (n : ℕ). record { answer = record { number = n; list = 0; items = 0 }; list = list; items = items }) e
      ∙ sym (simp (ne_eqb fault 0 (λ z. u (e ∙ z))))

  -- so for a reason of that number
  pub two-err : (r : Result Sizes Refusal) (x : Refusal) → IsErrAnd r (λ e. e ≡ x) → number_of_refusal x ≡ fault
      → ◌≡◌ {A = BuiltTwoLeft} (record { answer = built_two_of r; list = list; items = items }) (built_two fault bytes item_bytes list items)
  two-err (Ok n) x p e = absurd p
  two-err (Err r) x p e = two-refused (number_of_refusal r) (ap number_of_refusal p ∙ e) (numbered r)

  -- done: each buffer has its bytes at the front, and they are counted
  pub two-done : (number : ℕ) → number ≡ fault → number ≡ 0
      → (n k : ℕ) (l i : List ℕ) → n ≡ length bytes → k ≡ length item_bytes → l ≡ put_at 0 bytes list → i ≡ put_at 0 item_bytes items
      → ◌≡◌ {A = BuiltTwoLeft} (record { answer = record { number = 0; list = n; items = k }; list = l; items = i })
      (built_two fault bytes item_bytes list items)
  unfolding built_two
  two-done number e z n k l i en ek el ei =
      ap₂ (λ (x y : ℕ). record { answer = record { number = 0; list = x; items = y }; list = l; items = i }) en ek
      ∙ ap₂ (λ (x y : List ℕ). record { answer = record { number = 0; list = length bytes; items = length item_bytes }; list = x; items = y })
      (el ∙ put_front bytes list) (ei ∙ put_front item_bytes items)
      ∙ sym (simp (eq-eqb fault 0 (sym e ∙ z)))

  -- so where the number given is 0 the answer counts the bytes, whatever the buffers
  answered : fault ≡ 0 → (built_two fault bytes item_bytes list items).answer ≡ record { number = 0; list = length bytes; items = length item_bytes }
  answered z =
      ap (λ (b : BuiltTwoLeft). b.answer)
      (sym (two-done fault refl z (length bytes) (length item_bytes) (put_at 0 bytes list) (put_at 0 item_bytes items) refl refl refl refl))

  -- the answer's number is the one given
  pub two-number : (built_two fault bytes item_bytes list items).answer.number ≡ fault
  two-number = go (ℕ_discrete fault 0)
    where
      go : Dec (fault ≡ 0) → (built_two fault bytes item_bytes list items).answer.number ≡ fault
      go (yes z) = ap (λ (b : BuiltTwo). b.number) (answered z) ∙ sym z
      go (no u) = ap (λ (b : BuiltTwoLeft). b.answer.number) (sym (two-refused fault refl u))

  -- and by the answer's number: the counts, and the whole of a refusal
  pub two-counts : (built_two fault bytes item_bytes list items).answer.number ≡ 0
      → ((built_two fault bytes item_bytes list items).answer.list ≡ length bytes)
      × ((built_two fault bytes item_bytes list items).answer.items ≡ length item_bytes)
  two-counts z =
      let e = answered (sym two-number ∙ z) in
      (ap (λ (b : BuiltTwo). b.list) e, ap (λ (b : BuiltTwo). b.items) e)

  pub two-unwritten : ((built_two fault bytes item_bytes list items).answer.number ≡ 0 → ⊥)
      → built_two fault bytes item_bytes list items ≡ record { answer = record { number = fault; list = 0; items = 0 }; list = list; items = items }
  two-unwritten u = sym (two-refused fault refl (λ z. u (two-number ∙ z)))
