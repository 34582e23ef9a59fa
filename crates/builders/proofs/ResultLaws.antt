-- No two results of a builder have one answer in the documents' numbers. Assumes nothing.
use mathlib.Core.Path.{◌≡◌, ap, sym}
use Prim.Native.Nat.{ℕ}
use Rattle.std.specs.Prelude.{Result, Ok, Err}
use Rattle.bits.specs.declared.refusals.Refusal.{Refusal}
use Rattle.bits.proofs.RefusalLaws.{number-injective}
use Rattle.builders.specs.declared.Sizes.{Sizes}
use Rattle.builders.specs.Building.{Built, BuiltTwo}
use Rattle.builders.specs.Results.{built_of, built_two_of}
use Rattle.builders.proofs.Refusals.{numbered}

pub built_of-injective : (r s : Result ℕ Refusal) → built_of r ≡ built_of s → r ≡ s
built_of-injective (Ok n) (Ok m) e = ap (λ (b : Built). Ok b.count) e
built_of-injective (Ok n) (Err s) e = absurd (numbered s (sym (ap (λ (b : Built). b.number) e)))
built_of-injective (Err r) (Ok m) e = absurd (numbered r (ap (λ (b : Built). b.number) e))
built_of-injective (Err r) (Err s) e = ap (λ (q : Refusal). Err q) (number-injective r s (ap (λ (b : Built). b.number) e))

pub built_two_of-injective : (r s : Result Sizes Refusal) → built_two_of r ≡ built_two_of s → r ≡ s
built_two_of-injective (Ok n) (Ok m) e = ap (λ (b : BuiltTwo). Ok (record { list = b.list; items = b.items })) e
built_two_of-injective (Ok n) (Err s) e = absurd (numbered s (sym (ap (λ (b : BuiltTwo). b.number) e)))
built_two_of-injective (Err r) (Ok m) e = absurd (numbered r (ap (λ (b : BuiltTwo). b.number) e))
built_two_of-injective (Err r) (Err s) e = ap (λ (q : Refusal). Err q) (number-injective r s (ap (λ (b : BuiltTwo). b.number) e))
