-- Laws of the fields named so far. Assumes nothing.
use Rattle.std.proofs.Common.{◌≡◌, ◌==◌, position, ℕ, ◌<◌, ◌≤◌, Bool, true, cond, List, length, get_or, take, Option, Some, None, ◌∙◌, sym, ap, ap₂, arith}
use Rattle.std.proofs.Math.ListN.{get_or-map}
use Rattle.std.proofs.lemmas.List.{get_or-take}
use lib.Seq.{length-take-le}
use borrow.Author.Tests.{lt-ltb, le-ltb}
use Rattle.std.specs.Option.{unwrap_or}
use Rattle.std.proofs.lemmas.List.Quantifiers.{position-Some}
use Rattle.spelling.proofs.FindLaws.{index_of_found}
use Rattle.bits.specs.Search.{index_of}
use Rattle.assembly.specs.declared.Span.{Span}
use Rattle.std.proofs.lemmas.Grind.{common_steps}
use Rattle.std.proofs.lemmas.Bool.Decides.{nat_tests}
use Rattle.bits.specs.declared.refusals.Refusal.{Refusal}
use Rattle.bits.specs.Refusals.{number_of_refusal}
use Rattle.assembly.specs.Fields.{Named, firsts, known, span_of}
use Rattle.assembly.specs.Statements.{second_fault, target_fault}
use Rattle.bits.proofs.RefusalLaws.{number-positive}

-- where a search for the name comes to
pub named-found : (w : ℕ) (names : List ℕ) (k : ℕ) → Some k ≡ position (λ x. x == w) names → (k ≡ index_of w names) × (k < length names)
named-found w names k e =
    (ap (λ (o : Option ℕ). unwrap_or o (length names)) e ∙ sym (index_of_found w names), (position-Some (λ x. x == w) names k 0 (sym e)).0)

pub named-none : (w : ℕ) (names : List ℕ) → None ≡ position (λ x. x == w) names → length names ≡ index_of w names
named-none w names e = ap (λ (o : Option ℕ). unwrap_or o (length names)) e ∙ sym (index_of_found w names)

-- the field at the place of its name
pub span-at : (count : ℕ) (names : List ℕ) (spans : List Span) (w : ℕ) {k : ℕ} → k ≡ index_of w (take count names) → k < count → count ≤ length names → count ≤ length spans
    → ◌≡◌ {A = Option Span} (Some (get_or spans k (record { start = 0; width = 0 }))) (cond (known (firsts count names spans) w) (Some (span_of (firsts count names spans) w)) None)
unfolding span_of
span-at count names spans w {k} e h n m =
    let d : Span = record { start = 0; width = 0 } in
    let size : length (take count names) ≡ count = length-take-le count names n in
    let i = index_of w (take count names) in
    let yes : known (firsts count names spans) w ≡ true = lt-ltb i (length (take count names)) (omega (arith, e, h, size)) in
    let other : get_or (take count spans) i d ≡ get_or spans k d = get_or-take count spans i d (omega (arith, e, h)) ∙ ap (λ (x : ℕ). get_or spans x d) (sym e) in
    let span : ◌≡◌ {A = Span} (span_of (firsts count names spans) w) (get_or spans k d) =
    ap₂ (λ (x y : ℕ). record { start = x; width = y }) (get_or-map (λ (s : Span). s.start) (take count spans) i d) (get_or-map (λ (s : Span). s.width) (take count spans) i d)
    ∙ other in
    sym (ap (λ (b : Bool). cond b (Some (span_of (firsts count names spans) w)) None) yes ∙ ap (λ (s : Span). Some s) span)

-- no field has the name
pub span-none : (t : Named) (w : ℕ) → length t.names ≡ index_of w t.names → ◌≡◌ {A = Option Span} None (cond (known t w) (Some (span_of t w)) None)
span-none t w e = sym (ap (λ (b : Bool). cond b (Some (span_of t w)) None) (le-ltb (index_of w t.names) (length t.names) (omega (arith, e))))

fault-same : (t : Named) (a b n w : ℕ) → 0 < second_fault t n w → second_fault t n w ≡ target_fault t a b n w
unfolding second_fault target_fault
fault-same t a b n w h = grind (arith, nat_tests, common_steps)

-- what is refused of a field of n bits
pub target-refused : (t : Named) (a b n w : ℕ) (r : Refusal) → number_of_refusal r ≡ second_fault t n w → number_of_refusal r ≡ target_fault t a b n w
target-refused t a b n w r e = e ∙ fault-same t a b n w (omega (arith, e, number-positive r))
