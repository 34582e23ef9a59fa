-- Laws of a line: by its first word; and of one that is an instruction, one for each outcome. Assumes nothing.
use mathlib.Core.Path.{◌≡◌, refl, sym, ap, ◌∙◌}
use mathlib.Core.Bool.{Bool, true, false, cond}
use mathlib.Core.List.{List, [], ◌∷◌}
use Prim.Native.Nat.{ℕ}
use native.Mathlib.Omega.{arith}
use borrow.Author.Tests.{eq-eqb, ne_eqb}
use lib.Dec.{eqb}
use lib.ListN.{length}
use lib.Pointwise.{pointwise}
use Rattle.assembly.proofs.WordLaws.{same-pointwise}
use Rattle.bits.specs.Search.{index_of}
use Rattle.judge.specs.Instructions.{instruction_at}
use Rattle.text.specs.Make.{Made, ended, closed, character, stepped, brought, emitted, ends, made_bytes, last_of, made_answer, made_out}
use Rattle.assembly.specs.declared.Word.{Word}
use Rattle.assembly.specs.Act.{Nothing, Refused, One}
use Rattle.assembly.specs.Words.{part}
use Rattle.assembly.specs.Fields.{Named}
use Rattle.assembly.specs.Statements.{statements, difference, sum_line, eight, instruction_line, named_line, line_by}

-- ---- by its first word

module _ (t : Named) (line : List ℕ) (w : Word) {b : Bool} (long : b ≡ pointwise eqb (part line w.start w.next) difference) where
  by-test : {c : Bool} → b ≡ c → line_by t line w ≡ cond c (sum_line true t line w.next) (named_line t line w.next (index_of w.word statements))
  unfolding line_by
  by-test e =
      ap (λ (x : Bool). cond x (sum_line true t line w.next) (named_line t line w.next (index_of w.word statements)))
      (same-pointwise (part line w.start w.next) difference ∙ sym long ∙ e)

  pub by-long : b ≡ true → line_by t line w ≡ sum_line true t line w.next
  by-long e = by-test e

  pub by-word : b ≡ false → (v : ℕ) → w.word ≡ v → line_by t line w ≡ named_line t line w.next (index_of v statements)
  by-word e v is = by-test e ∙ ap (λ (x : ℕ). named_line t line w.next (index_of x statements)) is

  -- no statement has this name
  pub by-none : b ≡ false → (w.word ≡ 0x6669656c64 → ⊥) → (w.word ≡ 0x73756d → ⊥) → (w.word ≡ 0x657175616c → ⊥) → (w.word ≡ 0x6c657373 → ⊥)
      → (w.word ≡ 0x6772656174657374 → ⊥) → (w.word ≡ 0x7265616368 → ⊥) → line_by t line w ≡ instruction_line line
  unfolding index_of
  by-none e x₀ x₁ x₂ x₃ x₄ x₅ =
      by-test e
      ∙ simp (
        ne_eqb 0x6669656c64 w.word (λ z. x₀ (sym z)),
        ne_eqb 0x73756d w.word (λ z. x₁ (sym z)),
        ne_eqb 0x657175616c w.word (λ z. x₂ (sym z)),
        ne_eqb 0x6c657373 w.word (λ z. x₃ (sym z)),
        ne_eqb 0x6772656174657374 w.word (λ z. x₄ (sym z)),
        ne_eqb 0x7265616368 w.word (λ z. x₅ (sym z)),
      )

-- ---- an instruction

module _ (line : List ℕ) {r : Made} (e : r ≡ made_answer line 8) where
  number-as : r.number ≡ (made_answer line 8).number
  number-as = ap (λ (x : Made). x.number) e

  count-as : r.count ≡ (made_answer line 8).count
  count-as = ap (λ (x : Made). x.count) e

  pub instruction-refused : (r.number ≡ 0 → ⊥) → Refused r.number r.column ≡ instruction_line line
  unfolding instruction_line
  instruction-refused u = ap (λ (x : Made). Refused x.number x.column) e ∙ sym (simp (ne_eqb (made_answer line 8).number 0 (λ z. u (number-as ∙ z))))

  pub instruction-nothing : r.number ≡ 0 → r.count ≡ 0 → Nothing ≡ instruction_line line
  unfolding instruction_line
  instruction-nothing z k = sym (simp (eq-eqb (made_answer line 8).number 0 (sym number-as ∙ z), eq-eqb (made_answer line 8).count 0 (sym count-as ∙ k)))

  pub instruction-one : r.number ≡ 0 → (r.count ≡ 0 → ⊥) → (l : List ℕ) → l ≡ made_out line eight → One (instruction_at l 0) ≡ instruction_line line
  unfolding instruction_line
  instruction-one z u l q =
      ap (λ (x : List ℕ). One (instruction_at x 0)) q
      ∙ sym (simp (eq-eqb (made_answer line 8).number 0 (sym number-as ∙ z), ne_eqb (made_answer line 8).count 0 (λ k. u (count-as ∙ k))))

-- one with no character makes nothing
pub instruction-empty : (line : List ℕ) → length line ≡ 0 → Nothing ≡ instruction_line line
unfolding instruction_line made_answer made_bytes last_of emitted ends stepped character closed ended brought
instruction-empty [] e = refl
instruction-empty (c ∷ cs) e = absurd (omega (arith, e))
