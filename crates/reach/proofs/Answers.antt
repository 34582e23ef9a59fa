-- What is answered, as code comes to it: what one instruction reaches, its bytes behind those of the others, and the two outcomes. Assumes nothing.
use mathlib.Core.Path.{◌≡◌, refl, sym, ap, ap₂, ◌∙◌}
use mathlib.Core.Bool.{Bool, true, false, cond, not, ◌&&◌}
use mathlib.Core.List.{List, ◌++◌}
use Prim.Native.Nat.{ℕ, zero, suc, ◌+◌, ◌*◌, ◌/◌, ◌≤◌}
use native.Mathlib.Numerals.{add-one}
use native.Mathlib.Omega.{arith}
use lib.Dec.{eqb}
use lib.ListN.{length, drop, length-append}
use borrow.Author.Tests.{eq-eqb, ne_eqb, eqb-true, ltb-false, not-true, not-false, eqb-false}
use Rattle.bits.specs.Bits.{two}
use Rattle.bits.specs.Steps.{put_at}
use Rattle.std.specs.Prelude.{Result, Ok, Err}
use Rattle.std.specs.Result.{IsErrAnd}
use Rattle.bits.specs.declared.refusals.Refusal.{Refusal}
use Rattle.bits.specs.Refusals.{number_of_refusal}
use Rattle.bits.proofs.RefusalLaws.{number-injective, number-never-zero}
use Rattle.bits.specs.Rows.{Row, number_of}
use Rattle.bits.proofs.Rows.{taken, number-none, row-off}
use Rattle.bits.proofs.Puts.{put-put, put_front}
use Rattle.registers.specs.declared.Modes.{Modes}
use Rattle.registers.specs.Modes.{modes_of}
use Rattle.judge.specs.declared.Instruction.{Instruction}
use Rattle.judge.specs.Answers.{Fault}
use Rattle.judge.specs.Instructions.{instruction_at, stores}
use Rattle.judge.specs.Modes.{modes_after, mode_of}
use Rattle.judge.specs.Judge.{fault_of}
use Rattle.judge.proofs.RowLaws.{fit-size}
use Rattle.reach.specs.Reach.{Reached, reached_of, reach_of, reach_by, reach_at, reach_bytes, answer_bytes, reach_rows, reach_number, reach_answer, reach_out}
use Rattle.reach.proofs.CountLaws.{reach-le}

-- ---- one instruction

module _ (m : Modes) (i : Instruction) where
  abbrev by_tests : Bool → Bool → ℕ
  by_tests storing sound = cond (storing && sound) (reach_of (mode_of m i)) 0

  pub by_le : reach_by m i ≤ 256
  unfolding reach_by
  by_le = taken (λ (n : ℕ). n ≤ 256) (reach_of (mode_of m i)) 0 (stores i && eqb (fault_of m i).number 0) (reach-le (mode_of m i)) (omega arith)

  module _ (storing : Bool) (es : storing ≡ stores i) where
    -- it does not store
    pub idle-is : not storing ≡ true → 0 ≡ reach_by m i
    unfolding reach_by
    idle-is u = ap (λ (b : Bool). by_tests b (eqb (fault_of m i).number 0)) (sym (not-true storing u) ∙ es)

    -- it stores, and has a number or has none
    module _ (h : not storing ≡ false) (fault : Fault) (ef : fault ≡ fault_of m i) where
      by-fault : by_tests true (eqb fault.number 0) ≡ reach_by m i
      unfolding reach_by
      by-fault = ap₂ (λ (b : Bool) (f : Fault). by_tests b (eqb f.number 0)) (sym (not-false storing h) ∙ es) ef

      pub refused-is : (fault.number ≡ 0 → ⊥) → 0 ≡ reach_by m i
      refused-is u = sym (ap (by_tests true) (ne_eqb fault.number 0 u)) ∙ by-fault

      pub reached-is : fault.number ≡ 0 → reach_of (mode_of m i) ≡ reach_by m i
      reached-is z = sym (ap (by_tests true) (eq-eqb fault.number 0 z)) ∙ by-fault

-- ---- the bytes

module _ (m : Modes) (list : List ℕ) where
  pub length-bytes : (n : ℕ) → length (reach_bytes m list n) ≡ 2 * n
  unfolding reach_bytes
  length-bytes zero = refl
  length-bytes (suc n) = length-append (reach_bytes m list n) (two (reach_at m list n)) ∙ omega (arith, length-bytes n)

  -- one instruction more: `modes` and i are what the walk has at instruction k, and x what i reaches
  pub bytes-more : (k x : ℕ) (modes : Modes) (i : Instruction) (xs l l' : List ℕ)
      → modes ≡ modes_after list m k → i ≡ instruction_at list k → x ≡ reach_by modes i
      → l ≡ put_at 0 (reach_bytes m list k) xs → l' ≡ put_at (2 * k) (two x) l → l' ≡ put_at 0 (reach_bytes m list (k + 1)) xs
  unfolding reach_bytes
  bytes-more k x modes i xs l l' em ei ex el el' =
      el'
      ∙ ap₂ (λ (n : ℕ) (z : List ℕ). put_at (2 * k) (two n) z) (ex ∙ ap₂ reach_by em ei) el
      ∙ put-put 0 (2 * k) (reach_bytes m list k) (two (reach_at m list k)) xs (omega arith) (omega (arith, length-bytes k))
      ∙ sym (ap (λ (n : ℕ). put_at 0 (reach_bytes m list n) xs) (add-one k))

-- ---- what a result of the code tells of the answer

pub reached-err : (r : Result ℕ Refusal) (e : Refusal) → IsErrAnd r (λ x. x ≡ e) → reached_of r ≡ record { number = number_of_refusal e; count = 0 }
reached-err (Ok x) e h = absurd h
reached-err (Err x) e h = ap (λ (y : Refusal). record { number = number_of_refusal y; count = 0 }) h

pub reached_of-injective : (r s : Result ℕ Refusal) → reached_of r ≡ reached_of s → r ≡ s
reached_of-injective (Ok x) (Ok y) p = ap (λ (f : Reached). Ok f.count) p
reached_of-injective (Ok x) (Err g) p = absurd (eqb-false (number_of_refusal g) 0 (number-never-zero g) (sym (ap (λ (f : Reached). f.number) p)))
reached_of-injective (Err f) (Ok y) p = absurd (eqb-false (number_of_refusal f) 0 (number-never-zero f) (ap (λ (f : Reached). f.number) p))
reached_of-injective (Err f) (Err g) p = ap (λ (r : Refusal). Err r) (number-injective f g (ap (λ (f : Reached). f.number) p))

-- ---- the two outcomes: `wrong` is the number of what is lent, and m the mode registers that were read

module _ (registers list out : List ℕ) (m : Modes) (em : m ≡ modes_of registers)
    (wrong : ℕ) (ew : wrong ≡ number_of (reach_rows (length registers) m list (length out))) where
  -- what is lent is judged by those
  judged : wrong ≡ reach_number registers list (length out)
  judged = ew ∙ ap (λ (x : Modes). number_of (reach_rows (length registers) x list (length out))) em

  -- what is answered, and what is left in the buffer
  abbrev Leaves : Reached → List ℕ → Type 0
  Leaves answer l = (answer ≡ reach_answer registers list (length out)) × (l ≡ reach_out registers list out)

  -- refused: the count is 0, and the buffer as it was
  pub lent-refused : (wrong ≡ 0 → ⊥) → Leaves (record { number = wrong; count = 0 }) out
  unfolding reach_answer reach_out
  lent-refused u =
      let off = ne_eqb (reach_number registers list (length out)) 0 (λ z. u (judged ∙ z)) in
      (ap (λ (n : ℕ). record { number = n; count = 0 }) judged ∙ sym (simp off), sym (simp off))

  -- else there is room
  pub lent-roomy : wrong ≡ 0 → answer_bytes list ≤ length out
  lent-roomy z =
      let rows = reach_rows (length registers) m list (length out) in
      omega (arith, ltb-false (length out) _ (row-off rows (number-none rows refl (sym ew ∙ z)) 27))

  -- the bytes are counted, and they stand at the buffer's front
  pub lent-done : wrong ≡ 0 → (l : List ℕ) → l ≡ put_at 0 (reach_bytes m list (length list / 8)) out → Leaves (record { number = 0; count = answer_bytes list }) l
  unfolding reach_answer reach_out
  lent-done z l e =
      let on = eq-eqb (reach_number registers list (length out)) 0 (sym judged ∙ z) in
      let front = put_front (reach_bytes m list (length list / 8)) out in
      let same = ap₂ (λ (x : Modes) (n : ℕ). reach_bytes x list (length list / 8) ++ drop n out) em (length-bytes m list (length list / 8)) in
      (sym (simp on), e ∙ front ∙ same ∙ sym (simp on))

-- the count is that of at most 4,096 instructions
pub reach_few : (registers list : List ℕ) (room : ℕ) → (reach_answer registers list room).count ≤ 8192
unfolding reach_answer
reach_few registers list room = go (eqb (reach_number registers list room) 0) refl
  where
    rows : List Row
    rows = reach_rows (length registers) (modes_of registers) list room

    go : (b : Bool) → eqb (reach_number registers list room) 0 ≡ b
        → (cond {A = Reached} b (record { number = 0; count = answer_bytes list }) (record { number = reach_number registers list room; count = 0 })).count ≤ 8192
    go true e = omega (arith, fit-size 8 (length list) (row-off rows (number-none rows refl (eqb-true (reach_number registers list room) 0 e)) 3))
    go false e = omega arith
