-- The promise: every list of whole instructions, whatever its bytes, is shown as a text that makes the same bytes again, with no refusal. Assumes nothing.
use mathlib.Core.Path.{◌≡◌, refl, ap, ◌∙◌}
use mathlib.Core.Bool.{Bool, true, false, cond}
use mathlib.Core.List.{List, ◌++◌}
use Prim.Native.Nat.{ℕ, zero, suc, ◌*◌, ◌/◌, ◌%◌, ◌≤◌}
use native.Mathlib.Omega.{arith}
use lib.Dec.{ltb}
use lib.ListN.{length, drop, length-append}
use Rattle.bits.proofs.Rows.{taken}
use Rattle.registers.specs.Modes.{none_set}
use Rattle.judge.specs.Instructions.{instruction_at}
use Rattle.judge.specs.Modes.{modes_after}
use Rattle.judge.specs.Judge.{unfit}
use Rattle.judge.proofs.RowLaws.{fit-whole, fit-size}
use Rattle.text.specs.Show.{Shown, shown_at, shown_from, shown_text, shown_as, shown_answer, shown_out}
use Rattle.text.specs.Make.{answer, number_of, made_bytes, last_of, made_answer, made_out}
use Rattle.text.proofs.MadeLaws as made
use Rattle.text.proofs.ReadLaws.{AllBytes, round_trip}
use Rattle.text.proofs.ShownLaws as shown
use Rattle.text.proofs.ShownLaws.{line-fits}

pub make-show : (list : List ℕ) → length list % 8 ≡ 0 → AllBytes list → (made_bytes (shown_text list) ≡ list) × (number_of (last_of (shown_text list)).line.phase ≡ 0)
unfolding shown_text
make-show list h b = round_trip list (length list / 8) (omega arith) b

-- a text is at most 192 characters a line
shown-length : (list : List ℕ) (n k : ℕ) → length (shown_from list k n) ≤ 192 * n
unfolding shown_from
shown-length list zero k = omega arith
shown-length list (suc n) k =
    let r = shown-length list n (suc k) in
    omega (arith, length-append (shown_at list k) (shown_from list (suc k) n), line-fits (modes_after list none_set k) (instruction_at list k))

-- what showing counts is at most 4,096 lines of 192
pub shown-few : (list : List ℕ) (room : ℕ) → (shown_answer list room).count ≤ 786432
unfolding shown_answer shown_text
shown-few list room = go (unfit 8 (length list)) refl
  where
    Few : Shown → Type 0
    Few r = r.count ≤ 786432

    go : (b : Bool) → unfit 8 (length list) ≡ b → Few (cond b (shown_as 3 0) (cond (ltb room (length (shown_from list 0 (length list / 8)))) (shown_as 27 0) (shown_as 0 (length (shown_from list 0 (length list / 8))))))
    go true e = omega arith
    go false e =
        taken Few (shown_as 27 0) (shown_as 0 (length (shown_from list 0 (length list / 8)))) (ltb room (length (shown_from list 0 (length list / 8)))) (omega arith)
        (omega (arith, shown-length list (length list / 8) 0, fit-size 8 (length list) e))

-- The same of the two calls: where a list of whole instructions, of at most 32,768 bytes, is shown into a buffer that is long enough, and the text is made into one that is, both are done, and the list comes back.
pub make-after-show : (list text out : List ℕ) → unfit 8 (length list) ≡ false → AllBytes list → length (shown_text list) ≤ length text → length list ≤ length out
    → (shown_answer list (length text) ≡ shown_as 0 (length (shown_text list)))
    × (shown_out list text ≡ shown_text list ++ drop (length (shown_text list)) text)
    × (made_answer (shown_text list) (length out) ≡ answer 0 0 0 (length list))
    × (made_out (shown_text list) out ≡ list ++ drop (length list) out)
unfolding shown_text
make-after-show list text out w b s r =
    let back = make-show list (fit-whole 8 (length list) w) b in
    let size = ap length back.0 in
    let most = fit-size 8 (length list) w in
    let a = shown.done list text w s in
    let m = made.done (shown_text list) out (omega (arith, shown-length list (length list / 8) 0)) back.1 (omega (arith, size)) (omega (arith, size)) in
    (a.0, a.1, m.0 ∙ ap (λ (x : List ℕ). answer 0 0 0 (length x)) back.0, m.1 ∙ ap (λ (x : List ℕ). x ++ drop (length x) out) back.0)
