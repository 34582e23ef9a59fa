-- How large the numbers in an answer can be, for whoever hands them on in fewer bits. Assumes nothing.
use mathlib.Core.Path.{◌≡◌, refl, subst}
use mathlib.Core.Bool.{true}
use mathlib.Core.List.{List}
use Prim.Native.Nat.{ℕ, ◌/◌, ◌≤◌}
use native.Mathlib.Omega.{arith}
use lib.ListN.{length}
use Rattle.bits.specs.Rows.{Row, NoRow}
use Rattle.bits.proofs.Rows.{up_to, first-number, number-high}
use Rattle.bits.proofs.Search.{count-le}
use Rattle.registers.specs.declared.Modes.{Modes}
use Rattle.judge.specs.declared.Lengths.{Lengths}
use Rattle.judge.specs.Answers.{Fault}
use Rattle.judge.specs.Answers.{Answer}
use Rattle.judge.specs.Instructions.{instruction_at, takes, gives}
use Rattle.judge.specs.Modes.{modes_after}
use Rattle.judge.specs.Judge.{run_rows, step_rows, refusal, done, judged, judged_step}
use Rattle.judge.specs.Numbers.{Refused, by-lent, by-instruction, by-item, by-room}
use Rattle.judge.proofs.Numbers.{Outcome, refused, accepted, outcome, first-fault, fault-high}
use Rattle.judge.proofs.Accepted.{run-fit, step-fit}

-- 18 is the last number, an instruction has eight bytes, and 4,096 of them are 32,768 bytes
pub record Bounded (a : Answer) : Type 0 where
  pub number : a.number ≤ 18
  pub place : a.place ≤ 4096
  pub byte : a.byte ≤ 7
  pub steps : a.steps ≤ 4096
  pub taken : a.taken ≤ 4096
  pub given : a.given ≤ 4096

refusal-bounds : (n p b : ℕ) → n ≤ 18 → p ≤ 4096 → b ≤ 7 → Bounded (refusal n p b)
refusal-bounds n p b hn hp hb = record { number = hn; place = hp; byte = hb; steps = omega arith; taken = omega arith; given = omega arith }

done-bounds : (list : List ℕ) → length list ≤ 32768 → Bounded (done list)
done-bounds list h =
    record {
      number = omega arith;
      place = omega arith;
      byte = omega arith;
      steps = omega arith;
      taken = omega (arith, count-le (λ k. takes (instruction_at list k)) (length list / 8));
      given = omega (arith, count-le (λ k. gives (instruction_at list k)) (length list / 8));
    }

refused-bounds : (rows : List Row) (l : Lengths) (modes : Modes) (list : List ℕ) → up_to 18 rows ≡ true → (NoRow rows → length list ≤ 32768)
    → (n k b : ℕ) → Refused rows l modes list n k b → Bounded (refusal n k b)
refused-bounds rows l modes list high size n k b (by-lent m f) =
    refusal-bounds m 0 0 (let e = first-number rows m f in let h = number-high 18 rows high in omega arith) (omega arith) (omega arith)
refused-bounds rows l modes list high size n k b (by-instruction m p c r h o f) =
    let w = subst (λ (x : Fault). (x.number ≤ 18) × (x.byte ≤ 7)) (first-fault (modes_after list modes p) (instruction_at list p) m c f) (fault-high (modes_after list modes p) (instruction_at list p)) in
    refusal-bounds m p c w.0 (omega (arith, size r)) w.1
refused-bounds rows l modes list high size n k b (by-item p r f h o t) = refusal-bounds 12 p 0 (omega arith) (omega (arith, size r)) (omega arith)
refused-bounds rows l modes list high size n k b (by-room p r f s h o t) = refusal-bounds 13 p 0 (omega arith) (omega (arith, size r)) (omega arith)

bounds : (rows : List Row) (l : Lengths) (modes : Modes) (list : List ℕ) → up_to 18 rows ≡ true → (NoRow rows → length list ≤ 32768)
    → (a : Answer) → Outcome rows l modes list a → Bounded a
bounds rows l modes list high size a (refused n k b u why) = refused-bounds rows l modes list high size n k b why
bounds rows l modes list high size a (accepted why) = done-bounds list (size why.lent)

pub judged-bounds : (l : Lengths) (modes : Modes) (list : List ℕ) → Bounded (judged l modes list)
judged-bounds l modes list =
    bounds (run_rows l modes list) l modes list refl (run-fit l modes list) (judged l modes list) (outcome (run_rows l modes list) l modes list refl)

pub step-bounds : (l : Lengths) (modes : Modes) (instruction : List ℕ) → Bounded (judged_step l modes instruction)
step-bounds l modes instruction =
    bounds (step_rows l modes instruction) l modes instruction refl (step-fit l modes instruction) (judged_step l modes instruction)
    (outcome (step_rows l modes instruction) l modes instruction refl)
