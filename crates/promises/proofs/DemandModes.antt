-- Document 02, Seven, of specs/DemandModes.antt: the judge's laws of an instruction without a number, in the state in which it acts. Assumes nothing.
use mathlib.Core.Path.{◌≡◌, ap, ◌∙◌}
use mathlib.Core.List.{List}
use Prim.Native.Nat.{ℕ, ◌/◌, ◌<◌}
use lib.ListN.{length}
use Rattle.registers.specs.declared.Modes.{Modes}
use Rattle.registers.specs.Modes.{modes_of}
use Rattle.registers.specs.Rows.{registers_of}
use Rattle.judge.specs.Instructions.{instruction_at}
use Rattle.judge.specs.Modes.{modes_after}
use Rattle.judge.specs.Judge.{fault_of, judged}
use Rattle.judge.proofs.Accepted.{run-accepted}
use Rattle.judge.proofs.ModeLaws.{counts-A, counts-B, uses-set, mode-given}
use Rattle.module.specs.Run.{Lent, run_lengths, begun}
use Rattle.module.proofs.RunLaws.{modes-ran}
use Rattle.promises.specs.DemandModes.{acts_in, DemandModes}

module _ (l : Lent (List ℕ)) where
  abbrev start : Modes
  start = modes_of l.registers

  run-has : (k : ℕ) → (acts_in l k).regs.modes ≡ modes_after l.list start k
  run-has = modes-ran l.list l.items (begun l (registers_of l.registers))

  -- no instruction of an accepted list has a number, by the mode registers that it finds
  unfaulted : (judged (run_lengths l) start l.list).number ≡ 0 → (k : ℕ) → k < length l.list / 8
      → (fault_of (acts_in l k).regs.modes (instruction_at l.list k)).number ≡ 0
  unfaulted e k h =
      ap (λ (m : Modes). (fault_of m (instruction_at l.list k)).number) (run-has k) ∙ (run-accepted (run_lengths l) start l.list e).formed k h

  pub demand-modes : DemandModes l
  demand-modes =
      record {
        counts_as_set = λ k. record { set_a = counts-A l.list start k; set_b = counts-B l.list start k };
        counted = run-has;
        never_unset = λ e k h. uses-set (acts_in l k).regs.modes (instruction_at l.list k) (unfaulted e k h);
        mode_given = λ e k h. mode-given (acts_in l k).regs.modes (instruction_at l.list k) (unfaulted e k h);
      }
