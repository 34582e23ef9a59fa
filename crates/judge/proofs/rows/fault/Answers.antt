-- `judge::rows::fault`: the three parts of the table, one behind the other. Assumes nothing.
use mathlib.Core.Path.{refl, sym, ap, ◌∙◌}
use mathlib.Core.Bool.{Bool, cond}
use Rattle.judge.specs.Answers.{Fault, fault_given}
use Rattle.judge.specs.ByteRows.{fault_in}
use Rattle.judge.specs.Judge.{access_rows, move_rows, logic_rows, fault_of}
use Rattle.judge.proofs.ByteRowLaws.{given-first, given-none}
use Rattle.judge.proofs.rows.fault.Goals as goal

-- the last part, by its one condition
abbrev by_logic : Bool → Fault
by_logic t = cond t (record { number = 11; byte = 7 }) (record { number = 0; byte = 0 })

pub returns-in_err-access_fault : goal.returns-in_err-access_fault
unfolding fault_of
returns-in_err-access_fault c = given-first (access_rows c.args.m c.args.i) _ _ _ c.from_residual.ensures.1 c.in_err-access_fault.ensures

pub returns-in_err-move_fault : goal.returns-in_err-move_fault
unfolding fault_of
returns-in_err-move_fault c =
    given-first (move_rows c.args.i) (fault_in (logic_rows c.args.i)) _ _ c.from_residual-in_err-move_fault.ensures.1 c.in_err-move_fault.ensures
    ∙ sym (given-none (access_rows c.args.m c.args.i) _ refl c.in_ok-access_fault.ensures)

pub returns-then-wrong_logic : goal.returns-then-wrong_logic
unfolding fault_of
returns-then-wrong_logic c =
    ap fault_given c.refused.ensures
    ∙ sym (ap by_logic (sym c.wrong_logic.ensures ∙ c.if-wrong_logic.true))
    ∙ sym (given-none (move_rows c.args.i) _ refl c.in_ok-move_fault.ensures)
    ∙ sym (given-none (access_rows c.args.m c.args.i) _ refl c.in_ok-access_fault.ensures)

pub returns : goal.returns
unfolding fault_of
returns c =
    sym (ap by_logic (sym c.wrong_logic.ensures ∙ c.if-wrong_logic.false))
    ∙ sym (given-none (move_rows c.args.i) (fault_in (logic_rows c.args.i)) refl c.in_ok-move_fault.ensures)
    ∙ sym (given-none (access_rows c.args.m c.args.i) _ refl c.in_ok-access_fault.ensures)
