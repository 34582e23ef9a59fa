-- `kind_written`: each arm is a law of SessionLaws.
use mathlib.Core.Path.{sym, ap, ◌∙◌}
use Rattle.registers.specs.Modes.{any_set}
use Rattle.session.proofs.SessionLaws.{written-modes, written-set, written-unset}
use Rattle.session.proofs.kind_written.Goals as goal

pub returns-in-ModesPicture : goal.returns-in-ModesPicture
returns-in-ModesPicture c = let a = c.args in written-modes a.registers.now a.took c.in-ModesPicture.is

pub returns-in_default : goal.returns-in_default
returns-in_default c =
    let a = c.args in
    let s = c.any_set.ensures ∙ ap (λ m. any_set m) c.modes_of.ensures in
    written-set a.registers.now a.took (sym s ∙ c.if-any_set.true)

pub returns-in_default-2 : goal.returns-in_default-2
returns-in_default-2 c =
    let a = c.args in
    let s = c.any_set.ensures ∙ ap (λ m. any_set m) c.modes_of.ensures in
    written-unset a.registers.now a.took c.in_default-2.not-ModesPicture (sym s ∙ c.if-any_set.false)
