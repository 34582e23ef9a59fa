-- `statements::instruction_line`: an empty line makes nothing. Assumes nothing.
use mathlib.Core.Path.{sym, ◌∙◌}
use borrow.Author.Tests.{eqb-true}
use Rattle.assembly.proofs.LineLaws.{instruction-empty}
use Rattle.assembly.proofs.statements.instruction_line.Goals as goal

pub returns-then-is_empty : goal.returns-then-is_empty
returns-then-is_empty c = instruction-empty c.args.line.now (eqb-true _ 0 (sym c.is_empty.ensures ∙ c.if-is_empty.true))
