-- `rows::shift_fault`: a byte 6 that is found has neither number; of one that is not, `unlisted` says which. Assumes nothing.
use mathlib.Core.Path.{sym, ◌∙◌}
use Rattle.judge.proofs.FormLaws.{code-found, code-lost}
use Rattle.judge.proofs.rows.shift_fault.Goals as goal

pub returns-then-is_code : goal.returns-then-is_code
returns-then-is_code c = code-found c.args.code _ (sym c.is_code.ensures ∙ c.if-is_code.true)

pub unlisted-requires : goal.unlisted-requires
unlisted-requires c = sym c.is_code.ensures ∙ c.if-is_code.false

pub returns : goal.returns
returns c = code-lost c.args.code _ _ (sym c.is_code.ensures ∙ c.if-is_code.false) c.unlisted.ensures
