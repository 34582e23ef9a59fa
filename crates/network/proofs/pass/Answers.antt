-- `pass`: the two answers, by whether the code is permitted.
use mathlib.Core.Path.{sym, ◌∙◌}
use Rattle.network.proofs.AnswerLaws.{given, refused}
use Rattle.network.proofs.pass.Goals as goal

pub returns-then-not-is_code : goal.returns-then-not-is_code
returns-then-not-is_code c = refused _ _ _ _ (sym c.is_code.ensures ∙ c.if-not-is_code.true) c.unlisted.ensures

pub returns : goal.returns
returns c = given _ _ _ _ (sym c.is_code.ensures ∙ c.if-not-is_code.false) c.pass_item.ensures
