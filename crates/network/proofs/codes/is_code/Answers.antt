-- `codes::is_code`: it is found exactly where it is permitted.
use mathlib.Core.Path.{ap, ◌∙◌}
use Rattle.std.specs.Option.{is_some}
use Rattle.network.proofs.TableRules.{found-test}
use Rattle.network.proofs.codes.is_code.Goals as goal

pub returns : goal.returns
returns c = c.is_some.ensures ∙ ap is_some c.find.ensures ∙ found-test c.args.code
