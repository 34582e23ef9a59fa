-- `codes::unlisted`: by the size of the group. Assumes nothing.
use Rattle.network.proofs.TableRules.{unlisted-wide, unlisted-below}
use Rattle.network.proofs.codes.unlisted.Goals as goal

pub returns-then-code-gt8 : goal.returns-then-code-gt8
returns-then-code-gt8 c = unlisted-wide c.args.code c.if-code-gt8.true

pub returns-else-code-gt8 : goal.returns-else-code-gt8
returns-else-code-gt8 c = unlisted-below c.args.code c.requires c.if-code-gt8.false
