-- `shift::ones`: all ones, moved down, by the computed test.
use Rattle.network.proofs.TurnLaws.{ones_shr}
use Rattle.network.proofs.shift.ones.Goals as goal

pub returns : goal.returns
returns c = ones_shr c.args.n c.requires.1
