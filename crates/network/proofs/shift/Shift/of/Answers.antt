-- `shift::Shift::of`: a permitted code gives a shift.
use Rattle.network.proofs.TableRules.{shift}
use Rattle.network.proofs.shift.Shift.of.Goals as goal

pub invariant_of-result : goal.invariant_of-result
invariant_of-result c = let w = shift c.args.code c.requires in record { ordered = w.below; within = w.within }
