-- `acts::put_sum`: either builder fills a buffer of just its length.
use Rattle.std.proofs.Common.{ap}
use Rattle.assembly.specs.Steps.{is_difference}
use Rattle.assembly.proofs.BuildLaws.{sum_left, difference-left}
use Rattle.assembly.proofs.acts.put_sum.Goals as goal

pub returns-in-Sum : goal.returns-in-Sum
returns-in-Sum c = sum_left c.requires.0 (is_difference c.args.adding) c.args.list.now (ap is_difference c.in-Sum.is) c.requires.1 c.sum_list-built.ensures

pub returns-in-Difference : goal.returns-in-Difference
returns-in-Difference c =
    difference-left c.requires.0 (is_difference c.args.adding) c.args.list.now (ap is_difference c.in-Difference.is) c.requires.1 c.difference_list-built.ensures
