-- `acts::list_size`: one answer for each kind of line.
use mathlib.Core.Path.{sym, ap, ◌∙◌}
use native.Mathlib.Omega.{arith}
use Rattle.assembly.specs.Steps.{made}
use Rattle.assembly.proofs.ActLaws.{one-sized, sum-sized, search-sized, greatest-sized}
use Rattle.assembly.proofs.acts.list_size.Goals as goal

pub returns-in-One : goal.returns-in-One
returns-in-One c = (omega arith, sym (one-sized (ap made c.in-One.is)))

pub returns-in-Sum : goal.returns-in-Sum
returns-in-Sum c = (c.sum_size.ensures.0, c.sum_size.ensures.1 ∙ sym (sum-sized (ap made c.in-Sum.is)))

pub returns-in-Search : goal.returns-in-Search
returns-in-Search c = (omega arith, sym (search-sized (ap made c.in-Search.is)))

pub returns-in-Greatest : goal.returns-in-Greatest
returns-in-Greatest c = (omega arith, sym (greatest-sized (ap made c.in-Greatest.is)))
