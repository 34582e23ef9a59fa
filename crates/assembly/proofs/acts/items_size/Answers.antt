-- `acts::items_size`: a search has items.
use mathlib.Core.Path.{sym, ap}
use native.Mathlib.Omega.{arith}
use Rattle.assembly.specs.Steps.{made}
use Rattle.assembly.proofs.ActLaws.{items-sized}
use Rattle.assembly.proofs.acts.items_size.Goals as goal

pub returns-in-Search : goal.returns-in-Search
returns-in-Search c = (omega arith, sym (items-sized (ap made c.in-Search.is)))
