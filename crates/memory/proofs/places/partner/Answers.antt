-- `partner`: the code is the definition; its range is a law.
use mathlib.Core.Path.{refl}
use Rattle.memory.proofs.GroupLaws.{partner-lt}
use native.Mathlib.Omega.{arith}
use Rattle.memory.proofs.places.partner.Goals as goal

pub returns : goal.returns
returns c = (refl, partner-lt c.args.addr c.args.t (omega arith))
