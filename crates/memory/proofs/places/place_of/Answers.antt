-- `place_of`: the code is the definition; its range is a law.
use mathlib.Core.Path.{refl}
use Rattle.memory.proofs.GroupLaws.{place_of-lt}
use native.Mathlib.Omega.{arith}
use Rattle.memory.proofs.places.place_of.Goals as goal

pub returns : goal.returns
returns c = (refl, place_of-lt c.args.mode c.args.addr c.args.t (omega arith))
