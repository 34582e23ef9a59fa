-- `put_chip`: the one write.
use mathlib.Core.Path.{refl}
use Rattle.words.proofs.ordering.put_chip.Goals as goal

-- the answer before the bounds of its steps, so that another byte is refused as one
pub returns : goal.returns
returns c = refl
