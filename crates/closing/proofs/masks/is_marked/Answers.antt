-- `closing::masks::is_marked`: number w of the marks, as the code reads it. Assumes nothing.
use mathlib.Core.Path.{refl}
use Rattle.bits.specs.Bits.{bit_of}
use Rattle.closing.proofs.masks.is_marked.Goals as goal

pub returns : goal.returns
unfolding bit_of
returns c = refl
