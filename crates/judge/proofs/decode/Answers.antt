-- `judge::decode`: eight reads, one after the other. Assumes nothing.
use mathlib.Core.Path.{refl}
use Rattle.judge.specs.Instructions.{instruction_at}
use Rattle.judge.proofs.decode.Goals as goal

pub returns : goal.returns
unfolding instruction_at
returns c = refl
