-- `judge::forms::idle`: three reads. Assumes nothing.
use mathlib.Core.Path.{refl}
use Rattle.judge.specs.Instructions.{instruction_at}
use Rattle.judge.proofs.forms.idle.Goals as goal

pub returns : goal.returns
unfolding instruction_at
returns c = refl
