-- `staran_version`: the two numbers of the version in one. Assumes nothing.
use mathlib.Core.Path.{refl}
use Rattle.library.proofs.staran_version.Goals as goal

pub returns : goal.returns
returns c = refl
