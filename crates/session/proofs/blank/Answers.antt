-- `blank`: the zeros are those of `out_bytes`.
use mathlib.Core.Path.{refl}
use Rattle.session.specs.Session.{out_bytes}
use Rattle.session.proofs.blank.Goals as goal

pub returns : goal.returns
unfolding out_bytes
returns c = (refl, refl)
