-- `acts::build`: an instruction takes eight bytes.
use mathlib.Core.Path.{ap, ◌∙◌}
use Rattle.assembly.specs.Steps.{made}
use Rattle.assembly.proofs.ActLaws.{one-sized}
use Rattle.assembly.proofs.acts.build.Goals as goal

pub put_one-requires : goal.put_one-requires
put_one-requires c = c.requires.1 ∙ one-sized (ap made c.in-One.is)
