-- `acting::put_out`: what the copy makes of the part is the next part. Assumes nothing.
use mathlib.Core.Path.{ap, ◌∙◌}
use Rattle.module.specs.Act.{put_part}
use Rattle.module.proofs.PartLaws.{part-put}
use Rattle.module.proofs.acting.put_out.Goals as goal

pub returns : goal.returns
returns c = let a = c.args in part-put a.out.now a.given _ ∙ ap (put_part a.out.now a.given) c.copy_from_slice.ensures.after
