-- `acting::act_still`: a resolve, or kind 6. Assumes nothing.
use mathlib.Core.Path.{ap, ◌∙◌}
use native.Mathlib.Omega.{arith}
use Rattle.module.specs.Act.{put_part}
use Rattle.module.proofs.ActLaws.{resolved-is, set_is}
use Rattle.module.proofs.acting.act_still.Goals as goal

pub returns-then-i-eq-RESOLVE : goal.returns-then-i-eq-RESOLVE
returns-then-i-eq-RESOLVE c mem items m e =
    let a = c.args in
    resolved-is a.i a.r m e mem items a.out.now a.taken a.given c.requires.2 c.if-i-eq-RESOLVE.true _
    (c.put_out.ensures ∙ ap (put_part a.out.now a.given) c.resolve-x.ensures)

pub returns : goal.returns
returns c mem items m e =
    let a = c.args in
    set_is a.i a.r m e mem items a.out.now a.taken a.given c.requires.2 (omega (arith, c.requires.0, c.requires.1))
