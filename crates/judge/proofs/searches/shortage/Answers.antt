-- `judge::searches::shortage`: by whether room or an item is meant. Assumes nothing.
use mathlib.Core.Path.{sym, ap, ◌∙◌}
use mathlib.Core.Bool.{Bool}
use Prim.Native.Nat.{◌/◌}
use lib.ListN.{length}
use Rattle.std.proofs.Common.{rules}
use Rattle.bits.specs.Search.{first}
use Rattle.judge.specs.Instructions.{takes, gives}
use Rattle.judge.specs.Judge.{lacks, uses}
use Rattle.judge.proofs.searches.shortage.Goals as goal

pub returns-then-room : goal.returns-then-room
returns-then-room c =
    let a = c.args in
    c.shortage_of.ensures gives (λ i w h. search rules)
    ∙ sym (ap (λ (b : Bool). first (lacks (uses b) a.list.now a.have) 0 (length a.list.now / 8)) c.if-room.true)

pub returns-else-room : goal.returns-else-room
returns-else-room c =
    let a = c.args in
    c.shortage_of-else-room.ensures takes (λ i w h. search rules)
    ∙ sym (ap (λ (b : Bool). first (lacks (uses b) a.list.now a.have) 0 (length a.list.now / 8)) c.if-room.false)
