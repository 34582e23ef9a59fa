-- `builders::writing::put_all`: the buffer has the first k of them, by `all-more`. Assumes nothing.
use mathlib.Core.Path.{sym}
use native.Mathlib.Omega.{arith}
use Rattle.bits.proofs.Puts.{put-nil}
use Rattle.builders.specs.Lists.{encoded}
use Rattle.builders.proofs.PutLaws.{all-more}
use Rattle.builders.proofs.writing.put_all.Goals as goal

pub loop-k-init : goal.loop-k-init
unfolding encoded
loop-k-init c = sym (put-nil _ _)

pub loop-k-preserved : goal.loop-k-preserved
loop-k-preserved c =
    let l = c.loop-k in
    all-more c.args.instructions.now _ l.k c.args.at c.args.list.now l.list c.put.new.list (omega arith) (omega arith) l.invariant c.put.ensures
