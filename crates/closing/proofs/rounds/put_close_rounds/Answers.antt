-- `closing::rounds::put_close_rounds`: the buffer has the first t rounds, by `rounds-more`. Assumes nothing.
use mathlib.Core.Path.{sym}
use Prim.Native.Nat.{◌+◌, ◌*◌}
use native.Mathlib.Omega.{arith}
use Rattle.bits.proofs.Puts.{put-nil}
use Rattle.builders.specs.Lists.{encoded, rounds}
use Rattle.closing.specs.Closing.{close_round}
use Rattle.closing.proofs.Lengths.{length-close-rounds}
use Rattle.builders.proofs.PutLaws.{rounds-more}
use Rattle.closing.proofs.rounds.put_close_rounds.Goals as goal

pub loop-t-init : goal.loop-t-init
unfolding rounds encoded
loop-t-init c = sym (put-nil _ _)

pub loop-t-preserved : goal.loop-t-preserved
loop-t-preserved c =
    let a = c.args in
    let l = c.loop-t in
    let o = c.put_close_round in
    rounds-more (close_round a.f.s a.f.n) l.t a.at (a.at + l.t * (1 + 2 * a.f.n)) a.list.now l.list o.new.list (omega arith)
    (omega (arith, length-close-rounds a.f.s a.f.n l.t)) l.invariant o.ensures
