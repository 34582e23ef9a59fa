-- `read_group`: each turn is one write more.
use mathlib.Core.Path.{refl}
use Prim.Native.Nat.{◌+◌, ◌*◌}
use lib.ListN.{get_or, length-set}
use Rattle.bits.specs.Steps.{written}
use Rattle.bits.proofs.Writes.{written-more}
use borrow.Author.Rules.{rules}
use Rattle.memory.proofs.reading.read_group.Goals as goal

pub loop-t-init : goal.loop-t-init
unfolding written
loop-t-init c = (search rules, refl)

pub loop-t-preserved : goal.loop-t-preserved
loop-t-preserved c =
    let a = c.args in
    let l = c.loop-t in
    (simp length-set l.invariant.0, written-more (λ k. 32 * k + a.i) (λ k o. get_or a.mem.now (32 * k + a.from) 0) a.out.now l.t l.out _ _ l.invariant.1 refl refl)
