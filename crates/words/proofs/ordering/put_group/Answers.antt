-- `put_group`: each turn is one write more.
use mathlib.Core.Path.{refl, ◌∙◌}
use Prim.Native.Nat.{◌-◌, ◌+◌, ◌*◌}
use lib.ListN.{get_or}
use borrow.Rule.Slice.PartMut.{same_len_mid}
use Rattle.bits.specs.Steps.{written}
use Rattle.bits.proofs.Writes.{written-more}
use Rattle.memory.proofs.GroupLaws.{chip-written}
use native.Mathlib.Omega.{arith}
use borrow.Author.Rules.{rules}
use Rattle.words.proofs.ordering.put_group.Goals as goal

pub loop-t-init : goal.loop-t-init
unfolding written
loop-t-init c = (search rules, refl)

pub loop-t-preserved : goal.loop-t-preserved
loop-t-preserved c =
    let a = c.args in
    let l = c.loop-t in
    let w = c.put_chip in
    let n = 8 * a.k + l.t in (
      same_len_mid (32 * n) (32 * n + 32 - 32 * n) l.mem w.new.chip w.auto.chip ∙ l.invariant.0,
      chip-written (λ o. get_or a.bytes.now (32 * l.t + a.i) 0) l.mem n a.i _ (omega arith) (omega arith) w.ensures
          ∙ written-more (λ n. 32 * (8 * a.k + n) + a.i) (λ n o. get_or a.bytes.now (32 * n + a.i) 0) a.mem.now l.t l.mem _ _ l.invariant.1 refl refl,
    )
