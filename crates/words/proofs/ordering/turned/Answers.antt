-- `turned`: each turn puts one row more behind those before it.
use mathlib.Core.Path.{refl, ◌∙◌}
use Prim.Native.Nat.{◌-◌, ◌+◌, ◌*◌}
use borrow.Rule.Slice.PartMut.{same_len_mid}
use Rattle.bits.specs.Bits.{listed}
use Rattle.bits.proofs.Items.{fill_done}
use Rattle.words.specs.Turned.{turned}
use Rattle.words.proofs.PlainLaws.{turned_more}
use native.Mathlib.Omega.{arith}
use borrow.Author.Rules.{rules}
use Rattle.words.proofs.ordering.turned.Goals as goal

pub loop-a-init : goal.loop-a-init
unfolding listed
loop-a-init c = (search rules, refl)

pub loop-a-preserved : goal.loop-a-preserved
loop-a-preserved c =
    let l = c.loop-a in
    let w = c.gather_word in (
      same_len_mid (32 * l.a) (32 * l.a + 32 - 32 * l.a) l.out w.new.out w.auto.out ∙ l.invariant.0,
      turned_more c.args.bytes.now l.a l.out _ (omega arith) l.invariant.0 l.invariant.1 w.ensures,
    )

pub returns : goal.returns
unfolding turned
returns c = fill_done _ c.loop-a.out 256 _ c.loop-a.invariant.0 (omega arith) c.loop-a.invariant.1
