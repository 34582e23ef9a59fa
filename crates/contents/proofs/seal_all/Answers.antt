-- `seal_all`: the first i blocks stand at the start of the output, and behind them what was there.
use mathlib.Core.Path.{refl, sym, ap, ◌∙◌}
use Prim.Native.Nat.{◌-◌, ◌+◌, ◌*◌}
use native.Mathlib.Omega.{arith}
use borrow.Rule.Slice.PartMut.{same_len_mid}
use Rattle.blocks.specs.Block.{block}
use Rattle.bits.proofs.Items.{length-listed}
use Rattle.contents.specs.File.{block_count, first_blocks}
use Rattle.contents.specs.Payloads.{payloads}
use Rattle.contents.proofs.PayloadLaws.{sealed-part}
use Rattle.contents.proofs.WriteLaws.{blocks_more, blocks-done}
use Rattle.contents.proofs.seal_all.Goals as goal

pub loop-i-init : goal.loop-i-init
unfolding first_blocks
loop-i-init c = (refl, refl)

pub loop-i-preserved : goal.loop-i-preserved
loop-i-preserved c =
    let u = c in
    let s = u in
    let a = s.args in
    let l = u.loop-i in
    let p = c.seal in (
      same_len_mid (512 * l.i) (512 * l.i + 512 - 512 * l.i) l.out p.new.out p.auto.out ∙ l.invariant.0,
      blocks_more a.kind (payloads a.out.now 0 a.size) a.count l.i l.out a.out.now _ l.invariant.1
          (p.ensures ∙ ap (block a.kind l.i a.count) (sealed-part a.kind a.size a.count l.i u.min-used.result l.out a.out.now u.min-used.ensures (omega arith) l.invariant.1)),
    )

pub returns : goal.returns
returns c =
    let s = c in
    let a = s.args in
    let l = c.loop-i in
    blocks-done a.kind (payloads a.out.now 0 a.size) a.count l.i _ a.out.now (s.requires.2 ∙ ap block_count (sym (length-listed _ a.size))) (omega arith) l.invariant.1
