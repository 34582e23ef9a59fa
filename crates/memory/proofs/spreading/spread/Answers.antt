-- `spread`: each turn is one lane more.
use mathlib.Core.Path.{refl, ◌∙◌}
use Prim.Native.Nat.{◌-◌, ◌+◌, ◌*◌}
use lib.Bits.{bit_xor}
use borrow.Rule.Slice.PartMut.{same_len_mid}
use Rattle.bits.specs.Bits.{bit_of, listed}
use Rattle.memory.specs.Groups.{lane_byte}
use Rattle.memory.proofs.GroupLaws.{lane_made, lane-more}
use native.Mathlib.Omega.{arith}
use Rattle.memory.proofs.spreading.spread.Goals as goal

pub loop-t-init : goal.loop-t-init
unfolding listed
loop-t-init g c = (refl, refl)

pub loop-t-preserved : goal.loop-t-preserved
loop-t-preserved g c =
    let a = c.args in
    let l = c.loop-t in
    let w = c.from-from in
    let p = c.partner in
    let s = c.place_of in
    let r = c.copy_from_slice in (
      same_len_mid (32 * w.result) (32 * w.result + 32 - 32 * w.result) l.out r.new.self r.auto.self ∙ l.invariant.0,
      lane-more (λ i t. bit_xor (lane_byte (bit_of a.item.now) a.mode a.addr i t) g.row.TURNED) l.t w.result l.out _ (omega arith) l.invariant.0 w.ensures l.invariant.1
          (r.ensures.after ∙ c.spread_lane-lane.ensures ∙ lane_made (bit_of a.item.now) (λ x. bit_xor x g.row.TURNED) a.mode a.addr l.t p.result s.result p.ensures.0 s.ensures.0),
    )
