-- `read_all`: each turn is twice eight writes more; all of them fill the list lane by lane.
use mathlib.Core.Path.{◌≡◌, refl, ap, ◌∙◌}
use Prim.Native.Nat.{◌+◌, ◌*◌, ◌/◌, ◌%◌}
use lib.ListN.{length, get_or, replicate}
use Rattle.bits.specs.Steps.{written}
use Rattle.bits.proofs.Writes.{length-written}
use Rattle.memory.specs.Groups.{spot}
use Rattle.memory.proofs.GroupLaws.{spot-group, lanes-filled, read_more}
use borrow.Author.Rules.{rules}
use native.Mathlib.Omega.{arith}
use Rattle.memory.proofs.reading.read_all.Goals as goal

pub loop-turn-init : goal.loop-turn-init
unfolding written
loop-turn-init c = (refl, refl)

pub read_group-requires : goal.read_group-requires
read_group-requires c =
    let a = c.args in
    let l = c.loop-turn in
    let k = c.group_of-k in
    let b = c.byte_at in
    let n = c.spot_from in
    let p = spot-group a.mode a.addr (2 * l.turn) k.result b.result n.result (omega arith) (omega arith) (omega arith) k.ensures.0 b.ensures.0 n.ensures in
    search rules

pub read_group-requires-in-loop-turn : goal.read_group-requires-in-loop-turn
read_group-requires-in-loop-turn c =
    let a = c.args in
    let k = c.group_of-k in
    let b = c.byte_at in
    let n = c.spot_from-in-loop-turn in
    let p = spot-group a.mode a.addr (2 * c.loop-turn.turn + 1) k.result b.result n.result (omega arith) (omega arith) (omega arith) k.ensures.0 b.ensures.0 n.ensures in
    search rules

pub loop-turn-preserved : goal.loop-turn-preserved
loop-turn-preserved c =
    let a = c.args in
    let l = c.loop-turn in
    let k = c.group_of-k in
    let b = c.byte_at in
    let n = c.spot_from in
    let r = c.read_group in
    let n2 = c.spot_from-in-loop-turn in
    let r2 = c.read_group-in-loop-turn in
    let p = spot-group a.mode a.addr (2 * l.turn) k.result b.result n.result (omega arith) (omega arith) (omega arith) k.ensures.0 b.ensures.0 n.ensures in
    let p2 = spot-group a.mode a.addr (2 * l.turn + 1) k.result b.result n2.result (omega arith) (omega arith) (omega arith) k.ensures.0 b.ensures.0 n2.ensures in
    let read = read_more a.mem.now a.mode a.addr in (
      ap length r2.ensures ∙ length-written _ _ _ 8 ∙ ap length r.ensures ∙ length-written _ _ l.out 8 ∙ l.invariant.0,
      r2.ensures
          ∙ read (2 * l.turn + 1) (2 * (l.turn + 1)) n2.result (replicate 256 0) _ (omega arith) p2.0
          (r.ensures ∙ read (2 * l.turn) (2 * l.turn + 1) n.result (replicate 256 0) l.out (omega arith) p.0 l.invariant.1),
    )

pub returns : goal.returns
returns c =
    let a = c.args in
    let e : 8 * (2 * c.loop-turn.turn) ≡ 256 = omega arith in
    c.loop-turn.invariant.1
    ∙ ap (written (λ n. 32 * (n % 8) + n / 8) (λ n o. get_or a.mem.now (spot a.mode a.addr (n / 8) (n % 8)) 0) (replicate 256 0)) e
    ∙ lanes-filled (λ i t. get_or a.mem.now (spot a.mode a.addr i t) 0) (replicate 256 0) refl
