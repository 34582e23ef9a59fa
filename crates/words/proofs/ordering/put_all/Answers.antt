-- `put_all`: each turn is twice eight writes more.
use mathlib.Core.Path.{◌≡◌, refl, ap, ◌∙◌}
use Prim.Native.Nat.{◌+◌, ◌*◌, ◌/◌, ◌%◌}
use lib.Bits.{bit_xor}
use lib.ListN.{length, get_or}
use Rattle.bits.specs.Steps.{written}
use Rattle.bits.proofs.Writes.{length-written}
use Rattle.words.proofs.PlainLaws.{put_more}
use borrow.Author.Rules.{rules}
use native.Mathlib.Omega.{arith}
use Rattle.words.proofs.ordering.put_all.Goals as goal

pub loop-turn-init : goal.loop-turn-init
unfolding written
loop-turn-init c = (search rules, refl)

pub loop-turn-preserved : goal.loop-turn-preserved
loop-turn-preserved c =
    let a = c.args in
    let l = c.loop-turn in
    let r = c.put_byte in
    let r2 = c.put_byte-in-loop-turn in
    let more = put_more a.mem.now a.bytes.now a.v in (
      ap length r2.ensures ∙ length-written _ _ _ 8 ∙ ap length r.ensures ∙ length-written _ _ l.mem 8 ∙ l.invariant.0,
      more (2 * l.turn + 1) (2 * (l.turn + 1)) _ _ (omega arith) r2.ensures (more (2 * l.turn) (2 * l.turn + 1) l.mem _ (omega arith) r.ensures l.invariant.1),
    )

pub returns : goal.returns
returns c =
    let a = c.args in
    let e : 8 * (2 * c.loop-turn.turn) ≡ 256 = omega arith in
    c.loop-turn.invariant.1 ∙ ap (written (λ n. 32 * (8 * bit_xor a.v (n / 8) + n % 8) + n / 8) (λ n o. get_or a.bytes.now (32 * (n % 8) + n / 8) 0) a.mem.now) e
