-- `write_all`: each turn is eight writes more.
use mathlib.Core.Path.{◌≡◌, refl, sym, ap, ap₂, ◌∙◌}
use Prim.Native.Nat.{ℕ, ◌+◌, ◌*◌, ◌/◌, ◌%◌}
use lib.ListN.{length, get_or}
use Rattle.bits.specs.Steps.{written}
use Rattle.bits.proofs.Writes.{length-written, then-written}
use Rattle.memory.specs.Groups.{spot, renewed}
use Rattle.memory.proofs.GroupLaws.{spot-at}
use native.Mathlib.Omega.{arith}
use borrow.Author.Rules.{rules}
use Rattle.memory.proofs.writing.write_all.Goals as goal

pub loop-i-init : goal.loop-i-init
unfolding written
loop-i-init c = (search rules, refl)

pub loop-i-preserved : goal.loop-i-preserved
loop-i-preserved c =
    let a = c.args in
    let l = c.loop-i in
    let k = c.group_of-k in
    let at = c.byte_at in
    let r = c.write_group in (
      ap length r.ensures ∙ length-written _ _ l.mem 8 ∙ l.invariant.0,
      then-written (λ k. spot a.mode a.addr (k / 8) (k % 8)) (λ k o. renewed o (get_or a.keep.now (32 * (k % 8) + k / 8 % a.n) 0) (get_or a.put.now (32 * (k % 8) + k / 8) 0)) a.mem.now _ _ l.mem _ (8 * l.i) 8 (8 * (l.i + 1)) r.ensures l.invariant.1 (omega arith)
          (λ j h. spot-at a.mode a.addr l.i j k.result at.result h k.ensures.0 at.ensures.0)
          (λ j o h.
          let hi : (8 * l.i + j) / 8 ≡ l.i = omega arith in
          let lo : (8 * l.i + j) % 8 ≡ j = omega arith in
          sym (ap₂ (λ (x y : ℕ). renewed o (get_or a.keep.now (32 * y + x % a.n) 0) (get_or a.put.now (32 * y + x) 0)) hi lo)),
    )
