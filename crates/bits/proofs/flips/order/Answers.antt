-- `flips::order`: the quarters so far are the first of the flipped ones.
use mathlib.Core.Path.{refl}
use Prim.Native.Nat.{ℕ, ◌*◌, ◌<◌}
use native.Mathlib.Omega.{arith}
use lib.Bits.{bit_xor, xor_lt}
use lib.ListN.{get_or, length-set}
use mir.Syntax.{w64}
use mir.Val.{Fits}
use borrow.Author.Rules.{rules}
use Rattle.bits.specs.Bits.{listed}
use Rattle.bits.specs.Quarters.{quarter_of, line_at}
use Rattle.bits.proofs.Items.{fill_more}
use Rattle.bits.proofs.FlipLaws.{ordered-is}
use Rattle.bits.proofs.flips.order.Goals as goal
use Rattle.bits.proofs.flips.order.Goals.{In-loop-i}

pub loop-i-init : goal.loop-i-init
unfolding listed
loop-i-init c = (refl, refl)

-- the quarter that is read is one of the four
within : (c : In-loop-i) → bit_xor c.args.g c.loop-i.i < 4
within c = xor_lt 2 c.args.g c.loop-i.i (omega arith) (omega arith)

pub bounds-q-g : goal.bounds-q-g
bounds-q-g c = within c

pub loop-i-preserved : goal.loop-i-preserved
loop-i-preserved c =
    let a = c.args in
    let l = c.loop-i in
    let fits : (i : ℕ) → Fits w64 (get_or a.q i 0) = λ i. search rules in (
      simp length-set l.invariant.0,
      fill_more (quarter_of (λ l. line_at a.q (bit_xor l (64 * a.g)))) l.out l.i _ (omega arith) l.invariant.1
          (ordered-is a.q a.g l.i _ (fits (bit_xor a.g l.i)).fits refl),
    )
