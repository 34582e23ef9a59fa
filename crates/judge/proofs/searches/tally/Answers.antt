-- `judge::searches::tally`: none of the instructions passed has a number, those that take or give were counted, and the mode registers are as they leave them. Assumes nothing.
use mathlib.Core.Path.{◌≡◌, refl, sym, ap, ap₂, ◌∙◌}
use mathlib.Core.Bool.{Bool, not}
use mathlib.Core.List.{List}
use Prim.Native.Nat.{ℕ, ◌/◌}
use native.Mathlib.Numerals.{add-one}
use native.Mathlib.Omega.{arith}
use lib.Dec.{eqb}
use lib.ListN.{length}
use Rattle.bits.specs.Search.{count}
use Rattle.bits.proofs.Search.{none-start, none_more, found, found_none}
use Rattle.registers.specs.declared.Modes.{Modes}
use Rattle.judge.specs.Instructions.{instruction_at, takes, gives}
use Rattle.judge.specs.Modes.{modes_by, modes_after}
use Rattle.judge.specs.Judge.{fault_of, faulty}
use Rattle.judge.proofs.Shortage.{counts-le, counted, tally-is}
use Rattle.judge.proofs.searches.tally.Goals as goal

-- whether instruction k, as the walk comes to it, has a number
tested : (m m' : Modes) (list : List ℕ) (k : ℕ) (b t : Bool) → m' ≡ modes_after list m k → b ≡ eqb (fault_of m' (instruction_at list k)).number 0 → not b ≡ t → faulty m list k ≡ t
tested m m' list k b t e f g = sym (ap not (f ∙ ap (λ (x : Modes). eqb (fault_of x (instruction_at list k)).number 0) e)) ∙ g

pub loop-k-init : goal.loop-k-init
unfolding count modes_after
loop-k-init c = (omega arith, omega arith, refl, refl, none-start (faulty _ _), refl)

pub returns-then-not-stands : goal.returns-then-not-stands
returns-then-not-stands c =
    let l = c.loop-k in
    let list = c.args.list.now in
    tally-is c.args.m list l.k l.taken l.given l.modes
    (found (faulty c.args.m list) (length list / 8) l.k (omega arith) l.invariant.4 (tested _ l.modes _ l.k _ _ l.invariant.5 c.stands.ensures (ap not c.if-not-stands.true)))
    l.invariant.2
    l.invariant.3
    l.invariant.5

pub loop-k-preserved : goal.loop-k-preserved
unfolding modes_after
loop-k-preserved c =
    let l = c.loop-k in
    let m = c.args.m in
    let list = c.args.list.now in (
      omega (arith, counts-le c.takes.result, c.from-taken.ensures),
      omega (arith, counts-le c.gives.result, c.from-given.ensures),
      counted takes list l.k l.taken _ c.takes.result l.invariant.2 c.from-taken.ensures (c.takes.ensures ∙ ap takes c.decode-i.ensures),
      counted gives list l.k l.given _ c.gives.result l.invariant.3 c.from-given.ensures (c.gives.ensures ∙ ap gives c.decode-i.ensures),
      none_more (faulty m list) l.k l.invariant.4 (tested _ l.modes _ l.k _ _ l.invariant.5 c.stands.ensures (ap not c.if-not-stands.false)),
      c.modes_by-modes.ensures ∙ ap₂ modes_by c.decode-i.ensures l.invariant.5 ∙ sym (ap (modes_after list m) (add-one l.k)),
    )

pub returns : goal.returns
returns c =
    let l = c.loop-k in
    let list = c.args.list.now in
    let e : l.k ≡ length list / 8 = omega arith in
    tally-is c.args.m list (length list / 8) l.taken l.given l.modes
    (found_none (faulty c.args.m list) (length list / 8) (λ j h. l.invariant.4 j (omega arith)))
    (l.invariant.2 ∙ ap (count (λ j. takes (instruction_at list j))) e)
    (l.invariant.3 ∙ ap (count (λ j. gives (instruction_at list j))) e)
    (l.invariant.5 ∙ ap (modes_after list c.args.m) e)
