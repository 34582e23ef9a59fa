-- `isolation::first_breaking`: none of the instructions passed breaks the condition, and the mode registers are as they leave them. Assumes nothing.
use mathlib.Core.Path.{◌≡◌, refl, sym, ap, ap₂, ◌∙◌}
use mathlib.Core.Bool.{Bool, true, false}
use mathlib.Core.List.{List}
use Prim.Native.Nat.{ℕ, ◌/◌}
use native.Mathlib.Numerals.{add-one}
use native.Mathlib.Omega.{arith}
use lib.ListN.{length}
use Rattle.bits.proofs.Search.{none-start, none_more, found, found_none}
use Rattle.registers.specs.declared.Modes.{Modes}
use Rattle.judge.specs.declared.Instruction.{Instruction}
use Rattle.judge.specs.declared.modes.Settled.{Settled}
use Rattle.judge.specs.Instructions.{instruction_at}
use Rattle.judge.specs.Modes.{modes_by, modes_after}
use Rattle.fields.specs.Isolation.{breaks, breaks_at}
use Rattle.isolation.proofs.first_breaking.Goals as goal

pub loop-k-init : goal.loop-k-init
unfolding modes_after
loop-k-init c = (none-start (breaks_at _ _), refl)

-- whether instruction k, as the walk comes to it, breaks the condition
tested : (m m' : Modes) (list : List ℕ) (k : ℕ) (i : Instruction) (b t : Bool) → m' ≡ modes_after list m k → i ≡ instruction_at list k → b ≡ breaks m' i → b ≡ t
    → breaks_at m list k ≡ t
tested m m' list k i b t em ei eb e = sym (ap₂ breaks em ei) ∙ sym eb ∙ e

pub returns-then-breaks : goal.returns-then-breaks
returns-then-breaks c =
    let l = c.loop-k in
    let a = c.args in
    found (breaks_at a.m a.list.now) (length a.list.now / 8) l.k (omega arith) l.invariant.0
    (tested a.m l.modes a.list.now l.k _ _ true l.invariant.1 c.decode-i.ensures c.breaks.ensures c.if-breaks.true)

pub loop-k-preserved : goal.loop-k-preserved
unfolding modes_after
loop-k-preserved c =
    let d = c in
    let l = d.loop-k in
    let a = d.args in
    let i = d.decode-i.ensures in (
      none_more (breaks_at a.m a.list.now) l.k l.invariant.0
          (tested a.m l.modes a.list.now l.k _ _ false l.invariant.1 i d.breaks.ensures c.if-breaks.false),
      ap (λ (x : Settled). x.modes) c.settle.ensures ∙ ap₂ modes_by i l.invariant.1 ∙ sym (ap (modes_after a.list.now a.m) (add-one l.k)),
    )

pub returns : goal.returns
returns c =
    let l = c.loop-k in
    let a = c.args in
    found_none (breaks_at a.m a.list.now) (length a.list.now / 8) (λ j h. l.invariant.0 j (omega arith))
