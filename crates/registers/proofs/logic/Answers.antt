-- `registers::logic`: the loop fills both new rows at once; a byte of each is what `byte-X` and `byte-Y` say. Assumes nothing.
use mathlib.Core.Path.{refl, ap₂}
use mathlib.Core.List.{List}
use Prim.Native.Nat.{ℕ}
use lib.ListN.{length-set}
use Rattle.bits.specs.Bits.{listed}
use Rattle.bits.proofs.Items.{fill_more, fill_done}
use Rattle.registers.specs.declared.Registers.{Registers}
use Rattle.registers.specs.Logic.{logic_of}
use Rattle.registers.proofs.LogicLaws.{byte-X, byte-Y}
use native.Mathlib.Omega.{arith}
use Rattle.registers.proofs.logic.Goals as goal

pub loop-i-init : goal.loop-i-init
unfolding listed
loop-i-init c = record { size-x = refl; size-y = refl; front-x = refl; front-y = refl }

pub loop-i-preserved : goal.loop-i-preserved
loop-i-preserved c =
    let a = c.args in
    let l = c.loop-i in
    record {
      size-x = simp length-set l.invariant.size-x;
      size-y = simp length-set l.invariant.size-y;
      front-x =
          fill_more _ l.x l.i _ (omega arith) l.invariant.front-x
          (byte-X a.byte7 a.r.x a.r.y a.item.now l.i c.x_byte.result (omega arith) c.x_byte.ensures);
      front-y =
          fill_more _ l.y l.i _ (omega arith) l.invariant.front-y
          (byte-Y a.byte7 a.r.x a.r.y a.item.now l.i c.y_byte.result (omega arith) c.y_byte.ensures);
    }

pub returns : goal.returns
unfolding logic_of
returns c =
    let l = c.loop-i in
    let r = c.args.r in
    ap₂ {A = List ℕ} {B = List ℕ} {C = Registers} (λ (p q : List ℕ). record { m = r.m; x = p; y = q; modes = r.modes })
    (fill_done _ l.x 32 l.i l.invariant.size-x (omega arith) l.invariant.front-x)
    (fill_done _ l.y 32 l.i l.invariant.size-y (omega arith) l.invariant.front-y)
