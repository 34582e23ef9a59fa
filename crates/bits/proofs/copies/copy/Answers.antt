-- `copies::copy`: the first bytes are those of the source.
use mathlib.Core.List.{List, [], ◌∷◌, ◌++◌}
use mathlib.Core.Path.{sym, ap, ◌∙◌}
use Prim.Native.Nat.{ℕ}
use native.Mathlib.Numerals.{add-one}
use native.Mathlib.Omega.{arith}
use lib.Seq.{take-suc, take-suc-set, take_all}
use lib.ListN.{get_or, length-set}
use Rattle.bits.proofs.copies.copy.Goals as goal

pub loop-i-preserved : goal.loop-i-preserved
loop-i-preserved c =
    let l = c.loop-i in
    let s = c.args.src.now in (
      simp length-set l.invariant.0,
      rw (add-one l.i) (take-suc-set l.dst l.i (get_or s l.i 0) (omega arith) ∙ ap (λ (x : List ℕ). x ++ (get_or s l.i 0 ∷ [])) l.invariant.1 ∙ sym (take-suc s l.i 0 (omega arith))),
    )

pub returns : goal.returns
returns c =
    let l = c.loop-i in
    sym (take_all l.i l.dst (omega arith)) ∙ l.invariant.1 ∙ take_all l.i _ (omega arith)
