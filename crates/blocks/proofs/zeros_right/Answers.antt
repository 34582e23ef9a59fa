-- `zeros_right`: the two parts that must be 0, one after the other.
use mathlib.Core.Path.{sym, ap, ◌∙◌}
use Prim.Native.Nat.{ℕ, ◌+◌}
use Rattle.blocks.specs.Block.{part, all_zero, zeros_right}
use Rattle.blocks.proofs.zeros_right.Goals as goal

pub returns-then-all_zero : goal.returns-then-all_zero
unfolding zeros_right
returns-then-all_zero c =
    let b = c.args.block.now in
    c.all_zero-then-all_zero.ensures ∙ ap (λ (x : ℕ). all_zero (part (12 + x) 508 b)) c.requires.1 ∙ simp (sym c.all_zero.ensures ∙ c.if-all_zero.true)

pub returns-else-all_zero : goal.returns-else-all_zero
unfolding zeros_right
returns-else-all_zero c = simp (c.if-all_zero.false, sym c.all_zero.ensures ∙ c.if-all_zero.false)
