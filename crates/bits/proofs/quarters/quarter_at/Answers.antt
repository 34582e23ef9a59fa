-- `quarters::quarter_at`: the number of its eight bytes.
use mathlib.Core.Path.{◌≡◌, ap, ◌∙◌}
use mathlib.Core.List.{List}
use Prim.Native.Nat.{ℕ, ◌+◌, ◌-◌, ◌*◌}
use native.Mathlib.Omega.{arith}
use lib.ListN.{get_or, take, drop}
use lib.Seq.{get_or-take, get_or-drop}
use borrow.Author.Rules.{rules}
use Rattle.bits.proofs.QuarterLaws.{quarter-bytes}
use Rattle.bits.proofs.quarters.quarter_at.Goals as goal

pub returns : goal.returns
returns c =
    let a = c.args in
    let from = 8 * a.i in
    let part : c.unwrap.result.now ≡ take (from + 8 - from) (drop from a.lines.now) = search rules in
    c.from_le_bytes.ensures
    ∙ quarter-bytes a.lines.now c.unwrap.result.now a.i (λ k. search rules)
    (λ n h.
    ap (λ (x : List ℕ). get_or x n 0) part
    ∙ get_or-take (from + 8 - from) (drop from a.lines.now) n 0 (omega arith)
    ∙ get_or-drop from a.lines.now n 0)
