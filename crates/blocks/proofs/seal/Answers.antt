-- `seal`: the parts written are those of `sealed-is`.
use mathlib.Core.Path.{◌∙◌}
use Rattle.std.proofs.Common.{rules}
use Rattle.blocks.proofs.SumLaws.{s1-fits, s2-fits}
use Rattle.blocks.proofs.WriteLaws.{sealed-is}
use Rattle.blocks.proofs.seal.Goals as goal

pub two-requires : goal.two-requires
two-requires c = s1-fits _ c.sums-s.ensures.0

pub two-requires-2 : goal.two-requires-2
two-requires-2 c = s2-fits _ c.sums-s.ensures.1

pub returns : goal.returns
returns c =
    let a = c.args in
    sealed-is a.kind a.place a.count a.used a.out.now _ _ _ c.requires.4 c.requires.3
    (c.copy_from_slice.ensures.after ∙ c.head.ensures)
    (search rules)
    (c.copy_from_slice-2.ensures.after ∙ simp (c.two.ensures, c.two-2.ensures, c.sums-s.ensures.0, c.sums-s.ensures.1))
