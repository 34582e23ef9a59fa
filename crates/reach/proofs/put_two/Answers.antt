-- `reach::put_two`: the part that was lent came back as the two bytes. Assumes nothing.
use mathlib.Core.Path.{ap, ◌∙◌}
use mathlib.Core.List.{List}
use Prim.Native.Nat.{ℕ, ◌+◌, ◌-◌}
use borrow.Rule.Slice.PartMut.{put_mid}
use Rattle.bits.specs.Bits.{two}
use native.Mathlib.Omega.{arith}
use Rattle.bits.proofs.Puts.{part-put}
use Rattle.registers.proofs.ResolverLaws.{two-bytes}
use Rattle.reach.proofs.put_two.Goals as goal

pub returns : goal.returns
returns c =
    let a = c.args in
    ap (λ (l : List ℕ). put_mid a.at (a.at + 2 - a.at) a.out.now l) (c.copy_from_slice.ensures.after ∙ c.to_le_bytes.ensures ∙ two-bytes a.x c.requires.1)
    ∙ part-put a.at (a.at + 2) a.out.now (two a.x) (omega arith)
