-- `making::put_bytes`: the part that was lent came back as the eight bytes.
use mathlib.Core.Path.{refl, ap, ◌∙◌}
use mathlib.Core.List.{List}
use Prim.Native.Nat.{ℕ, ◌+◌, ◌-◌}
use borrow.Rule.Slice.PartMut.{put_mid}
use Rattle.lines.specs.Alone.{bytes_of}
use native.Mathlib.Omega.{arith}
use Rattle.bits.proofs.Puts.{part-put}
use Rattle.text.proofs.making.put_bytes.Goals as goal

pub returns : goal.returns
returns c =
    let a = c.args in
    record { behind = refl; left = ap (λ (l : List ℕ). put_mid a.at (a.at + 8 - a.at) a.out.now l) c.copy_from_slice.ensures.after ∙ part-put a.at (a.at + 8) a.out.now (bytes_of a.i) (omega arith) }
