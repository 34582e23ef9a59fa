-- `put`: one byte.
use mathlib.Core.Path.{refl}
use native.Mathlib.Omega.{arith}
use Rattle.bits.proofs.Puts.{put_one}
use Rattle.bits.proofs.buffers.put.Goals as goal

pub returns : goal.returns
returns c =
    let a = c.args in
    record { behind = refl; left = put_one a.at a.c a.buffer.now (omega arith) }
