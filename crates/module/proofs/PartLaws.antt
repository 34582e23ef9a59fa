-- Parts of a buffer, as code lends them. Assumes nothing.
use mathlib.Core.Path.{◌≡◌, ap}
use mathlib.Core.List.{List, ◌++◌}
use Prim.Native.Nat.{ℕ, ◌+◌, ◌-◌, ◌*◌}
use native.Mathlib.Omega.{arith}
use lib.ListN.{take, drop}
use borrow.Rule.Slice.PartMut.{put_mid, Post-is}
use Rattle.module.specs.Act.{part_at, put_part}

pub part-lent : (l : List ℕ) (k : ℕ) → take (32 * k + 32 - 32 * k) (drop (32 * k) l) ≡ part_at l k
part-lent l k =
    let e : 32 * k + 32 - 32 * k ≡ 32 = omega arith in
    ap (λ (n : ℕ). take n (drop (32 * k) l)) e

pub part-put : (l : List ℕ) (k : ℕ) (x : List ℕ) → put_mid (32 * k) (32 * k + 32 - 32 * k) l x ≡ put_part l k x
unfolding put_part
part-put l k x = ap (λ (z : List ℕ). take (32 * k) l ++ (x ++ z)) (Post-is (32 * k) (32 * k + 32) l (omega arith))
