-- `store`: the writes of all chips make the stored memory, with every line in the mask and the first byte of a lane for what it keeps.
use mathlib.Core.Path.{◌≡◌, ap, ◌∙◌}
use borrow.Author.Rules.{rules}
use Prim.Native.Nat.{ℕ, ◌+◌, ◌*◌, ◌/◌, ◌%◌}
use lib.ListN.{get_or}
use Rattle.bits.proofs.Binary.{on}
use Rattle.memory.specs.Memory.{every}
use Rattle.memory.proofs.GroupLaws.{as-they-are}
use Rattle.memory.proofs.StoreLaws.{store-written, every-bits}
use native.Mathlib.Omega.{arith}
use Rattle.memory.proofs.store.Goals as goal

pub returns : goal.returns
returns c =
    let a = c.args in
    let lanes = c.spread-put in
    let keep = c.kept_by_all-keep in
    store-written a.mem.now a.item.now a.item.now every a.mode a.addr (search rules) (λ i. search rules) (omega arith)
    (λ p. on)
    (λ p h. every-bits a.item.now p)
    lanes.result
    keep.result
    _
    1
    c.write_all.ensures
    (lanes.ensures ∙ as-they-are _ 256)
    (λ k h.
    let e : 32 * (k % 8) + k / 8 % 1 ≡ 32 * (k % 8) = omega arith in
    ap (λ (x : ℕ). get_or keep.result x 0) e ∙ keep.ensures (k % 8) (omega arith))
