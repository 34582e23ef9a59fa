-- `put_masked`: the writes of all chips make the stored memory.
use mathlib.Core.Path.{◌≡◌, ap, ◌∙◌}
use Prim.Native.Nat.{ℕ, ◌+◌, ◌*◌, ◌/◌, ◌%◌}
use native.Mathlib.Omega.{arith}
use lib.ListN.{get_or}
use borrow.Author.Rules.{rules}
use Rattle.bits.specs.Bits.{bit_of}
use Rattle.bits.proofs.Items.{bit_of-bit}
use Rattle.memory.specs.Groups.{keep_byte}
use Rattle.memory.proofs.GroupLaws.{as-they-are, lane-at}
use Rattle.memory.proofs.StoreLaws.{store-written, masked-bits}
use Rattle.memory.proofs.put_masked.Goals as goal

pub returns : goal.returns
returns c =
    let a = c.args in
    store-written a.mem.now a.item.now c.masked.result (bit_of a.mask.now) a.mode a.addr (search rules)
    (λ i. search rules) (omega arith)
    (bit_of-bit a.mask.now)
    (masked-bits a.item.now a.mask.now c.masked.result c.masked.ensures)
    c.spread-put.result
    a.keep.now
    _
    32
    c.write_all.ensures
    (c.spread-put.ensures ∙ as-they-are _ 256)
    (λ k h.
    let e : 32 * (k % 8) + k / 8 % 32 ≡ 32 * (k % 8) + k / 8 = omega arith in
    ap (λ (x : ℕ). get_or a.keep.now x 0) e ∙ lane-at (keep_byte (bit_of a.mask.now) a.mode a.addr) a.keep.now c.requires k h)
