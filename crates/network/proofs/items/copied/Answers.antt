-- `items::copied`: the bytes of an item are those that its bits make.
use mathlib.Core.Path.{ap}
use mathlib.Core.List.{List}
use Prim.Native.Nat.{ℕ, ◌<◌}
use lib.ListN.{get_or}
use borrow.Author.Rules.{rules}
use Rattle.bits.specs.Bits.{bit_of}
use Rattle.bits.proofs.Items.{pack-is}
use Rattle.network.proofs.items.copied.Goals as goal

pub returns : goal.returns
returns c =
    let fits : (i : ℕ) → get_or c.item_of.result i 0 < 256 = λ i. search rules in
    pack-is (bit_of c.args.lines.now) 32 c.item_of.result (search rules) fits (λ k h. ap (λ (l : List ℕ). bit_of l k) c.item_of.ensures)
