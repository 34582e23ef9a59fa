-- `closing::masks::from_count`: the item has the words from `count` on that are below p, by `item-add`. Assumes nothing.
use mathlib.Core.Path.{◌≡◌, ap, ◌∙◌}
use Prim.Native.Nat.{ℕ, ◌+◌}
use native.Mathlib.Omega.{arith}
use Rattle.bits.specs.Bits.{listed, digits_of, byte_of, item}
use Rattle.closing.proofs.MaskLaws.{item-add, add-fits, between, between-bit, between_more, between_none, between-all}
use Rattle.closing.proofs.masks.from_count.Goals as goal

pub loop-p-init : goal.loop-p-init
unfolding listed byte_of digits_of
loop-p-init c = between_none c.args.count

pub add_line-requires : goal.add_line-requires
add_line-requires c =
    let n = c.args.count in
    let l = c.loop-p in
    let o = between_more n l.p (omega arith) in
    (omega arith, add-fits (between n l.p) (between n (l.p + 1)) l.p (omega arith) o l.out l.invariant (between-bit n (l.p + 1)))

pub loop-p-preserved : goal.loop-p-preserved
loop-p-preserved c =
    let n = c.args.count in
    let l = c.loop-p in
    let o = between_more n l.p (omega arith) in
    c.add_line.ensures ∙ item-add (between n l.p) (between n (l.p + 1)) l.p (omega arith) o l.out l.invariant

pub returns : goal.returns
returns c =
    let n = c.args.count in
    let l = c.loop-p in
    let e : l.p ≡ 256 = omega arith in
    l.invariant ∙ ap (λ (p : ℕ). item (between n p)) e ∙ between-all n
