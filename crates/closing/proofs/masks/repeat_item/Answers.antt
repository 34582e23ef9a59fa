-- `closing::masks::repeat_item`: the part that is read, put where item k is. Assumes nothing.
use mathlib.Core.Path.{◌≡◌, ap, sym, ◌∙◌}
use mathlib.Core.List.{◌++◌, append_assoc}
use Prim.Native.Nat.{ℕ, ◌+◌, ◌-◌, ◌*◌}
use native.Mathlib.Omega.{arith}
use lib.ListN.{length, take, drop, length-drop}
use lib.Seq.{length-take-le, paste}
use Rattle.bits.specs.Steps.{put_at}
use Rattle.closing.proofs.masks.repeat_item.Goals as goal

pub returns : goal.returns
unfolding put_at
returns c =
    let xs = c.args.items.now in
    let at = 32 * c.args.k in
    let j = 32 * (c.args.k - 8) in
    let e : j + 32 - j ≡ 32 = omega arith in
    let n : length (take 32 (drop j xs)) ≡ 32 = length-take-le 32 (drop j xs) (omega (arith, length-drop j xs)) in
    c.copy_within.ensures.after
    ∙ ap (paste xs at (drop j xs)) e
    ∙ append_assoc (take at xs) (take 32 (drop j xs)) (drop (at + 32) xs)
    ∙ ap (λ (n : ℕ). take at xs ++ (take 32 (drop j xs) ++ drop (at + n) xs)) (sym n)
