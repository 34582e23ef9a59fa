-- `closing::rounds::put_spreading`: behind the marks the buffer has those of the first k bits, by `rounds-more`. Assumes nothing.
use mathlib.Core.Path.{◌≡◌, refl, sym, ap, ◌∙◌}
use mathlib.Core.List.{[], ◌∷◌}
use Prim.Native.Nat.{ℕ, ◌+◌, ◌*◌}
use native.Mathlib.Omega.{arith}
use Rattle.bits.specs.Steps.{put_at}
use Rattle.bits.proofs.Puts.{put-nil}
use Rattle.builders.specs.Lists.{encoded, rounds}
use Rattle.closing.specs.Closing.{take_mask, spread_slice}
use Rattle.closing.proofs.Lengths.{length-spread-slices}
use Rattle.builders.proofs.PutLaws.{put-more, rounds-more}
use Rattle.closing.proofs.rounds.put_spreading.Goals as goal

pub loop-k-init : goal.loop-k-init
unfolding rounds encoded
loop-k-init c = sym (put-nil _ _)

pub loop-k-preserved : goal.loop-k-preserved
loop-k-preserved c =
    let a = c.args in
    let l = c.loop-k in
    let o = c.put_spread_bit in
    rounds-more (spread_slice a.f.a a.f.s) l.k 1 (1 + 18 * l.k) c.put.new.list l.list o.new.list (omega arith)
    (omega (arith, length-spread-slices a.f.a a.f.s l.k)) l.invariant o.ensures

pub returns : goal.returns
returns c =
    let a = c.args in
    let l = c.loop-k in
    let e : l.k ≡ a.f.n = omega arith in
    put-more 0 1 (take_mask ∷ []) (rounds (spread_slice a.f.a a.f.s) a.f.n) a.list.now c.put.new.list l.list (omega arith) refl c.put.ensures
    (l.invariant ∙ ap (λ (n : ℕ). put_at (8 * 1) (encoded (rounds (spread_slice a.f.a a.f.s) n)) c.put.new.list) e)
