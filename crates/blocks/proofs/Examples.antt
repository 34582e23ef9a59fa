-- A computed example of document 01, Errors that look right: bytes 0 and 255 swapped 257 places apart pass both sums, so the block is still good at its place. Assumes nothing.
use mathlib.Core.Path.{◌≡◌, refl}
use mathlib.Core.Bool.{true}
use mathlib.Core.List.{List, [], ◌∷◌, ◌++◌}
use Prim.Native.Nat.{ℕ}
use lib.ListN.{replicate}
use Rattle.blocks.specs.Sums.{at, total, s1, s2}
use Rattle.blocks.specs.Block.{header, body, summed, block, sums_right, used_right, all_zero, zeros_right, fault, good_at}
use Rattle.blocks.specs.Swap.{swapped}

-- a list of 264 bytes: zeros, but for 255 at 257
unfoldable pub far-content : List ℕ
far-content = replicate 257 0 ++ (255 ∷ []) ++ replicate 6 0

unfoldable pub far : List ℕ
far = swapped (block 2 0 1 far-content) 12 269

pub far-differs : (at (block 2 0 1 far-content) 12 ≡ 0) × (at far 12 ≡ 255)
unfolding far far-content swapped total s1 s2 header body summed
far-differs = (refl, refl)

pub far-good : good_at far 2 0 1 ≡ true
unfolding far far-content swapped total s1 s2 header body summed sums_right used_right all_zero zeros_right fault
far-good = refl

-- the same bytes one place nearer are refused
pub near-21 : fault (swapped (block 2 0 1 far-content) 13 269) 2 0 1 ≡ 21
unfolding far-content swapped total s1 s2 header body summed sums_right fault
near-21 = refl
