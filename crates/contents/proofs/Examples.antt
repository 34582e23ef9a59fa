-- Computed examples of judging a file: each number, and readings that are easy to get wrong. Assumes nothing.
use mathlib.Core.Path.{◌≡◌, refl}
use mathlib.Core.List.{[], ◌++◌}
use lib.ListN.{replicate, set}
use Rattle.blocks.specs.Sums.{total, s1, s2}
use Rattle.blocks.specs.Block.{header, body, summed, block, sums_right, used_right, all_zero, zeros_right, fault}
use Rattle.blocks.specs.Swap.{swapped}
use Rattle.blocks.proofs.Examples.{far-content, far}
use Rattle.contents.specs.File.{done, refused, gathered, blocks_judged, kind_right, length_right, size_fits, file_judged, first_blocks, blocks_of}

-- 22 for the kind asked comes before 20
pub kind_0 : file_judged 0 [] ≡ refused 22 0
unfolding file_judged kind_right
kind_0 = refl

pub kind-5 : file_judged 5 [] ≡ refused 22 0
unfolding file_judged kind_right
kind-5 = refl

pub no_bytes : file_judged 2 [] ≡ refused 20 0
unfolding file_judged kind_right length_right
no_bytes = refl

-- a block of zeros has right sums, and is refused for its kind
pub zeros-22 : file_judged 2 (replicate 512 0) ≡ refused 22 0
unfolding file_judged kind_right length_right gathered blocks_judged fault sums_right s1 s2 total
zeros-22 = refl

-- 65,535 is no remainder, though the sum is 0 modulo 65,535
pub stored-65535 : file_judged 2 (set (set (replicate 512 0) 508 255) 509 255) ≡ refused 21 0
unfolding file_judged kind_right length_right gathered blocks_judged fault sums_right s1 s2 total
stored-65535 = refl

-- an empty list stands; a picture whose blocks are good is refused for its size
pub empty-list : file_judged 2 (blocks_of 2 []) ≡ done 0
unfolding blocks_of first_blocks summed body header file_judged kind_right length_right size_fits gathered blocks_judged fault sums_right used_right zeros_right all_zero s1 s2 total
empty-list = refl

pub empty-picture : file_judged 1 (blocks_of 1 []) ≡ refused 25 0
unfolding blocks_of first_blocks summed body header file_judged kind_right length_right size_fits gathered blocks_judged fault sums_right used_right zeros_right all_zero s1 s2 total
empty-picture = refl

pub empty-modes-picture : file_judged 4 (blocks_of 4 []) ≡ refused 25 0
unfolding blocks_of first_blocks summed body header file_judged kind_right length_right size_fits gathered blocks_judged fault sums_right used_right zeros_right all_zero s1 s2 total
empty-modes-picture = refl

pub wrong-place : file_judged 2 (block 2 1 1 []) ≡ refused 23 0
unfolding summed body header file_judged kind_right length_right size_fits gathered blocks_judged fault sums_right s1 s2 total
wrong-place = refl

-- the last of several blocks uses at least 1: 24 at its place
pub last-unused : file_judged 2 (block 2 0 2 (replicate 496 0) ++ block 2 1 2 []) ≡ refused 24 1
unfolding summed body header file_judged kind_right length_right size_fits gathered blocks_judged fault sums_right used_right zeros_right all_zero s1 s2 total
last-unused = refl

pub wrong_size : file_judged 2 (block 2 0 1 (replicate 4 7)) ≡ refused 25 0
unfolding summed body header file_judged kind_right length_right size_fits gathered blocks_judged fault sums_right used_right zeros_right all_zero s1 s2 total
wrong_size = refl

-- the far swap is not seen
pub far-read : file_judged 2 far ≡ done 264
unfolding far far-content swapped summed body header file_judged kind_right length_right size_fits gathered blocks_judged fault sums_right used_right zeros_right all_zero s1 s2 total
far-read = refl
