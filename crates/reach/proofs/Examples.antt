-- The counts that docs/TEXT.md names, under What a store reaches and in its first list: the definition gives them. Assumes nothing.
use mathlib.Core.Path.{◌≡◌, refl}
use lib.Count.{ones, ones_in}
use Rattle.reach.specs.Reach.{reach_of}

-- "1 under mode 255, all 256 under mode 0"
under-255 : reach_of 255 ≡ 1
unfolding ones ones_in
under-255 = refl

under-0 : reach_of 0 ≡ 256
unfolding ones ones_in
under-0 = refl

-- "set a 13", and a store by it "reaches 32 words"
under-13 : reach_of 13 ≡ 32
unfolding ones ones_in
under-13 = refl
