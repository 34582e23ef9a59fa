-- Examples, computed: document 01's starred ones on flips and shifts, and document 001's printed table. Assumes nothing.
use mathlib.Core.Path.{◌≡◌, refl}
use mathlib.Core.Bool.{Bool}
use mathlib.Core.List.{List, [], ◌∷◌}
use Prim.Native.Nat.{ℕ, ◌<◌}
use lib.Dec.{T, eqb, eqb→eq}
use lib.ListN.{replicate}
use Rattle.bits.specs.Bits.{listed, digits_of, byte_of, item, bit_of}
use Rattle.bits.specs.Search.{index_of}
use Rattle.bits.proofs.Tests.{all, all-at}
use Rattle.network.specs.Shifts.{codes_to, codes, permitted, signal, row}
use Rattle.network.specs.Pass.{shifted, moved, unshifted, source, passed}
use Rattle.network.specs.Wired.{significant_in, significant, level, wired}
use Rattle.network.specs.Answer.{passed_item, answer}

-- "1 mod 8: 3→4, 7→0, 255→248. 8 mod 256: 250→2."
pub one-mod-8 : (moved 0 3 0 3 ≡ 4) × (moved 0 3 0 7 ≡ 0) × (moved 0 3 0 255 ≡ 248)
unfolding moved shifted
one-mod-8 = (refl, refl, refl)

pub eight-mod-256 : moved 0 8 3 250 ≡ 2
unfolding moved shifted
eight-mod-256 = refl

-- "Flip 255 with 32 mod 256, then flip 255 with 1 mod 256: 40→9, 10→235."
pub back-31 : (moved 255 8 0 (moved 255 8 5 40) ≡ 9) × (moved 255 8 0 (moved 255 8 5 10) ≡ 235)
unfolding moved shifted
back-31 = (refl, refl)

-- the same by the wires
pub wired-examples : (wired 8 0 3 0 3 ≡ 4) × (wired 8 0 3 0 7 ≡ 0) × (wired 8 0 3 0 255 ≡ 248) × (wired 8 0 8 3 250 ≡ 2)
    × (wired 8 255 8 0 (wired 8 255 8 5 40) ≡ 9) × (wired 8 255 8 0 (wired 8 255 8 5 10) ≡ 235)
unfolding wired level signal significant significant_in
wired-examples = (refl, refl, refl, refl, refl, refl)

-- "128 mod 256 moves all lines as flip 128."
as-flip : ℕ → Bool
as-flip i = eqb (moved 0 8 7 i) (moved 128 0 0 i)

as-flip-tested : T (all 256 as-flip)
unfolding as-flip moved shifted
as-flip-tested = tt

pub half-is-flip : (i : ℕ) → i < 256 → moved 0 8 7 i ≡ moved 128 0 0 i
unfolding as-flip
half-is-flip i h = eqb→eq _ _ (all-at 256 as-flip as-flip-tested i h)

-- "Byte 6 = 136 or 1: refused", whatever the item and the flip: 17, since document 02, Six. A group of 512 lines is 16, also where m is not below p.
pub refused-136 : (l : List ℕ) (f : ℕ) → answer l f 136 ≡ record { number = 17; item = replicate 32 0 }
unfolding answer permitted index_of codes codes_to listed
refused-136 l f = refl

pub refused-1 : (l : List ℕ) (f : ℕ) → answer l f 1 ≡ record { number = 17; item = replicate 32 0 }
unfolding answer permitted index_of codes codes_to listed
refused-1 l f = refl

pub refused-159 : (l : List ℕ) (f : ℕ) → answer l f 159 ≡ record { number = 16; item = replicate 32 0 }
unfolding answer permitted index_of codes codes_to listed
refused-159 l f = refl

-- "byte 6 = 48" is 1 mod 8, and stands.
pub passed-48 : (l : List ℕ) (f : ℕ) → answer l f 48 ≡ record { number = 0; item = item (passed l f 3 0) }
unfolding answer passed_item permitted index_of codes codes_to listed
passed-48 l f = refl

-- Document 001 prints this control table for 8 lines: signals 0A 1A 1B 2A 2B 2C.
pub printed-table : (row 3 3 0 ≡ 1 ∷ 1 ∷ 0 ∷ 1 ∷ 0 ∷ 0 ∷ [])
    × (row 3 3 1 ≡ 0 ∷ 1 ∷ 1 ∷ 1 ∷ 1 ∷ 0 ∷ [])
    × (row 3 3 2 ≡ 0 ∷ 0 ∷ 0 ∷ 1 ∷ 1 ∷ 1 ∷ [])
    × (row 3 2 0 ≡ 1 ∷ 1 ∷ 0 ∷ 0 ∷ 0 ∷ 0 ∷ [])
    × (row 3 2 1 ≡ 0 ∷ 1 ∷ 1 ∷ 0 ∷ 0 ∷ 0 ∷ [])
    × (row 3 1 0 ≡ 1 ∷ 0 ∷ 0 ∷ 0 ∷ 0 ∷ 0 ∷ [])
    × (row 3 0 0 ≡ 0 ∷ 0 ∷ 0 ∷ 0 ∷ 0 ∷ 0 ∷ [])
unfolding row signal listed
printed-table = (refl, refl, refl, refl, refl, refl, refl)

-- A flip of a shifted item differs from a shift of a flipped one: with flip 1 and 1 mod 8, what was at line 0 is at line 0 one way, and at 2 the other.
abbrev line-0 : List ℕ
line-0 = 1 ∷ replicate 31 0

pub order-matters : (passed_item (passed_item line-0 0 48) 1 0 ≡ 1 ∷ replicate 31 0) × (passed_item (passed_item line-0 1 0) 0 48 ≡ 4 ∷ replicate 31 0) × (passed_item line-0 1 48 ≡ 4 ∷ replicate 31 0)
unfolding passed_item passed source unshifted bit_of listed byte_of digits_of index_of codes codes_to
order-matters = (refl, refl, refl)
