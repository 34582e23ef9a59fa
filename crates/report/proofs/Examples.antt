-- Document 01's printed example with the item of document 02, Four, and the byte of Six, by computation. Assumes nothing.
use mathlib.Core.Path.{◌≡◌, refl}
use mathlib.Core.List.{List, [], ◌∷◌, ◌++◌}
use Prim.Native.Nat.{ℕ}
use lib.ListN.{replicate}
use Rattle.report.specs.Report.{decimal_in, decimal, line, hexed, item_lines, printed}

-- "r 0 0 2 0 1" with the byte, 0, after the place, and below it a line that "starts 0100000001 and goes on in zeros", for the item that a resolve delivers of a full Y.
pub printed-example : printed 114 0 0 0 2 0 1 (1 ∷ 0 ∷ 0 ∷ 0 ∷ 1 ∷ replicate 27 0)
    ≡ (114 ∷ 32 ∷ 48 ∷ 32 ∷ 48 ∷ 32 ∷ 48 ∷ 32 ∷ 50 ∷ 32 ∷ 48 ∷ 32 ∷ 49 ∷ 10 ∷ []) ++ (48 ∷ 49 ∷ 48 ∷ 48 ∷ 48 ∷ 48 ∷ 48 ∷ 48 ∷ 48 ∷ 49 ∷ (replicate 54 48 ++ (10 ∷ [])))
unfolding printed line decimal decimal_in hexed item_lines
printed-example = refl

-- No leading zeros, and none lost inside.
pub decimal-example : decimal 4096 ≡ 52 ∷ 48 ∷ 57 ∷ 54 ∷ []
unfolding decimal decimal_in
decimal-example = refl

-- "r 9 57 3 0 0 0": a refusal's number, place and byte, and no items behind it.
pub printed-byte : (out : List ℕ) → printed 114 9 57 3 0 0 0 out ≡ 114 ∷ 32 ∷ 57 ∷ 32 ∷ 53 ∷ 55 ∷ 32 ∷ 51 ∷ 32 ∷ 48 ∷ 32 ∷ 48 ∷ 32 ∷ 48 ∷ 10 ∷ []
unfolding printed line decimal decimal_in item_lines
printed-byte out = refl
