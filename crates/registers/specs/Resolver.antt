-- The resolver. Document 02, Four, in place of document 01's sentence: "The resolved item becomes: byte 0 activity; bytes 1 and 2 the smallest responder, low byte first, 256 if there is none; bytes 3 and 4 the count of responders, 0 to 256; zeros after." A responder is a line whose bit of Y is 1. The count has its low byte first too (docs/DECISIONS.md).
use Rattle.std.specs.Prelude.{cond, ℕ, ltb}
use mathlib.Core.List.{List, ◌∷◌, ◌++◌, replicate}
use Rattle.bits.specs.Bits.{two}
use Rattle.bits.specs.Search.{first, count, is_one}

-- "The smallest responder .. 256 if there is none": the smallest of the 256 lines at which y is 1.
unfoldable pub smallest : (ℕ → ℕ) → ℕ
smallest y = first (is_one y) 0 256

-- "The count of responders, 0 to 256."
unfoldable pub responder_count : (ℕ → ℕ) → ℕ
responder_count y = count (is_one y) 256

-- "Activity", by the smallest responder s: 1 if there is one, else 0.
abbrev pub activity : ℕ → ℕ
activity s = cond (ltb s 256) 1 0

-- What a resolve delivers, from the bits of Y.
unfoldable pub resolved : (ℕ → ℕ) → List ℕ
resolved y = activity (smallest y) ∷ (two (smallest y) ++ two (responder_count y) ++ replicate 27 0)
