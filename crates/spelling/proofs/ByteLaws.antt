-- A word's characters are its bytes, the highest first, but for those of code 0. Assumes nothing.
use Rattle.std.proofs.Common.{◌≡◌, ℕ, ◌<◌, ◌*◌, ◌%◌, ◌^◌, List, [], ◌++◌, ap, ap₂, sym, ◌∙◌, suc, ◌+◌, length, get_or, drop, drop-cons, add-one, arith}
use Rattle.std.specs.List.{flat_map}
use Rattle.std.proofs.lemmas.List.Concat.{flat_map-cons}
use Rattle.std.specs.Int.{w64, to_be_bytes, bytes_high_first}
use Rattle.spelling.specs.Words.{top_place, visible, spelled_in, spelled}

-- the k lowest bytes of w, moved up to the highest places
module _ (w : ℕ) where
  bytes-1 : (x : ℕ) → x ≡ w % 256 * 256 ^ 7 → spelled_in 1 x ≡ flat_map visible (bytes_high_first 1 w)
  unfolding spelled_in
  bytes-1 x e = ap (λ (c : ℕ). visible c ++ []) (omega arith)

  bytes-2 : (x : ℕ) → x ≡ w % 256 ^ 2 * 256 ^ 6 → spelled_in 2 x ≡ flat_map visible (bytes_high_first 2 w)
  unfolding spelled_in
  bytes-2 x e = ap₂ (λ (c : ℕ) (l : List ℕ). visible c ++ l) (omega arith) (bytes-1 (x % top_place * 256) (omega arith))

  bytes-3 : (x : ℕ) → x ≡ w % 256 ^ 3 * 256 ^ 5 → spelled_in 3 x ≡ flat_map visible (bytes_high_first 3 w)
  unfolding spelled_in
  bytes-3 x e = ap₂ (λ (c : ℕ) (l : List ℕ). visible c ++ l) (omega arith) (bytes-2 (x % top_place * 256) (omega arith))

  bytes-4 : (x : ℕ) → x ≡ w % 256 ^ 4 * 256 ^ 4 → spelled_in 4 x ≡ flat_map visible (bytes_high_first 4 w)
  unfolding spelled_in
  bytes-4 x e = ap₂ (λ (c : ℕ) (l : List ℕ). visible c ++ l) (omega arith) (bytes-3 (x % top_place * 256) (omega arith))

  bytes-5 : (x : ℕ) → x ≡ w % 256 ^ 5 * 256 ^ 3 → spelled_in 5 x ≡ flat_map visible (bytes_high_first 5 w)
  unfolding spelled_in
  bytes-5 x e = ap₂ (λ (c : ℕ) (l : List ℕ). visible c ++ l) (omega arith) (bytes-4 (x % top_place * 256) (omega arith))

  bytes-6 : (x : ℕ) → x ≡ w % 256 ^ 6 * 256 ^ 2 → spelled_in 6 x ≡ flat_map visible (bytes_high_first 6 w)
  unfolding spelled_in
  bytes-6 x e = ap₂ (λ (c : ℕ) (l : List ℕ). visible c ++ l) (omega arith) (bytes-5 (x % top_place * 256) (omega arith))

  bytes-7 : (x : ℕ) → x ≡ w % 256 ^ 7 * 256 ^ 1 → spelled_in 7 x ≡ flat_map visible (bytes_high_first 7 w)
  unfolding spelled_in
  bytes-7 x e = ap₂ (λ (c : ℕ) (l : List ℕ). visible c ++ l) (omega arith) (bytes-6 (x % top_place * 256) (omega arith))

  bytes-8 : (x : ℕ) → x ≡ w % 256 ^ 8 → spelled_in 8 x ≡ flat_map visible (bytes_high_first 8 w)
  unfolding spelled_in
  bytes-8 x e = ap₂ (λ (c : ℕ) (l : List ℕ). visible c ++ l) (omega arith) (bytes-7 (x % top_place * 256) (omega arith))

pub spelled_bytes : (w : ℕ) → w < 2 ^ 64 → spelled w ≡ flat_map visible (to_be_bytes w64 w)
unfolding spelled
spelled_bytes w h = bytes-8 w w (omega arith)

-- one turn: the byte that comes, and those behind it
pub bytes-more : (bs : List ℕ) (k : ℕ) → k < length bs → flat_map visible (drop k bs) ≡ visible (get_or bs k 0) ++ flat_map visible (drop (k + 1) bs)
bytes-more bs k h = ap (flat_map visible) (drop-cons bs k 0 h) ∙ flat_map-cons visible (get_or bs k 0) (drop (suc k) bs) ∙ ap (λ (n : ℕ). visible (get_or bs k 0) ++ flat_map visible (drop n bs)) (sym (add-one k))
