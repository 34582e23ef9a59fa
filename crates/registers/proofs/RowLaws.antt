-- The register set as its three parts of 32 bytes and its four bytes of modes. Assumes nothing.
use mathlib.Core.Path.{◌≡◌, refl, sym, ap, ap₂, ◌∙◌}
use mathlib.Core.List.{List, [], ◌++◌, append_assoc, append-nil}
use Prim.Native.Nat.{ℕ, ◌+◌}
use native.Mathlib.Omega.{arith}
use lib.ListN.{length, take, drop, length-append, length-drop, drop_of_length-le, take-append-drop}
use lib.Seq.{take_at, drop_at, drop-drop}
use borrow.Rule.Slice.PartMut.{put_mid}
use Rattle.registers.specs.declared.Registers.{Registers}
use Rattle.registers.specs.Modes.{modes_of, mode_bytes}
use Rattle.registers.specs.Rows.{registers_of, bytes_of}
use Rattle.registers.proofs.ModeLaws.{modes-behind, modes-last}

-- k bytes more, behind the n that are written
put-more : (p d b : List ℕ) (n k : ℕ) → length p ≡ n → put_mid n k (p ++ d) b ≡ (p ++ b) ++ drop k d
put-more p d b n k e = ap₂ (λ (x y : List ℕ). x ++ (b ++ drop k y)) (take_at p d n e) (drop_at p d n e) ∙ sym (append_assoc p b (drop k d))

longer : (p b : List ℕ) (n k : ℕ) → length p ≡ n → length b ≡ k → length (p ++ b) ≡ n + k
longer p b n k e f = length-append p b ∙ ap₂ (λ (x y : ℕ). x + y) e f

-- 100 bytes, written in four parts
pub put_four : (l a b c d : List ℕ) (r : Registers) → length l ≡ 100 → length r.m ≡ 32 → length r.x ≡ 32 → length r.y ≡ 32
    → a ≡ r.m → b ≡ r.x → c ≡ r.y → d ≡ mode_bytes r.modes
    → put_mid 96 4 (put_mid 64 32 (put_mid 32 32 (a ++ drop 32 l) b) c) d ≡ bytes_of r
put_four l a b c d r hl hm hx hy ea eb ec ed =
    let la : length a ≡ 32 = ap (λ (z : List ℕ). length z) ea ∙ hm in
    let lb : length b ≡ 32 = ap (λ (z : List ℕ). length z) eb ∙ hx in
    let lc : length c ≡ 32 = ap (λ (z : List ℕ). length z) ec ∙ hy in
    let behind = drop 32 (drop 32 (drop 32 l)) in
    let none : drop 4 behind ≡ [] = drop_of_length-le behind {i = 4} (simp length-drop (omega arith)) in
    ap (λ (z : List ℕ). put_mid 96 4 (put_mid 64 32 z c) d) (put-more a (drop 32 l) b 32 32 la)
    ∙ ap (λ (z : List ℕ). put_mid 96 4 z d) (put-more (a ++ b) (drop 32 (drop 32 l)) c 64 32 (longer a b 32 32 la lb))
    ∙ put-more ((a ++ b) ++ c) behind d 96 4 (longer (a ++ b) c 64 32 (longer a b 32 32 la lb) lc)
    ∙ ap (λ (z : List ℕ). (((a ++ b) ++ c) ++ d) ++ z) none
    ∙ append-nil (((a ++ b) ++ c) ++ d)
    ∙ append_assoc (a ++ b) c d
    ∙ append_assoc a b (c ++ d)
    ∙ ap₂ (λ (x y : List ℕ). x ++ (y ++ (c ++ d))) ea eb
    ∙ ap₂ (λ (x y : List ℕ). r.m ++ (r.x ++ (x ++ y))) ec ed

-- the mode registers of a record come back from its 100 bytes, whatever the lengths of its parts
pub modes-bytes : (r : Registers) → length (bytes_of r) ≡ 100 → modes_of (bytes_of r) ≡ r.modes
modes-bytes r h =
    let last = mode_bytes r.modes in
    let front = (r.m ++ r.x) ++ r.y in
    let e : bytes_of r ≡ front ++ last = sym (append_assoc r.m r.x (r.y ++ last)) ∙ sym (append_assoc (r.m ++ r.x) r.y last) in
    let n : length front ≡ 96 = omega (arith, sym (ap length e) ∙ h, length-append front last) in
    modes-behind (bytes_of r) last (ap (drop 96) e ∙ drop_at front last 96 n)

-- a record comes back from its bytes
pub registers-bytes : (r : Registers) → length r.m ≡ 32 → length r.x ≡ 32 → length r.y ≡ 32 → registers_of (bytes_of r) ≡ r
registers-bytes r hm hx hy =
    let last = mode_bytes r.modes in
    let e : drop 32 (bytes_of r) ≡ r.x ++ (r.y ++ last) = drop_at r.m (r.x ++ (r.y ++ last)) 32 hm in
    let d : drop 64 (bytes_of r) ≡ r.y ++ last = sym (drop-drop 32 32 (bytes_of r)) ∙ ap (drop 32) e ∙ drop_at r.x (r.y ++ last) 32 hx in
    let f : drop 96 (bytes_of r) ≡ last = sym (drop-drop 32 64 (bytes_of r)) ∙ ap (drop 32) d ∙ drop_at r.y last 32 hy in
    λ j. record {
      m = take_at r.m (r.x ++ (r.y ++ last)) 32 hm j;
      x = (ap (take 32) e ∙ take_at r.x (r.y ++ last) 32 hx) j;
      y = (ap (take 32) d ∙ take_at r.y last 32 hy) j;
      modes = modes-behind (bytes_of r) last f j;
    }

-- and 100 bytes from their record
pub bytes-registers : (l : List ℕ) → length l ≡ 100 → bytes_of (registers_of l) ≡ l
bytes-registers l h =
    ap (λ (z : List ℕ). take 32 l ++ (take 32 (drop 32 l) ++ (take 32 (drop 64 l) ++ z))) (modes-last l h ∙ sym (drop-drop 32 64 l))
    ∙ ap (λ (z : List ℕ). take 32 l ++ (take 32 (drop 32 l) ++ z)) (take-append-drop 32 (drop 64 l) ∙ sym (drop-drop 32 32 l))
    ∙ ap (λ (z : List ℕ). take 32 l ++ z) (take-append-drop 32 (drop 32 l))
    ∙ take-append-drop 32 l

pub length-bytes : (r : Registers) → length r.m ≡ 32 → length r.x ≡ 32 → length r.y ≡ 32 → length (bytes_of r) ≡ 100
length-bytes r hm hx hy =
    let last = mode_bytes r.modes in
    length-append r.m (r.x ++ (r.y ++ last))
    ∙ ap₂ (λ (x y : ℕ). x + y) hm (length-append r.x (r.y ++ last) ∙ ap₂ (λ (x y : ℕ). x + y) hx (longer r.y last 32 4 hy refl))
