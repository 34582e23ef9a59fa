-- Laws of a list after a run of writes to places that are apart. Assumes nothing.
use mathlib.Core.Path.{◌≡◌, refl, sym, ap, ap₂, ◌∙◌}
use mathlib.Core.Logic.{◌≢◌}
use mathlib.Core.List.{List}
use Prim.Native.Nat.{ℕ, zero, suc, ◌+◌, ◌<◌}
use native.Mathlib.Nat.{add-zero, add-suc}
use native.Mathlib.Numerals.{add-one}
use native.Mathlib.Decide.{dec_lt, ℕ_discrete}
use native.Mathlib.Omega.{arith}
use lib.ListN.{length, get_or, set, length-set, get_or-eq_default}
use lib.Seq.{get_or-set_same, get_or-set_other, set-get_or}
use Rattle.bits.specs.Steps.{written}

pub written-ext : (l : List ℕ) (x : ℕ → ℕ) (v : ℕ → ℕ → ℕ) (y : ℕ → ℕ) (w : ℕ → ℕ → ℕ) (n : ℕ) → ((k : ℕ) → k < n → x k ≡ y k) → ((k o : ℕ) → k < n → v k o ≡ w k o)
    → written x v l n ≡ written y w l n
unfolding written
written-ext l x v y w zero p q = refl
written-ext l x v y w (suc n) p q =
    ap₂ (λ (a : List ℕ) (i : ℕ). set a i (v n (get_or a i 0))) (written-ext l x v y w n (λ k h. p k (omega arith)) (λ k o h. q k o (omega arith))) (p n (omega arith))
    ∙ ap (set (written y w l n) (y n)) (q n (get_or (written y w l n) (y n) 0) (omega arith))

module _ (x : ℕ → ℕ) (v : ℕ → ℕ → ℕ) (l : List ℕ) where
  pub length-written : (n : ℕ) → length (written x v l n) ≡ length l
  unfolding written
  length-written zero = refl
  length-written (suc n) = length-set (written x v l n) (x n) (v n (get_or (written x v l n) (x n) 0)) ∙ length-written n

  -- writes of what stands there already change nothing
  pub written_same : (n : ℕ) → ((k : ℕ) → k < n → v k (get_or l (x k) 0) ≡ get_or l (x k) 0) → written x v l n ≡ l
  unfolding written
  written_same zero e = refl
  written_same (suc n) e =
      ap (λ (w : List ℕ). set w (x n) (v n (get_or w (x n) 0))) (written_same n (λ k h. e k (omega arith)))
      ∙ ap (set l (x n)) (e n (omega arith))
      ∙ set-get_or l (x n) 0

  -- a place that no write goes to stays
  pub written-off : (n i : ℕ) → ((k : ℕ) → k < n → i ≢ x k) → get_or (written x v l n) i 0 ≡ get_or l i 0
  unfolding written
  written-off zero i u = refl
  written-off (suc n) i u =
      get_or-set_other (written x v l n) (x n) i (v n (get_or (written x v l n) (x n) 0)) 0 (u n (omega arith))
      ∙ written-off n i (λ k h. u k (omega arith))

  -- a place that one write goes to has what that write put there
  pub written_at : (n k : ℕ) → ((j : ℕ) → j < n → x k ≡ x j → k ≡ j) → k < n → x k < length l → get_or (written x v l n) (x k) 0 ≡ v k (get_or l (x k) 0)
  unfolding written
  written_at zero k one h b = absurd (omega arith)
  written_at (suc n) k one h b = go (ℕ_discrete k n) (written_at n k (λ j q. one j (omega arith)))
    where
      w : List ℕ
      w = written x v l n

      go : Dec (k ≡ n) → (k < n → x k < length l → get_or w (x k) 0 ≡ v k (get_or l (x k) 0))
          → get_or (set w (x n) (v n (get_or w (x n) 0))) (x k) 0 ≡ v k (get_or l (x k) 0)
      go (yes e) ih =
          ap (λ (j : ℕ). get_or (set w (x n) (v n (get_or w (x n) 0))) (x j) 0) e
          ∙ get_or-set_same w (x n) (v n (get_or w (x n) 0)) 0 (omega (arith, length-written n, ap x e))
          ∙ ap (v n) (written-off n (x n) (λ j q r. let d : k ≡ j = one j (omega arith) (ap x e ∙ r) in omega arith))
          ∙ sym (ap (λ (j : ℕ). v j (get_or l (x j) 0)) e)
      go (no u) ih =
          get_or-set_other w (x n) (x k) (v n (get_or w (x n) 0)) 0 (λ e. u (one n (omega arith) e))
          ∙ ih (omega arith) b

  -- n writes more, after the first m
  pub written-add : (m n : ℕ) → written (λ k. x (m + k)) (λ k. v (m + k)) (written x v l m) n ≡ written x v l (m + n)
  unfolding written
  written-add m zero = sym (ap (written x v l) (add-zero m))
  written-add m (suc n) =
      ap (λ (w : List ℕ). set w (x (m + n)) (v (m + n) (get_or w (x (m + n)) 0))) (written-add m n)
      ∙ sym (ap (written x v l) (add-suc m n))

  -- ---- what a loop that writes cites

  -- one write more
  pub written-more : (n : ℕ) (w : List ℕ) (i a : ℕ) → w ≡ written x v l n → i ≡ x n → a ≡ v n (get_or w i 0) → set w i a ≡ written x v l (n + 1)
  unfolding written
  written-more n w i a ew ei ea =
      ap (set w i) ea
      ∙ ap₂ (λ (u : List ℕ) (j : ℕ). set u j (v n (get_or u j 0))) ew ei
      ∙ sym (ap (written x v l) (add-one n))

  -- the writes of an inner loop after the first m
  pub written_then : (y : ℕ → ℕ) (u : ℕ → ℕ → ℕ) (w : List ℕ) (m n k : ℕ) → w ≡ written x v l m → m + n ≡ k
      → ((j : ℕ) → j < n → y j ≡ x (m + j)) → ((j o : ℕ) → j < n → u j o ≡ v (m + j) o)
      → written y u w n ≡ written x v l k
  written_then y u w m n k ew ek p q =
      ap (λ (a : List ℕ). written y u a n) ew
      ∙ written-ext (written x v l m) y u (λ j. x (m + j)) (λ j. v (m + j)) n p q
      ∙ written-add m n
      ∙ ap (written x v l) ek

  -- and w', what that loop left
  pub then-written : (y : ℕ → ℕ) (u : ℕ → ℕ → ℕ) (w w' : List ℕ) (m n k : ℕ) → w' ≡ written y u w n → w ≡ written x v l m → m + n ≡ k
      → ((j : ℕ) → j < n → y j ≡ x (m + j)) → ((j o : ℕ) → j < n → u j o ≡ v (m + j) o)
      → w' ≡ written x v l k
  then-written y u w w' m n k e ew ek p q = e ∙ written_then y u w m n k ew ek p q

set-bytes : (l : List ℕ) (i a : ℕ) → ((j : ℕ) → get_or l j 0 < 256) → a < 256 → (j : ℕ) → get_or (set l i a) j 0 < 256
set-bytes l i a b h j = go (ℕ_discrete j i) (dec_lt i (length l))
  where
    go : Dec (j ≡ i) → Dec (i < length l) → get_or (set l i a) j 0 < 256
    go (yes e) (yes q) = omega (arith, ap (λ (k : ℕ). get_or (set l i a) k 0) e ∙ get_or-set_same l i a 0 q)
    go (yes e) (no u) = omega (arith, get_or-eq_default (set l i a) 0 {n = j} (omega (arith, length-set l i a)))
    go (no u) d = omega (arith, get_or-set_other l i j a 0 u, b j)

-- bytes stay bytes
pub written-bytes : (x : ℕ → ℕ) (v : ℕ → ℕ → ℕ) (l : List ℕ) (n : ℕ) → ((i : ℕ) → get_or l i 0 < 256) → ((k o : ℕ) → k < n → o < 256 → v k o < 256)
    → (i : ℕ) → get_or (written x v l n) i 0 < 256
unfolding written
written-bytes x v l zero b h i = b i
written-bytes x v l (suc n) b h i =
    let rest = written-bytes x v l n b (λ k o q. h k o (omega arith)) in
    set-bytes (written x v l n) (x n) (v n (get_or (written x v l n) (x n) 0)) rest (h n _ (omega arith) (rest (x n))) i
