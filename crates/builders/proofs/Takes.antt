-- Laws of lists that take items: how many they take, and their fold where each instruction sees its own item. Assumes nothing.
use mathlib.Core.Path.{◌≡◌, refl, sym, ap, subst, subst₂, ◌∙◌}
use mathlib.Core.Bool.{Bool, true, false, cond}
use mathlib.Core.List.{List, [], ◌∷◌, ◌++◌}
use Prim.Native.Nat.{ℕ, zero, suc, ◌+◌, ◌*◌, ◌<◌, ◌≤◌}
use native.Mathlib.Nat.{add-zero, zero-add}
use native.Mathlib.Numerals.{add-one}
use native.Mathlib.Omega.{arith}
use Rattle.bits.specs.Search.{count}
use Rattle.judge.specs.declared.Instruction.{Instruction}
use Rattle.judge.specs.Instructions.{instruction_at, takes}
use Rattle.builders.specs.Lists.{rounds, decoded}
use Rattle.builders.specs.Word.{Word, held_bit, source_bit, after_bit, acted_word, folded, ran_word, taken_by, folded_on}

-- ---- how many are taken

pub taken-append : (l r : List Instruction) → taken_by (l ++ r) ≡ taken_by l + taken_by r
unfolding taken_by
taken-append [] r = sym (zero-add (taken_by r))
taken-append (i ∷ l) r = omega (arith, taken-append l r)

-- every round takes m
pub taken-rounds : (g : ℕ → List Instruction) (m n : ℕ) → ((k : ℕ) → taken_by (g k) ≡ m) → taken_by (rounds g n) ≡ m * n
unfolding rounds taken_by
taken-rounds g m zero h = omega arith
taken-rounds g m (suc n) h = taken-append (rounds g n) (g n) ∙ omega (arith, taken-rounds g m n h, h n)

-- of the first n instructions of a list's bytes
pub taken-decoded : (list : List ℕ) (n : ℕ) → taken_by (decoded list n) ≡ count (λ j. takes (instruction_at list j)) n
unfolding decoded taken_by count
taken-decoded list zero = refl
taken-decoded list (suc n) = taken-append (decoded list n) (instruction_at list n ∷ []) ∙ omega (arith, taken-decoded list n)

-- ---- the fold

module _ {S O : Type 0} (f : Instruction → O → S → S) (o : ℕ → O) where
  pub on-append : (l r : List Instruction) (k : ℕ) (s : S) → folded_on f o (l ++ r) k s ≡ folded_on f o r (k + taken_by l) (folded_on f o l k s)
  unfolding folded_on taken_by
  on-append [] r k s = ap (λ (n : ℕ). folded_on f o r n s) (sym (add-zero k))
  on-append (i ∷ l) r k s =
      let e : k + cond (takes i) 1 0 + taken_by l ≡ k + (cond (takes i) 1 0 + taken_by l) = omega arith in
      on-append l r (k + cond (takes i) 1 0) (f i (o k) s)
      ∙ ap (λ (n : ℕ). folded_on f o r n (folded_on f o l (k + cond (takes i) 1 0) (f i (o k) s))) e

  -- what each round takes from j to suc j, with its items, holds after all
  pub on-rounds : (g : ℕ → List Instruction) (n : ℕ) (P : ℕ → ℕ → S → Type 0)
      → ((j k : ℕ) (s : S) → j < n → P j k s → P (suc j) (k + taken_by (g j)) (folded_on f o (g j) k s))
      → (j k : ℕ) (s : S) → j ≤ n → P 0 k s → P j (k + taken_by (rounds g j)) (folded_on f o (rounds g j) k s)
  unfolding rounds folded_on taken_by
  on-rounds g n P h zero k s l p = subst (λ (z : ℕ). P 0 z s) (sym (add-zero k)) p
  on-rounds g n P h (suc j) k s l p =
      let e : k + taken_by (rounds g j) + taken_by (g j) ≡ k + taken_by (rounds g j ++ g j) = omega (arith, taken-append (rounds g j) (g j)) in
      subst₂ (P (suc j)) e (sym (on-append (rounds g j) (g j) k s))
      (h j (k + taken_by (rounds g j)) (folded_on f o (rounds g j) k s) (omega arith) (on-rounds g n P h j k s (omega arith) p))

  -- a machine that counts what it takes is handed its items so
  pub folded-on : (t : S → ℕ) → ((i : Instruction) (x : O) (s : S) → t (f i x s) ≡ t s + cond (takes i) 1 0)
      → (l : List Instruction) (s : S) → folded (λ i s. f i (o (t s)) s) l s ≡ folded_on f o l (t s) s
  unfolding folded folded_on
  folded-on t c [] s = refl
  folded-on t c (i ∷ l) s = folded-on t c l (f i (o (t s)) s) ∙ ap (λ (n : ℕ). folded_on f o l n (f i (o (t s)) s)) (c i (o (t s)) s)

-- ---- items that are not taken do not matter

module _ {S O : Type 0} (f : Instruction → O → S → S) (idle : (i : Instruction) (x y : O) (s : S) → takes i ≡ false → f i x s ≡ f i y s)
    (o o' : ℕ → O) where
  pub on-ext : (l : List Instruction) (k : ℕ) (s : S) → ((j : ℕ) → k ≤ j → j < k + taken_by l → o j ≡ o' j) → folded_on f o l k s ≡ folded_on f o' l k s
  unfolding folded_on taken_by
  on-ext [] k s h = refl
  on-ext (i ∷ l) k s h = go (takes i) refl (on-ext l) h
    where
      go : (t : Bool) → takes i ≡ t
          → ((k : ℕ) (s : S) → ((j : ℕ) → k ≤ j → j < k + taken_by l → o j ≡ o' j) → folded_on f o l k s ≡ folded_on f o' l k s)
          → ((j : ℕ) → k ≤ j → j < k + (cond t 1 0 + taken_by l) → o j ≡ o' j)
          → folded_on f o l (k + cond t 1 0) (f i (o k) s) ≡ folded_on f o' l (k + cond t 1 0) (f i (o' k) s)
      go true e ih h =
          ih (k + 1) (f i (o k) s) (λ j a b. h j (omega arith) (omega arith))
          ∙ ap (λ (x : O). folded_on f o' l (k + 1) (f i x s)) (h k (omega arith) (omega arith))
      go false e ih h =
          ih (k + 0) (f i (o k) s) (λ j a b. h j (omega arith) (omega arith))
          ∙ ap (folded_on f o' l (k + 0)) (idle i (o k) (o' k) s e)

  pub folded_ext : (t : S → ℕ) → ((i : Instruction) (x : O) (s : S) → t (f i x s) ≡ t s + cond (takes i) 1 0)
      → (l : List Instruction) (s : S) → ((j : ℕ) → t s ≤ j → j < t s + taken_by l → o j ≡ o' j)
      → folded (λ i s. f i (o (t s)) s) l s ≡ folded (λ i s. f i (o' (t s)) s) l s
  folded_ext t c l s h = folded-on f o t c l s ∙ on-ext l (t s) s h ∙ sym (folded-on f o' t c l s)

-- the one-word machine's run
pub ran_word-ext : (o o' : ℕ → ℕ) (l : List Instruction) (v : Word) → ((j : ℕ) → v.taken ≤ j → j < v.taken + taken_by l → o j ≡ o' j)
    → ran_word l o v ≡ ran_word l o' v
unfolding acted_word source_bit after_bit
ran_word-ext o o' = folded_ext (λ i x. acted_word i (λ k. x)) idle o o' (λ v. v.taken) (λ i x v. one_more (takes i) v.taken)
  where
    held : Instruction → Word → ℕ
    held i v = held_bit i.source (v.bits i.addr) v.m v.x v.y

    idle : (i : Instruction) (x y : ℕ) (v : Word) → takes i ≡ false → acted_word i (λ k. x) v ≡ acted_word i (λ k. y) v
    idle i x y v e =
        ap (λ (t : Bool). after_bit i (cond t x (held i v)) v) e
        ∙ sym (ap (λ (t : Bool). after_bit i (cond t y (held i v)) v) e)

    one_more : (t : Bool) (n : ℕ) → cond t (suc n) n ≡ n + cond t 1 0
    one_more true n = sym (add-one n)
    one_more false n = sym (add-zero n)
