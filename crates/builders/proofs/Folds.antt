-- Laws of a list's fold and of what each of its instructions has. Assumes nothing.
use mathlib.Core.Path.{◌≡◌, refl, sym, subst}
use mathlib.Core.List.{List, [], ◌∷◌, ◌++◌}
use Prim.Native.Nat.{ℕ, zero, suc, ◌<◌, ◌≤◌}
use native.Mathlib.Decide.{dec_lt}
use native.Mathlib.Omega.{arith}
use Rattle.judge.specs.declared.Instruction.{Instruction}
use Rattle.judge.specs.Instructions.{instruction_at}
use Rattle.builders.specs.Lists.{rounds, decoded, Each, none, more}
use Rattle.builders.specs.Word.{folded}

-- ---- a fold

module _ {S : Type 0} (f : Instruction → S → S) where
  pub folded-append : (l r : List Instruction) (s : S) → folded f (l ++ r) s ≡ folded f r (folded f l s)
  unfolding folded
  folded-append [] r s = refl
  folded-append (i ∷ l) r s = folded-append l r (f i s)

  -- what each round takes from k to suc k holds after all
  pub folded-rounds : (g : ℕ → List Instruction) (n : ℕ) (P : ℕ → S → Type 0)
      → ((k : ℕ) (s : S) → k < n → P k s → P (suc k) (folded f (g k) s))
      → (k : ℕ) (s : S) → k ≤ n → P 0 s → P k (folded f (rounds g k) s)
  unfolding rounds folded
  folded-rounds g n P h zero s l p = p
  folded-rounds g n P h (suc k) s l p =
      subst (P (suc k)) (sym (folded-append (rounds g k) (g k) s))
      (h k (folded f (rounds g k) s) (omega arith) (folded-rounds g n P h k s (omega arith) p))

-- ---- each instruction

module _ {P : Instruction → Type 0} where
  pub each_append : {l r : List Instruction} → Each P l → Each P r → Each P (l ++ r)
  each_append none q = q
  each_append (more h p) q = more h (each_append p q)

  pub each-rounds : (g : ℕ → List Instruction) (n : ℕ) → ((k : ℕ) → k < n → Each P (g k)) → Each P (rounds g n)
  unfolding rounds
  each-rounds g zero h = none
  each-rounds g (suc n) h = each_append (each-rounds g n (λ k l. h k (omega arith))) (h n (omega arith))

  each_left : (l r : List Instruction) → Each P (l ++ r) → Each P l
  each_left [] r e = none
  each_left (i ∷ l) r (more h e) = more h (each_left l r e)

  each_last : (l : List Instruction) (i : Instruction) → Each P (l ++ (i ∷ [])) → P i
  each_last [] i (more h e) = h
  each_last (j ∷ l) i (more h e) = each_last l i e

  -- of a list's bytes
  pub each_at : (list : List ℕ) (n : ℕ) → Each P (decoded list n) → (j : ℕ) → j < n → P (instruction_at list j)
  unfolding decoded
  each_at list zero e j h = absurd (omega arith)
  each_at list (suc n) e j h = go (dec_lt j n) (each_at list n (each_left (decoded list n) (instruction_at list n ∷ []) e) j)
    where
      go : Dec (j < n) → (j < n → P (instruction_at list j)) → P (instruction_at list j)
      go (yes l) ih = ih l
      go (no u) ih =
          let q : n ≡ j = omega arith in
          subst (λ (k : ℕ). P (instruction_at list k)) q (each_last (decoded list n) (instruction_at list n) e)

  pub each_map : {Q : Instruction → Type 0} → ((i : Instruction) → P i → Q i) → {l : List Instruction} → Each P l → Each Q l
  each_map f none = none
  each_map f (more h e) = more (f _ h) (each_map f e)
