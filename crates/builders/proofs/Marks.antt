-- A mark: a number that is 1 where a claim holds and 0 where it does not. Assumes nothing.
use mathlib.Core.Path.{◌≡◌, refl}
use mathlib.Core.Logic.{◌↔◌, ◌⊎◌, inl, inr}
use Prim.Native.Nat.{ℕ}
use native.Mathlib.Omega.{arith}
use Rattle.bits.proofs.Binary.{Bit, off as bit-off, on as bit-on}
use Rattle.registers.specs.Logic.{function_bit}

pub data Mark (P : Type 0) : ℕ → Type 0 where
  on : P → Mark P 1
  off : (P → ⊥) → Mark P 0

pub mark-bit : {P : Type 0} {y : ℕ} → Mark P y → Bit y
mark-bit (on p) = bit-on
mark-bit (off u) = bit-off

-- it is 1 exactly if the claim holds
pub mark-iff : {P : Type 0} {y : ℕ} → Mark P y → (y ≡ 1) ↔ P
mark-iff (on p) = (λ e. p, λ q. refl)
mark-iff (off u) = (λ e. absurd (omega arith), λ p. absurd (u p))

-- a claim that holds exactly if another does has its marks
pub mark-map : {P Q : Type 0} {y : ℕ} → P ↔ Q → Mark P y → Mark Q y
mark-map e (on p) = on (e.0 p)
mark-map e (off u) = off (λ q. u (e.1 q))

-- ---- logic on marks

pub bit-mark : {y : ℕ} → Bit y → Mark (y ≡ 1) y
bit-mark bit-on = on refl
bit-mark bit-off = off (λ e. omega arith)

module _ {P Q : Type 0} where
  -- function 14: the one or the other
  pub mark-or : {y f : ℕ} → Mark P y → Mark Q f → Mark (P ⊎ Q) (function_bit 14 y f)
  mark-or (on p) (on q) = on (inl p)
  mark-or (on p) (off v) = on (inl p)
  mark-or (off u) (on q) = on (inr q)
  mark-or (off u) (off v) = off neither
    where
      neither : P ⊎ Q → ⊥
      neither (inl p) = u p
      neither (inr q) = v q

  -- function 4: the one without the other
  pub mark-without : {y f : ℕ} → Mark P y → Mark Q f → Mark (P × (Q → ⊥)) (function_bit 4 y f)
  mark-without (on p) (on q) = off (λ z. z.1 q)
  mark-without (on p) (off v) = on (p, v)
  mark-without (off u) (on q) = off (λ z. u z.0)
  mark-without (off u) (off v) = off (λ z. u z.0)
