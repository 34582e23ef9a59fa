-- A number that is 0 or 1, by its two cases. Assumes nothing.
use mathlib.Core.Path.{◌≡◌, refl}
use mathlib.Core.Bool.{Bool, true, false, cond}
use Prim.Native.Nat.{ℕ, zero, suc, ◌-◌, ◌/◌, ◌%◌, ◌^◌, ◌<◌, min, max}
use native.Mathlib.Omega.{arith}
use lib.Bits.{differ}

pub data Bit : ℕ → Type 0 where
  off : Bit 0
  on : Bit 1

pub bit : (x : ℕ) → x < 2 → Bit x
bit zero h = off
bit (suc zero) h = on
bit (suc (suc x)) h = absurd (omega arith)

pub bit-lt : {x : ℕ} → Bit x → x < 2
bit-lt off = omega arith
bit-lt on = omega arith

-- the lowest digit, and digit j
pub low_bit : (x : ℕ) → Bit (x % 2)
low_bit x = bit (x % 2) (omega arith)

pub digit-bit : (x j : ℕ) → Bit (x / 2 ^ j % 2)
digit-bit x j = low_bit (x / 2 ^ j)

-- one of two bits
pub cond-bit : (t : Bool) {x y : ℕ} → Bit x → Bit y → Bit (cond t x y)
cond-bit true p q = p
cond-bit false p q = q

pub differ-bit : {x y : ℕ} → Bit x → Bit y → Bit (differ x y)
differ-bit off off = off
differ-bit off on = on
differ-bit on off = on
differ-bit on on = off

pub min-bit : {x y : ℕ} → Bit x → Bit y → Bit (min x y)
min-bit off off = off
min-bit off on = off
min-bit on off = off
min-bit on on = on

pub max-bit : {x y : ℕ} → Bit x → Bit y → Bit (max x y)
max-bit off off = off
max-bit off on = on
max-bit on off = on
max-bit on on = on

pub differ-assoc : {x y z : ℕ} → Bit x → Bit y → Bit z → differ (differ x y) z ≡ differ x (differ y z)
differ-assoc off off off = refl
differ-assoc off off on = refl
differ-assoc off on off = refl
differ-assoc off on on = refl
differ-assoc on off off = refl
differ-assoc on off on = refl
differ-assoc on on off = refl
differ-assoc on on on = refl

pub min-differ : {x y z : ℕ} → Bit x → Bit y → Bit z → min x (differ y z) ≡ differ (min x y) (min x z)
min-differ off off off = refl
min-differ off off on = refl
min-differ off on off = refl
min-differ off on on = refl
min-differ on off off = refl
min-differ on off on = refl
min-differ on on off = refl
min-differ on on on = refl

-- what m leaves of g is what its complement keeps
pub differ-min : {m g : ℕ} → Bit m → Bit g → differ g (min m g) ≡ min (1 - m) g
differ-min off off = refl
differ-min off on = refl
differ-min on off = refl
differ-min on on = refl
