-- The logic instruction on bytes is the one on lines; what it makes of each line. Assumes nothing.
use mathlib.Core.Path.{◌≡◌, refl, sym, ap, ap₂, ◌∙◌}
use mathlib.Core.Bool.{Bool, true, false, cond}
use mathlib.Core.List.{List}
use Prim.Native.Nat.{ℕ, ◌+◌, ◌*◌, ◌/◌, ◌%◌, ◌^◌, ◌<◌}
use native.Mathlib.Nat.{zero-div}
use native.Mathlib.Omega.{arith}
use lib.Dec.{T, eqb, eqb→eq}
use lib.ListN.{get_or}
use Rattle.bits.specs.Bits.{digit, bit_of, byte_of}
use Rattle.bits.specs.Steps.{mixed}
use Rattle.bits.proofs.Binary.{Bit, off, on, digit-bit, cond-bit}
use Rattle.bits.proofs.Digits.{digit-mod, digit-mixed}
use Rattle.bits.proofs.Items.{bit_of-bit, bit_of-at, bit_of-pack, byte_of-is}
use Rattle.bits.proofs.Tests.{all, all-at}
use Rattle.registers.specs.declared.Registers.{Registers}
use Rattle.registers.specs.Logic.{function_bit, writes_x, writes_y, new_x, new_y, logic_of}

-- ---- a digit spread over a byte, and a byte mixed of two

spread-digit : (d j : ℕ) → Bit d → j < 8 → digit (255 * d) j ≡ d
spread-digit d j off h = ap (λ (x : ℕ). x % 2) (zero-div (2 ^ j))
spread-digit d j on h = eqb→eq (digit 255 j) 1 (all-at 8 (λ j. eqb (digit 255 j) 1) tt j h)

-- byte v, digit k of t spread over it
pub spread_at : (v t k j : ℕ) → v ≡ 255 * digit t k → j < 8 → digit v j ≡ digit t k
spread_at v t k j e h = ap (λ (x : ℕ). digit x j) e ∙ spread-digit (digit t k) j (digit-bit t k) h

-- byte v, mixed of bytes whose digits are known
pub mixed-of : (a b m v j p q s : ℕ) → v ≡ mixed a b m → digit a j ≡ p → digit b j ≡ q → digit m j ≡ s → digit v j ≡ cond (eqb s 1) q p
mixed-of a b m v j p q s e ha hb hm =
    ap (λ (x : ℕ). digit x j) e
    ∙ digit-mixed a b m j
    ∙ ap (λ (x : ℕ). cond (eqb x 1) (digit b j) (digit a j)) hm
    ∙ ap₂ (λ (x y : ℕ). cond (eqb s 1) x y) hb ha

-- byte v, mixed of two digits that were spread over their bytes: digit k of t where m has a 0, digit l of u where it has a 1
pub mixed-spread : (t k u l : ℕ) {a b v : ℕ} (m j : ℕ) → v ≡ mixed a b m → a ≡ 255 * digit t k → b ≡ 255 * digit u l → j < 8
    → digit v j ≡ cond (eqb (digit m j) 1) (digit u l) (digit t k)
mixed-spread t k u l {a} {b} {v} m j e ha hb h = mixed-of a b m v j _ _ _ e (spread_at a t k j ha h) (spread_at b u l j hb h) refl

-- ---- the function's four digits, picked by the old bit and the passed one

pub function-picked : (t : ℕ) {r f : ℕ} → Bit r → Bit f
    → cond (eqb r 1) (cond (eqb f 1) (digit t 3) (digit t 2)) (cond (eqb f 1) (digit t 1) (digit t 0)) ≡ function_bit (t % 16) r f
function-picked t off off = sym (digit-mod t 4 0 (omega arith))
function-picked t off on = sym (digit-mod t 4 1 (omega arith))
function-picked t on off = sym (digit-mod t 4 2 (omega arith))
function-picked t on on = sym (digit-mod t 4 3 (omega arith))

-- ---- the choice as a mask: digits of 5 and 29 for X, of 22 for Y

abbrev agree : Bool → Bool → Bool
agree true b = b
agree false true = false
agree false false = true

agree-is : (a b : Bool) → T (agree a b) → a ≡ b
agree-is true true t = refl
agree-is true false t = absurd t
agree-is false true t = absurd t
agree-is false false t = refl

mask_x : ℕ → ℕ → Bool
mask_x y c = agree (eqb (cond (eqb y 1) (digit 29 c) (digit 5 c)) 1) (writes_x c y)

mask_y : ℕ → Bool
mask_y c = agree (eqb (digit 22 c) 1) (writes_y c)

tested-off : T (all 5 (mask_x 0))
unfolding mask_x
tested-off = tt

tested-on : T (all 5 (mask_x 1))
unfolding mask_x
tested-on = tt

tested-Y : T (all 5 mask_y)
unfolding mask_y
tested-Y = tt

pub mask-X : (c : ℕ) {y : ℕ} → Bit y → c < 5 → eqb (cond (eqb y 1) (digit 29 c) (digit 5 c)) 1 ≡ writes_x c y
unfolding mask_x
mask-X c off h = agree-is _ _ (all-at 5 (mask_x 0) tested-off c h)
mask-X c on h = agree-is _ _ (all-at 5 (mask_x 1) tested-on c h)

pub mask-Y : (c : ℕ) → c < 5 → eqb (digit 22 c) 1 ≡ writes_y c
unfolding mask_y
mask-Y c h = agree-is _ _ (all-at 5 mask_y tested-Y c h)

-- ---- byte i of the new rows

module _ (t : ℕ) (x y l : List ℕ) (i v : ℕ) (byte : v < 256) where
  pub byte-X : ((j : ℕ) → j < 8 → digit v j ≡ new_x t (digit (get_or x i 0) j) (digit (get_or y i 0) j) (digit (get_or l i 0) j))
      → v ≡ byte_of (λ k. new_x t (bit_of x k) (bit_of y k) (bit_of l k)) i
  byte-X e =
      byte_of-is (λ k. new_x t (bit_of x k) (bit_of y k) (bit_of l k)) i v byte
      (λ j h. e j h
      ∙ sym (ap (λ (p : ℕ). new_x t p (bit_of y (8 * i + j)) (bit_of l (8 * i + j))) (bit_of-at x i j h)
      ∙ ap₂ (λ (p q : ℕ). new_x t (digit (get_or x i 0) j) p q) (bit_of-at y i j h) (bit_of-at l i j h)))

  pub byte-Y : ((j : ℕ) → j < 8 → digit v j ≡ new_y t (digit (get_or y i 0) j) (digit (get_or l i 0) j)) → v ≡ byte_of (λ k. new_y t (bit_of y k) (bit_of l k)) i
  byte-Y e =
      byte_of-is (λ k. new_y t (bit_of y k) (bit_of l k)) i v byte
      (λ j h. e j h ∙ sym (ap₂ (λ (p q : ℕ). new_y t p q) (bit_of-at y i j h) (bit_of-at l i j h)))

-- ---- what a logic instruction makes of each line

pub new_x-bit : (t x y f : ℕ) → Bit x → Bit (new_x t x y f)
unfolding new_x
new_x-bit t x y f h = cond-bit (writes_x (t / 16) y) (digit-bit (t % 16) (2 * x + f)) h

pub new_y-bit : (t y f : ℕ) → Bit y → Bit (new_y t y f)
unfolding new_y
new_y-bit t y f h = cond-bit (writes_y (t / 16)) (digit-bit (t % 16) (2 * y + f)) h

module _ (r : Registers) (l : List ℕ) (t k : ℕ) (line : k < 256) where
  pub logic-X : bit_of (logic_of r l t).x k ≡ new_x t (bit_of r.x k) (bit_of r.y k) (bit_of l k)
  unfolding logic_of
  logic-X =
      bit_of-pack (λ k. new_x t (bit_of r.x k) (bit_of r.y k) (bit_of l k))
      (λ k. new_x-bit t (bit_of r.x k) (bit_of r.y k) (bit_of l k) (bit_of-bit r.x k)) 32 k line

  pub logic-Y : bit_of (logic_of r l t).y k ≡ new_y t (bit_of r.y k) (bit_of l k)
  unfolding logic_of
  logic-Y = bit_of-pack (λ k. new_y t (bit_of r.y k) (bit_of l k)) (λ k. new_y-bit t (bit_of r.y k) (bit_of l k) (bit_of-bit r.y k)) 32 k line

-- ---- byte 7 by its choice and its function

module _ (c n : ℕ) (function : n < 16) where
  choice-of : (16 * c + n) / 16 ≡ c
  choice-of = omega arith

  function_of : (16 * c + n) % 16 ≡ n
  function_of = omega arith

  pub choice-X : (x y f : ℕ) → new_x (16 * c + n) x y f ≡ cond (writes_x c y) (function_bit n x f) x
  unfolding new_x
  choice-X x y f = ap₂ (λ (p q : ℕ). cond (writes_x p y) (function_bit q x f) x) choice-of function_of

  pub choice-Y : (y f : ℕ) → new_y (16 * c + n) y f ≡ cond (writes_y c) (function_bit n y f) y
  unfolding new_y
  choice-Y y f = ap₂ (λ (p q : ℕ). cond (writes_y p) (function_bit q y f) y) choice-of function_of
