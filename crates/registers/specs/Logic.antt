-- The logic instruction, line by line and for the record. Document 01, Instructions: Logic; source 004.
use Rattle.std.specs.Prelude.{Bool, true, false, cond, List, ℕ, zero, suc, ◌+◌, ◌*◌, ◌/◌, ◌%◌, eqb}
use Rattle.bits.specs.Bits.{digit, bit_of, item}
use Rattle.registers.specs.declared.Registers.{Registers}

-- "Function bit 2r+f is the new register bit for old bit r and passed bit f."
abbrev pub function_bit : ℕ → ℕ → ℕ → ℕ
function_bit n r f = digit n (2 * r + f)

-- "Choice 0: X; 1: Y; 2: both; 3: X where Y is 1; 4: X where the old Y is 1, and Y everywhere." Is X written at a line whose old Y is y?
abbrev pub writes_x : ℕ → ℕ → Bool
writes_x zero y = true
writes_x (suc zero) y = false
writes_x (suc (suc zero)) y = true
writes_x (suc (suc (suc zero))) y = eqb y 1
writes_x (suc (suc (suc (suc zero)))) y = eqb y 1
writes_x (suc (suc (suc (suc (suc c))))) y = false

-- Is Y?
abbrev pub writes_y : ℕ → Bool
writes_y zero = false
writes_y (suc zero) = true
writes_y (suc (suc zero)) = true
writes_y (suc (suc (suc zero))) = false
writes_y (suc (suc (suc (suc zero)))) = true
writes_y (suc (suc (suc (suc (suc c))))) = false

-- A line's new X and new Y, for byte 7 t, "16 × choice + function", the old X and Y and the passed bit f. "All read the old state."
unfoldable pub new_x : ℕ → ℕ → ℕ → ℕ → ℕ
new_x t x y f = cond (writes_x (t / 16) y) (function_bit (t % 16) x f) x

unfoldable pub new_y : ℕ → ℕ → ℕ → ℕ
new_y t y f = cond (writes_y (t / 16)) (function_bit (t % 16) y f) y

-- The registers after a logic instruction with byte 7 t and the passed item l.
unfoldable pub logic_of : Registers → List ℕ → ℕ → Registers
logic_of r l t =
    record {
      m = r.m;
      x = item (λ k. new_x t (bit_of r.x k) (bit_of r.y k) (bit_of l k));
      y = item (λ k. new_y t (bit_of r.y k) (bit_of l k));
      modes = r.modes;
    }
