-- `tables::Signals::level_byte`: the digits so far are the first of the byte.
use mathlib.Core.Path.{◌≡◌}
use Prim.Native.Nat.{◌+◌, ◌*◌}
use Rattle.bits.specs.Bits.{bit_of, digits_of}
use Rattle.network.specs.Shifts.{p_of, m_of}
use Rattle.network.specs.Wired.{level}
use Rattle.network.proofs.tables.Signals.level_byte.Given as goal

abbrev pub invariant-loop-d : goal.invariant-loop-d
invariant-loop-d l = l.byte ≡ digits_of (λ e. bit_of l.lines (level l.f (p_of l.self.shift) (m_of l.self.shift) l.j (8 * l.i + e))) l.d
