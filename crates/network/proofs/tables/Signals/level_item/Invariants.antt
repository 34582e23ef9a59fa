-- `tables::Signals::level_item`: the bytes so far are the first of the item after the level.
use mathlib.Core.Path.{◌≡◌}
use lib.ListN.{length, take}
use Rattle.bits.specs.Bits.{bit_of, byte_of, listed}
use Rattle.network.specs.Shifts.{p_of, m_of}
use Rattle.network.specs.Wired.{level}
use Rattle.network.proofs.tables.Signals.level_item.Given as goal

abbrev pub invariant-loop-i : goal.invariant-loop-i
invariant-loop-i l = (length l.lines ≡ 32)
    × (take l.i l.lines ≡ listed (byte_of (λ k. bit_of l.before (level l.f (p_of l.self.shift) (m_of l.self.shift) l.j k))) l.i)
