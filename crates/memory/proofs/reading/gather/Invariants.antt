-- `gather`: each turn is one lane more.
use mathlib.Core.Path.{◌≡◌}
use Rattle.bits.specs.Bits.{listed, digits_of}
use Rattle.memory.specs.Groups.{line_digit}
use Rattle.memory.proofs.reading.gather.Given as goal

abbrev pub invariant-loop-j : goal.invariant-loop-j
invariant-loop-j l = (l.out ≡ listed (λ i. digits_of (line_digit l.bytes l.mode l.addr i) l.j) 32)
