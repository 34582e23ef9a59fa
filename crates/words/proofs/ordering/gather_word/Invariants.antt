-- `gather_word`: each turn is one lane more, whose digits stand where they belong.
use mathlib.Core.Path.{◌≡◌}
use Rattle.bits.specs.Bits.{listed, digits_of}
use Rattle.memory.specs.Groups.{line_digit}
use Rattle.words.proofs.ordering.gather_word.Given as goal

abbrev pub invariant-loop-j : goal.invariant-loop-j
invariant-loop-j l = (l.word ≡ listed (λ i. digits_of (line_digit l.bytes 255 l.addr i) l.j) 32)
