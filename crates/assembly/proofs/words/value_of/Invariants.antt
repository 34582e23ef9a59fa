-- `words::value_of`: the digits that are left make the number.
use Rattle.std.proofs.Common.{◌≡◌, true, drop}
use Rattle.assembly.specs.Words.{valued, value_by}
use Rattle.assembly.proofs.words.value_of.Given as goal

abbrev pub invariant-loop-c : goal.invariant-loop-c
invariant-loop-c l = value_by (valued true l.v) (drop l.c-index l.characters) ≡ value_by (valued true 0) l.characters
