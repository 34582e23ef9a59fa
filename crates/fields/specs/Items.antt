-- An instruction with the outside item that is next: the name in which the laws of runs that take items are stated.
use Rattle.std.specs.Prelude.{cond, List, ℕ}
use Rattle.network.specs.Answer.{passed_item}
use Rattle.judge.specs.declared.Instruction.{Instruction}
use Rattle.judge.specs.Instructions.{takes}
use Rattle.module.specs.Act.{State, held_item, after}

-- What instruction i makes of a state where x is the next of the lent items.
unfoldable pub acted_on : Instruction → List ℕ → State → State
acted_on i x s = after i (passed_item (cond (takes i) x (held_item i s.mem s.regs)) i.flip i.code) s
