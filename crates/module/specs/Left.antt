-- What a step by value leaves, of its result: the record that it was handed where it is refused.
use Rattle.std.specs.Prelude.{List, ℕ, Result, Ok, Err}
use Rattle.registers.specs.declared.Registers.{Registers}
use Rattle.judge.specs.declared.Refused.{Refused}
use Rattle.judge.specs.Answers.{Answer, answer_of}
use Rattle.module.specs.declared.Stepped.{Stepped}
use Rattle.module.specs.Run.{Left}

abbrev pub left_by : Registers → Result Stepped Refused → List ℕ → List ℕ → Left Registers Answer
left_by r (Ok s) mem out = record { memory = mem; registers = s.regs; out = out; answer = answer_of (Ok s.done) }
left_by r (Err e) mem out = record { memory = mem; registers = r; out = out; answer = answer_of (Err e) }
