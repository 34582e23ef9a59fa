-- `run_list`: the state after k instructions is what `ran_by` says, and the counts are those of the list so far. Assumes nothing.
use mathlib.Core.Path.{◌≡◌}
use mathlib.Core.List.{List}
use Prim.Native.Nat.{ℕ}
use lib.ListN.{length}
use Rattle.registers.specs.declared.Registers.{Registers}
use Rattle.judge.specs.Instructions.{takes, gives}
use Rattle.module.specs.Act.{State}
use Rattle.module.specs.Run.{Lent, begun, ran_by}
use Rattle.module.proofs.RunLaws.{used_by}
use Rattle.module.proofs.run_list.Given as goal

-- what is lent
abbrev lent : List ℕ → Registers → List ℕ → List ℕ → List ℕ → Lent Registers
lent mem r list items out = record { memory = mem; registers = r; list = list; items = items; out = out }

abbrev pub invariant-loop-k : goal.invariant-loop-k
invariant-loop-k l = (length l.memory ≡ 8192) × (length l.out ≡ length l.initial.out) × (l.taken ≡ used_by takes l.list l.k) × (l.given ≡ used_by gives l.list l.k)
    × (◌≡◌ {A = State} (record { mem = l.memory; out = l.out; regs = l.s; taken = l.taken; given = l.given })
    (ran_by l.list l.items (begun (lent l.initial.memory l.initial.s l.list l.items l.initial.out) l.initial.s) l.k))
