-- `run_list`: the state after k instructions is what `ran_by` says, and the counts are those of the list so far. Assumes nothing.
use mathlib.Core.Path.{◌≡◌, refl, sym, ap, ◌∙◌}
use mathlib.Core.List.{List}
use Prim.Native.Nat.{ℕ}
use Rattle.std.proofs.Common.{rules}
use Rattle.bits.specs.Search.{count}
use Rattle.registers.specs.declared.Registers.{Registers}
use Rattle.registers.specs.Rows.{with_modes}
use Rattle.judge.specs.declared.modes.Settled.{Settled}
use Rattle.judge.specs.Steps.{settled_by}
use Rattle.module.specs.Act.{State, acted}
use Rattle.module.specs.Run.{Lent, begun, ran_by}
use Rattle.module.proofs.ActLaws.{state_of}
use Rattle.module.proofs.RunLaws.{modes-ran, ready_at, more-run, more-taken, more_given}
use native.Mathlib.Omega.{arith}
use Rattle.module.proofs.run_list.Goals as goal

-- what is lent
abbrev lent : List ℕ → Registers → List ℕ → List ℕ → List ℕ → Lent Registers
lent mem r list items out = record { memory = mem; registers = r; list = list; items = items; out = out }

pub loop-k-init : goal.loop-k-init
unfolding ran_by count
loop-k-init c = (search rules, refl, refl, refl, refl)

pub act-a-requires : goal.act-a-requires
act-a-requires c =
    let d = c in
    let l = d.loop-k in
    let s = d in
    let a = s.args in
    ready_at (lent a.mem.now a.r a.list.now a.items.now a.out.now) l.memory l.out l.k l.s.modes d.decode-i.result l.taken l.given
    s.requires (omega arith) d.decode-i.ensures (l.invariant.0 ∙ sym s.requires.memory) l.invariant.1 l.invariant.2 l.invariant.3
    (ap (λ (x : State). x.regs.modes) l.invariant.4 ∙ modes-ran a.list.now a.items.now (begun (lent c.unwrap-memory.result.now a.r a.list.now a.items.now a.out.now) a.r) l.k)

pub loop-k-preserved : goal.loop-k-preserved
loop-k-preserved c =
    let settled : let t = c in
    ◌≡◌ {A = Settled} (record { mode = t.settle-settled.result.mode; modes = c.with_modes-r.result.modes }) (settled_by t.decode-i.result t.loop-k.s.modes) = let t = c in
    (λ j. record { mode = t.settle-settled.result.mode; modes = (c.with_modes-r.ensures j).modes }) ∙ t.settle-settled.ensures in
    let d = c in
    let w = d in
    let e = w in
    let l = e.loop-k in
    let a = e.args in
    let i = e.decode-i.result in
    let old : State = state_of l.memory l.out l.s l.taken l.given in
    let acts = d.act-a.ensures l.s.modes settled
    ∙ ap (λ (x : Registers). acted i a.items.now (state_of l.memory l.out (with_modes x l.s.modes) l.taken l.given)) w.with_modes-r.ensures in (
      omega arith,
      omega arith,
      more-taken a.list.now a.items.now l.k i e.decode-i.ensures old _ acts l.invariant.2,
      more_given a.list.now a.items.now l.k i e.decode-i.ensures old _ acts l.invariant.3,
      more-run a.list.now a.items.now l.k i e.decode-i.ensures old _ acts (begun (lent c.unwrap-memory.result.now a.r a.list.now a.items.now a.out.now) a.r) l.invariant.4,
    )
