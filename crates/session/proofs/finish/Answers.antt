-- `finish`: what the run leaves goes into the lines and the picture, and `finished-shown` puts them together.
use mathlib.Core.Path.{refl, sym, ap, ◌∙◌}
use mathlib.Core.List.{List}
use Prim.Native.Nat.{ℕ}
use native.Mathlib.Omega.{arith}
use lib.ListN.{length}
use Rattle.registers.specs.Modes.{modes_of, wrong_modes}
use Rattle.judge.specs.Answers.{Answer, answer_of}
use Rattle.module.specs.Run.{Lent, Left, ran}
use Rattle.module.proofs.RunLaws.{modes-right}
use Rattle.contents.specs.Kinds.{number_of_kind}
use Rattle.contents.specs.Content.{over}
use Rattle.session.proofs.SessionLaws.{run_small, done-number, refused-number, after_none, finished-shown}
use Rattle.session.specs.Session.{after_of, finished}
use Rattle.session.proofs.finish.Goals as goal

pub print_run-n-requires : goal.print_run-n-requires
print_run-n-requires c =
    let lent : Lent (List ℕ) = let a = c.args in
    record { memory = a.memory.now; registers = a.registers.now; list = a.list.now; items = a.items.now; out = a.out.now } in
    let r = c.run-a in
    let l = r.auto.out in (
      run_small lent r.new.out (answer_of r.result) (ap (λ (x : Left (List ℕ) Answer). x.answer) r.ensures) l,
      l ∙ c.requires.2,
      c.requires.4,
    )

pub keep-w-requires : goal.keep-w-requires
keep-w-requires c =
    let lent : Lent (List ℕ) = let a = c.args in
    record { memory = a.memory.now; registers = a.registers.now; list = a.list.now; items = a.items.now; out = a.out.now } in
    let r = c.run-a in
    let n = r.auto.regs ∙ c.requires.1 in (
      r.auto.mem ∙ c.requires.0,
      n,
      c.requires.3,
      ap (λ (u : Left (List ℕ) Answer). wrong_modes (modes_of u.registers)) r.ensures
          ∙ modes-right lent (sym (ap (λ (u : Left (List ℕ) Answer). u.answer.number) r.ensures) ∙ done-number c.in-Ok.is)
          (sym (ap (λ (u : Left (List ℕ) Answer). length u.registers) r.ensures) ∙ n),
    )

pub returns-in-Ok : goal.returns-in-Ok
returns-in-Ok c =
    let lent : Lent (List ℕ) = let a = c.args in
    record { memory = a.memory.now; registers = a.registers.now; list = a.list.now; items = a.items.now; out = a.out.now } in
    let a = c.args in
    let took = number_of_kind a.took in
    let s = ran lent in
    let r = c.run-a in
    let k = c.keep-w in
    let t = c.print_run-n in
    let e = ap (λ (n : ℕ). after_of took n r.new.mem r.new.regs) (done-number c.in-Ok.is) in
    let told = finished-shown took (finished took s) s _ _ _ (answer_of r.result) t.result k.result a.text.now t.new.text
    a.after.now k.new.after refl r.ensures t.ensures.room t.ensures.count t.ensures.text
    k.ensures.0 (k.ensures.1 ∙ sym (ap length e)) (k.ensures.2 ∙ sym (ap (λ (x : List ℕ). over x a.after.now) e)) in
    record { text = told.0; after = told.1 }

pub returns-in-Err : goal.returns-in-Err
returns-in-Err c =
    let lent : Lent (List ℕ) = let a = c.args in
    record { memory = a.memory.now; registers = a.registers.now; list = a.list.now; items = a.items.now; out = a.out.now } in
    let a = c.args in
    let took = number_of_kind a.took in
    let s = ran lent in
    let r = c.run-a in
    let t = c.print_run-n in
    let e = after_none took (answer_of r.result).number r.new.mem r.new.regs (refused-number c.in-Err.is) in
    let told = finished-shown took (finished took s) s _ _ _ (answer_of r.result) t.result 0 a.text.now t.new.text
    a.after.now a.after.now refl r.ensures t.ensures.room t.ensures.count t.ensures.text
    (omega arith) (sym (ap length e)) (sym (ap (λ (x : List ℕ). over x a.after.now) e)) in
    record { text = told.0; after = told.1 }
