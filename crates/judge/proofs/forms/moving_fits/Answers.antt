-- `judge::forms::moving_fits`: rows 18, 16 and 17, row 11, then rows 5 to 9 and 14 by kind. Assumes nothing.
use mathlib.Core.Path.{◌≡◌, sym, ap, ◌∙◌}
use mathlib.Core.Bool.{true, ◌||◌}
use Prim.Native.Nat.{ℕ}
use lib.Dec.{eqb}
use Rattle.registers.specs.declared.Modes.{Modes}
use Rattle.judge.specs.declared.Instruction.{Instruction}
use Rattle.judge.specs.Instructions.{instruction_at}
use Rattle.judge.specs.Judge.{fault_of}
use Rattle.judge.specs.Steps.{fits, passes}
use Rattle.judge.proofs.FormLaws.{pass-refused, choice-refused, logic-formed, byte-refused, other-formed}
use Rattle.judge.proofs.forms.moving_fits.Goals as goal

pub returns-then-not-pass_fits : goal.returns-then-not-pass_fits
returns-then-not-pass_fits c =
    let modes : Modes = c.args.m in
    let instruction : Instruction = let a = c.args in instruction_at a.list.now a.k in pass-refused modes instruction (sym c.pass_fits.ensures ∙ c.if-not-pass_fits.true)

pub returns-then-list-at-gt4 : goal.returns-then-list-at-gt4
unfolding instruction_at
returns-then-list-at-gt4 c =
    let instruction : Instruction = let a = c.args in instruction_at a.list.now a.k in
    let through : passes instruction ≡ true = sym c.pass_fits.ensures ∙ c.if-not-pass_fits.false in choice-refused _ _ through c.if-kind-eq-LOGIC.true c.if-list-at-gt4.true

pub source_fits-requires : goal.source_fits-requires
unfolding instruction_at
source_fits-requires c =
    let s = c in
    record { k_in_bounds = s.requires.k_in_bounds; k_bound = s.requires.k_bound; k_value = ap (λ (k : ℕ). eqb k 2 || eqb k 3) c.if-kind-eq-LOGIC.true }

pub returns-then-kind-eq-LOGIC : goal.returns-then-kind-eq-LOGIC
unfolding instruction_at
returns-then-kind-eq-LOGIC c =
    let instruction : Instruction = let a = c.args in instruction_at a.list.now a.k in
    let through : passes instruction ≡ true = sym c.pass_fits.ensures ∙ c.if-not-pass_fits.false in
    let d = c in
    c.source_fits.ensures ∙ logic-formed _ _ through d.if-kind-eq-LOGIC.true d.if-list-at-gt4.false

pub returns-then-list-at-ne0 : goal.returns-then-list-at-ne0
unfolding instruction_at
returns-then-list-at-ne0 c =
    let instruction : Instruction = let a = c.args in instruction_at a.list.now a.k in
    let through : passes instruction ≡ true = sym c.pass_fits.ensures ∙ c.if-not-pass_fits.false in byte-refused _ _ through c.if-kind-eq-LOGIC.false c.if-list-at-ne0.true

pub store_fits-requires : goal.store_fits-requires
unfolding instruction_at
store_fits-requires c = record { k_in_bounds = c.requires.k_in_bounds; k_value = c.if-kind.true }

pub returns-then-kind : goal.returns-then-kind
unfolding instruction_at
returns-then-kind c =
    let modes : Modes = c.args.m in
    let instruction : Instruction = let a = c.args in instruction_at a.list.now a.k in
    let through : passes instruction ≡ true = sym c.pass_fits.ensures ∙ c.if-not-pass_fits.false in
    let other : let d = c in let i = instruction in fits modes i ≡ eqb (fault_of modes i).number 0 = other-formed _ _ through c.if-kind-eq-LOGIC.false c.if-list-at-ne0.false in c.store_fits.ensures ∙ other

pub source_fits-requires-2 : goal.source_fits-requires-2
unfolding instruction_at
source_fits-requires-2 c =
    let s = c in
    record { k_in_bounds = s.requires.k_in_bounds; k_bound = s.requires.k_bound; k_value = c.if-kind.false }

pub returns : goal.returns
unfolding instruction_at
returns c =
    let modes : Modes = c.args.m in
    let instruction : Instruction = let a = c.args in instruction_at a.list.now a.k in
    let through : passes instruction ≡ true = sym c.pass_fits.ensures ∙ c.if-not-pass_fits.false in
    let other : let d = c in let i = instruction in fits modes i ≡ eqb (fault_of modes i).number 0 = other-formed _ _ through c.if-kind-eq-LOGIC.false c.if-list-at-ne0.false in c.source_fits-2.ensures ∙ other
