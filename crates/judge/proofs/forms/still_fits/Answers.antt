-- `judge::forms::still_fits`: bytes 5, 6 and 7, then the rest by kind. Assumes nothing.
use mathlib.Core.Path.{ap, ◌∙◌}
use mathlib.Core.Bool.{Bool, ◌&&◌, ◌||◌}
use Prim.Native.Nat.{ℕ}
use native.Mathlib.Omega.{arith}
use lib.Dec.{eqb}
use Rattle.judge.specs.Instructions.{instruction_at}
use Rattle.judge.proofs.FormLaws.{still_formed, none-formed}
use Rattle.judge.proofs.forms.still_fits.Goals as goal

pub resolve_fits-requires : goal.resolve_fits-requires
unfolding instruction_at
resolve_fits-requires c = record { k_in_bounds = c.requires.k_in_bounds; k_value = c.in-5.is }

pub set_fits-requires : goal.set_fits-requires
unfolding instruction_at
set_fits-requires c = record { k_in_bounds = c.requires.k_in_bounds; k_value = c.in-6.is }

pub returns-in-5 : goal.returns-in-5
unfolding instruction_at
returns-in-5 c =
    let i = instruction_at c.args.list.now c.args.k in
    ap (λ (b : Bool). (eqb i.flip 0 && eqb i.code 0 && eqb i.logic 0) && b) (c.resolve_fits.ensures c.args.m)
    ∙ still_formed _ i (ap (λ (k : ℕ). eqb k 5 || eqb k 6) c.in-5.is) (λ z. omega (arith, z, c.in-5.is))

pub returns-in-6 : goal.returns-in-6
unfolding instruction_at
returns-in-6 c =
    let i = instruction_at c.args.list.now c.args.k in
    ap (λ (b : Bool). (eqb i.flip 0 && eqb i.code 0 && eqb i.logic 0) && b) (c.set_fits.ensures c.args.m)
    ∙ still_formed _ i (ap (λ (k : ℕ). eqb k 5 || eqb k 6) c.in-6.is) (λ z. omega (arith, z, c.in-6.is))

pub returns-in_default : goal.returns-in_default
unfolding instruction_at
returns-in_default c = none-formed _ (instruction_at c.args.list.now c.args.k) (omega arith)
