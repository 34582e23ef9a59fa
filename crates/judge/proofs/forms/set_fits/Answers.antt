-- `judge::forms::set_fits`: rows 5 to 9 and 14 of kind 6. Assumes nothing.
use Rattle.judge.specs.Instructions.{instruction_at}
use Rattle.judge.proofs.FormLaws.{set-fits}
use Rattle.judge.proofs.forms.set_fits.Goals as goal

pub returns : goal.returns
unfolding instruction_at
returns c m =
    let s = c in
    set-fits m (instruction_at s.args.list.now s.args.k) s.requires.k_value
