-- `judge::forms::stands`: by whether the kind is over 4. Assumes nothing.
use Rattle.judge.specs.Instructions.{instruction_at}
use Rattle.judge.proofs.forms.stands.Goals as goal

pub still_fits-requires-clause-bound : goal.still_fits-requires-clause-bound
unfolding instruction_at
still_fits-requires-clause-bound c = c.if-list-k-gt-DELIVER.true

pub moving_fits-requires-clause-k_bound : goal.moving_fits-requires-clause-k_bound
unfolding instruction_at
moving_fits-requires-clause-k_bound c = c.if-list-k-gt-DELIVER.false
