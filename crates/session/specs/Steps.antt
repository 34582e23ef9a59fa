-- What the printing of a run relies on. Only the contract of an inner function cites this file: no promise to a user rests on it.
use Rattle.std.specs.Prelude.{ℕ, ◌*◌, ◌≤◌}
use Rattle.judge.specs.Answers.{Answer}

-- Numbers that fit, and items that are there: the judge has seen to it (`run_small` of proofs/SessionLaws.antt).
pub record Small (a : Answer) (room : ℕ) : Type 0 where
  pub place : a.place ≤ 4096
  pub steps : a.steps ≤ 4096
  pub taken : a.taken ≤ 4096
  pub given : a.given ≤ 4096
  pub there : 32 * a.given ≤ room
