-- `shift::places`: the two cases of `reach`.
use mathlib.Core.Path.{sym, ◌∙◌}
use native.Mathlib.Nat.{one-mul}
use native.Mathlib.Omega.{arith}
use lib.Pow.{shl_exact}
use Rattle.network.proofs.TurnLaws.{reach-pow, reach-top}
use Rattle.network.proofs.shift.places.Goals as goal

pub returns-then-e-lt6 : goal.returns-then-e-lt6
returns-then-e-lt6 c = shl_exact {a = 1} 1 c.args.e 8 (omega arith) (omega arith) ∙ one-mul _ ∙ sym (reach-pow c.args.e (omega arith))

pub returns-else-e-lt6 : goal.returns-else-e-lt6
returns-else-e-lt6 c = sym (reach-top c.args.e (omega arith))
