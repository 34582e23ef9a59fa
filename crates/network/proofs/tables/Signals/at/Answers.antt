-- `tables::Signals::at`: the table's rule at an entry of the shift's row.
use native.Mathlib.Omega.{arith}
use Rattle.network.proofs.TableRules.{signal-of}
use Rattle.network.proofs.WireLaws.{start-le}
use Rattle.network.proofs.tables.Signals.at.Goals as goal

pub overflow_mul-result : goal.overflow_mul-result
overflow_mul-result c = omega (arith, start-le c.args.j c.requires.0)

pub overflow_add-result-2 : goal.overflow_add-result-2
overflow_add-result-2 c = omega (arith, start-le c.args.j c.requires.0)

pub bounds-self-j : goal.bounds-self-j
bounds-self-j c = omega (arith, start-le c.args.j c.requires.0)

pub returns : goal.returns
returns c = signal-of _ _ c.args.j c.args.k c.args.self.now.of_shift c.requires.0 c.requires.1
