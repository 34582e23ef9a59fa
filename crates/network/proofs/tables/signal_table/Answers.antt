-- `network::tables::signal_table` meets its contract: the table is what the definition computes. Assumes nothing.
use mathlib.Core.Path.{refl}
use Rattle.bits.specs.Bits.{listed}
use Rattle.network.specs.Shifts.{codes, codes_to, signal, row, rows, signals}
use Rattle.network.proofs.tables.signal_table.Goals as goal

pub returns : goal.returns
unfolding codes codes_to listed signal row rows signals
returns c = refl
