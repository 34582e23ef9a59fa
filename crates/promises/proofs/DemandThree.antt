-- Demand 3 of specs/DemandThree.antt: the laws of SumRuns in the crate fields prove its fields. Assumes nothing.
use mathlib.Core.List.{List}
use Prim.Native.Nat.{ℕ, ◌≤◌}
use lib.ListN.{length}
use native.Mathlib.Omega.{arith}
use Rattle.module.specs.Run.{Lent}
use Rattle.builders.specs.Sums.{list_length}
use Rattle.fields.proofs.SumRuns.{sum-built, difference-built, sum-put, difference-put, exchange, taking-off}
use Rattle.promises.specs.DemandThree.{Given, DemandThree}

pub demand-three : (a b s n : ℕ) (buffer buffer' : List ℕ) (lent : Lent (List ℕ)) → Given a b s n buffer buffer' lent → DemandThree a b s n buffer buffer' lent
demand-three a b s n buffer buffer' lent l =
    let more : list_length 1 n ≤ length buffer' = let r = l.room' in omega arith in
    record {
      sum_written = sum-built a b s n l.fields buffer l.room;
      difference_written = difference-built a b s n l.fields buffer' l.room';
      sum = sum-put a b s n l.fields buffer lent l.memory l.registers l.modes l.supplied l.room;
      difference = difference-put a b s n l.fields buffer' lent l.memory l.registers l.modes l.supplied l.room';
      exchanged = exchange a b s n l.fields buffer buffer' lent l.memory l.registers l.modes l.supplied l.room more;
      taken_off = λ apart. taking-off a b s n l.fields buffer buffer' lent l.memory l.registers l.modes l.supplied l.room apart l.room';
    }
