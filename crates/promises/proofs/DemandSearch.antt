-- The searches of specs/DemandSearch.antt: the laws of SearchRuns and GreatestRuns in the crate fields prove its fields. Assumes nothing.
use mathlib.Core.Path.{sym, ap, subst, ◌∙◌}
use mathlib.Core.List.{List}
use Prim.Native.Nat.{ℕ, ◌<◌}
use lib.ListN.{length}
use Rattle.bits.specs.Bits.{Bytes}
use Rattle.registers.specs.Modes.{wrong_modes}
use Rattle.module.specs.Run.{Lent}
use Rattle.fields.specs.Value.{value, lent_on}
use Rattle.fields.specs.Marks.{less_run}
use Rattle.fields.proofs.Runs.{fits-behind}
use Rattle.fields.proofs.SearchRuns.{equal-logic, less-logic, equal-written, less-written, equal-marks, less-marks}
use Rattle.fields.proofs.GreatestRuns.{greatest-logic, greatest-written, greatest-marks, greatest-of, greatest-none, greatest-some}
use Rattle.promises.specs.DemandSearch.{Searched, DemandSearch}

pub demand-search : (a n : ℕ) (lent : Lent (List ℕ)) → Searched a n lent → DemandSearch a n lent
demand-search a n lent l =
    record {
      equal_logic = equal-logic a n l.field;
      less_logic = less-logic a n l.field;
      greatest_logic = greatest-logic a n;
      equal_written = λ number list items q. equal-written a n l.field number q.small list items q.room q.room_items;
      equal = λ number list items q.
          equal-marks a n l.field number q.small list items q.room q.room_items lent l.memory l.registers l.modes q.supplied;
      less_written = λ number list items q. less-written a n l.field number q.small list items q.room q.room_items;
      less = λ number list items q.
          less-marks a n l.field number q.small list items q.room q.room_items lent l.memory l.registers l.modes q.supplied;
      greatest_written = λ list q. greatest-written a n l.field list q.room;
      greatest = λ list q. greatest-marks a n l.field list q.room lent l.memory l.registers l.modes q.supplied;
      none_marked = λ list q. greatest-none a n l.field list q.room lent l.memory l.registers l.modes q.supplied;
      some_marked = λ list q. greatest-some a n l.field list q.room lent l.memory l.registers l.modes q.supplied;
      greatest_less = λ number list items list' q room.
          let less = less-marks a n l.field number q.small list items q.room q.room_items lent l.memory l.registers l.modes q.supplied in
          let r = less_run a n number list items lent in
          let memory : Bytes r.memory 8192 = subst (λ (z : List ℕ). Bytes z 8192) (sym less.keeps) l.memory in
          let stand = ap wrong_modes less.keeps_modes ∙ l.modes in
          greatest-of a n l.field list' room (lent_on lent r) memory less.registers stand (fits-behind n (length lent.items) q.supplied)
          (λ w. value lent.memory w a n < number) lent.memory less.marks less.keeps;
    }
