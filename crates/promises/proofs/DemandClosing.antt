-- Closing up and spreading of specs/DemandClosing.antt: the laws of ClosingRuns and SpreadingRuns in the crate fields, and of Ranks in the crate builders, prove its fields; a search before them, that of SearchRuns. Assumes nothing.
use mathlib.Core.Path.{◌≡◌, sym, ap, subst, ◌∙◌}
use mathlib.Core.List.{List}
use Prim.Native.Nat.{ℕ, ◌+◌, ◌*◌, ◌<◌, ◌≤◌}
use native.Mathlib.Omega.{arith}
use lib.ListN.{length}
use Rattle.bits.specs.Bits.{Bytes}
use Rattle.bits.specs.Search.{Numbered}
use Rattle.bits.proofs.ByteLaws.{part_bytes}
use Rattle.registers.specs.Modes.{wrong_modes}
use Rattle.registers.specs.Rows.{registers_of}
use Rattle.module.specs.Run.{Lent}
use Rattle.builders.specs.Field.{Field}
use Rattle.closing.specs.Closing.{marked, FieldsApart}
use Rattle.closing.proofs.Ranks.{in_order}
use Rattle.fields.specs.Value.{value, lent_on}
use Rattle.fields.specs.Marks.{less_run, MarkedBy, Marks}
use Rattle.fields.specs.Closing.{closing_run}
use Rattle.fields.proofs.SearchRuns.{less-marks}
use Rattle.fields.proofs.ClosingLists.{marked-of, marks-numbered, closing-shift, closing-shifts, spreading-shift, spreading-shifts}
use Rattle.fields.proofs.ClosingRuns.{closing-written, closing-way, closing-closed, closing-none}
use Rattle.fields.proofs.SpreadingRuns.{spreading-written, spreading-way, spreading-spread, spreading-none, spread-restores}
use Rattle.promises.specs.DemandSearch.{Sought}
use Rattle.promises.specs.DemandClosing.{Moving, OnAny, ForClosing, DemandClosing, ClosesBelow}

pub demand-closing : (a s n : ℕ) (marks : List ℕ) (lent : Lent (List ℕ)) → Moving a s n marks → OnAny lent → DemandClosing a s n marks lent
demand-closing a s n marks lent g l =
    record {
      numbered = marks-numbered marks;
      closing_written = λ list items q. closing-written a s n g.fields marks list items g.sized q.room q.room_items;
      closed = λ list items q.
          closing-closed a s n g.fields marks list items g.sized q.room q.room_items lent l.memory l.registers l.modes q.supplied;
      spreading_written = λ list items q. spreading-written a s n g.fields marks list items g.sized q.room q.room_items;
      spread = λ list items q.
          spreading-spread a s n g.fields marks list items g.sized q.room q.room_items lent l.memory l.registers l.modes q.supplied;
      restored = λ list items list' items' mid q q' l'.
          spread-restores a s n g.fields marks g.sized list items list' items' q.room q.room_items q'.room q'.room_items
          lent l.memory l.registers l.modes q.supplied mid l'.memory l'.registers l'.modes q'.supplied;
      none_closed = λ list items q.
          closing-none a s n g.fields marks list items g.sized q.room q.room_items lent l.memory l.registers l.modes q.supplied;
      none_spread = λ list items q.
          spreading-none a s n g.fields marks list items g.sized q.room q.room_items lent l.memory l.registers l.modes q.supplied;
      in_order = λ t i j h e. in_order (marked marks) t i j h (marked-of marks i e);
      closing_way = λ list items q. closing-way a s n g.fields marks list items g.sized q.room q.room_items lent;
      spreading_way = λ list items q. spreading-way a s n g.fields marks list items g.sized q.room q.room_items lent;
      closing_shift = λ t k. closing-shift t s k;
      closing_shifts = closing-shifts a s n;
      spreading_shift = λ k. spreading-shift a s k;
      spreading_shifts = spreading-shifts a s n;
    }

pub closes-below : (a s n : ℕ) (lent : Lent (List ℕ)) → FieldsApart a s n → OnAny lent → ClosesBelow a s n lent
closes-below a s n lent f l =
    record {
      numbered = λ number list items q.
          let less = marks number list items q in
          let which = marks-numbered (registers_of (less_run a n number list items lent).registers).y in
          record {
            nth = which.nth;
            below = which.below;
            has = λ j h. (less.marks (which.nth j) (which.below j h)).0 (which.has j h);
            rising = which.rising;
            each = λ w h e. which.each w h ((less.marks w h).1 e);
          };
      below = both;
    }
  where
    field : Field a n
    field = record { some = f.some; width = omega (arith, f.width); fits = f.fits_a }

    marks : (number : ℕ) (list items : List ℕ) → Sought n number list items lent
        → Marks (2 + 3 * n) n (λ w. value lent.memory w a n < number) (λ y. y) lent (less_run a n number list items lent)
    marks number list items q = less-marks a n field number q.small list items q.room q.room_items lent l.memory l.registers l.modes q.supplied

    both : (number : ℕ) (list items list' items' : List ℕ) → Sought n number list items lent → ForClosing n list' items' lent
        → (c : ℕ) (which : Numbered (λ w. value lent.memory w a n < number) 256 c)
        → (let r = lent_on lent (less_run a n number list items lent) in
        let u = closing_run a s n (registers_of r.registers).y list' items' r in
        ((k : ℕ) → k < c → value u.memory k s n ≡ value lent.memory (which.nth k) a n)
        × ((k : ℕ) → c ≤ k → k < 256 → value u.memory k s n ≡ 0))
    both number list items list' items' q p c which =
        let less = marks number list items q in
        let r = lent_on lent (less_run a n number list items lent) in
        let y = (registers_of r.registers).y in
        let memory : Bytes r.memory 8192 = subst (λ (z : List ℕ). Bytes z 8192) (sym less.keeps) l.memory in
        let stand = ap wrong_modes less.keeps_modes ∙ l.modes in
        let sized : length y ≡ 32 = (part_bytes r.registers 100 64 32 (omega arith) less.registers).size in
        let those : Numbered (MarkedBy y) 256 c =
        record {
          nth = which.nth;
          below = which.below;
          has = λ j h. (less.marks (which.nth j) (which.below j h)).1 (which.has j h);
          rising = which.rising;
          each = λ w h e. which.each w h ((less.marks w h).0 e);
        } in
        let closed = closing-closed a s n f y list' items' sized p.room p.room_items r memory less.registers stand p.supplied c those in (
          λ k h. closed.closed k h ∙ ap (λ (m : List ℕ). value m (which.nth k) a n) less.keeps,
          closed.zero,
        )
