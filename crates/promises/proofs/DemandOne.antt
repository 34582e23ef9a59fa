-- Demand 1 of specs/DemandOne.antt: its tables from the crates' laws, and its fields from the promises. Assumes nothing.
use mathlib.Core.Path.{◌≡◌, refl, sym, ap, subst, subst₂, ◌∙◌}
use mathlib.Core.Bool.{Bool, true, false, cond, not, ◌||◌, true≢false}
use mathlib.Core.List.{List, [], ◌∷◌}
use mathlib.Core.Logic.{◌↔◌, ◌≢◌}
use Prim.Native.Nat.{ℕ, ◌*◌, ◌<◌, ◌≤◌}
use native.Mathlib.Omega.{arith}
use lib.Dec.{eqb, ltb}
use lib.ListN.{length, drop}
use borrow.Author.Tests.{eqb-true, eqb-false, ne_eqb, ltb-false}
use Rattle.bits.specs.Rows.{Row, row, number_of, NoRow, FirstRow}
use Rattle.bits.proofs.Rows.{numbered, among, none_number, number-none, first-number, number-first}
use Rattle.network.specs.Answer.{Passed}
use Rattle.network.specs.Answer.{passed_item, answer}
use Rattle.network.proofs.TableRules.{listed-none}
use Rattle.network.proofs.AnswerLaws.{pass-refusals, pass-0, given, refused}
use Rattle.registers.specs.declared.Modes.{Modes}
use Rattle.registers.specs.declared.Registers.{Registers}
use Rattle.registers.specs.Modes.{modes_of}
use Rattle.judge.specs.declared.Lengths.{Lengths}
use Rattle.judge.specs.Answers.{Answer}
use Rattle.judge.specs.Kinds.{most_bytes}
use Rattle.judge.specs.Judge.{unfit, run_rows, step_rows, judged_by, judged, judged_step}
use Rattle.judge.proofs.Numbers as numbers
use Rattle.module.specs.Run.{Lent, Left, unmoved, run_lengths, step_lengths, ran, stepped, left_bytes}
use Rattle.module.proofs.RunLaws.{ran-answer, ran-refused}
use Rattle.module.proofs.StepLaws.{stepped-answer, stepped-refused, step-is-run, step-not-eight}
use Rattle.builders.specs.Building.{Built}
use Rattle.builders.specs.Building.{BuiltTwo}
use Rattle.builders.specs.Lists.{encoded}
use Rattle.builders.specs.Sums.{sum_list, difference_list, list_length, field_rows, fields_fault, sum_built, difference_built}
use Rattle.builders.specs.Searches.{search_list, number_items, greatest_list, search_length, items_length, greatest_length, search_rows, greatest_rows, search_fault, greatest_fault, search_built, greatest_built}
use Rattle.closing.specs.Closing.{closing_list, closing_items, closing_length, closing_items_length, closing_built, spreading_list, spreading_items, spreading_length, spreading_items_length, spreading_built, moving_rows, moving_fault}
use Rattle.builders.specs.Building.{BuiltLeft as Buffer, built_with, BuiltTwoLeft as Buffers, built_two}
use Rattle.builders.proofs.ListLaws.{sum-length, difference-length, search-length, number-length, greatest-length}
use Rattle.builders.proofs.OneLaws.{one_number, one-count, one-unwritten}
use Rattle.builders.proofs.TwoLaws.{two-number, two-counts, two-unwritten}
use Rattle.builders.proofs.Refusals.{fault-row, sound, no-fault}
use Rattle.closing.proofs.Lengths.{closing-length, closing-items-length, spreading-length, spreading-items-length}
use Rattle.closing.proofs.Refusals.{moving-row, moving-sound, moving-no-fault}
use Rattle.builders.proofs.SearchRefusals.{search-row, search-sound, search-no-fault, greatest-row, greatest-sound, greatest-no-fault}
use Rattle.isolation.specs.Isolation.{Isolation}
use Rattle.isolation.specs.Isolation.{isolation_of}
use Rattle.isolation.proofs.Answers.{isolated-refusals, unbroken, kept-place}
use Rattle.reach.specs.Reach.{Reached}
use Rattle.reach.specs.Reach.{answer_bytes, reach_rows, reach_number, reach_answer, reach_out}
use Rattle.text.specs.Show.{Shown}
use Rattle.text.specs.Make.{Made}
use Rattle.text.specs.Show.{shown_text, shown_as, shown_answer, shown_out}
use Rattle.text.specs.Make.{last_of, made_bytes, line_at, column_at, answer as made_as, refused_at, made_answer, made_out}
use Rattle.text.proofs.LineNumbers.{line-numbers}
use Rattle.assembly.specs.Assembly.{Assembled}
use Rattle.assembly.specs.Assembly.{outcome_of, made_list, made_items, answer as assembled_as, assembled_answer, assembled_list, assembled_items}
use Rattle.assembly.proofs.Bounds.{outcome-numbers}
use Rattle.contents.specs.Moved.{Moved}
use Rattle.contents.specs.File.{content_of, block_count, blocks_of}
use Rattle.contents.specs.Content.{answered, read_answer, changed, over, target_fits, content_fits, read_rows, write_rows, ContentLeft, content_read, content_written}
use Rattle.contents.proofs.AnswerLaws.{changed-not, left-parts}
use Rattle.contents.proofs.Numbers as blocks
use Rattle.pictures.specs.Picture.{picture_of, scrambled, content_modes, picture_fits, picture_read_rows, picture_read, picture_write_rows, picture_written}
use Rattle.pictures.specs.Conversion.{new_content, old_content, to_new_rows, to_old_rows, to_new, to_old}
use Rattle.pictures.proofs.PictureLaws.{both-parts}
use Rattle.library.specs.Left.{six, five, three, run_left, step_left, PassLeft, pass_left, BufferLeft, sum_left, difference_left, moved_left, TwoLeft, built_two_left, equal_left, less_left, greatest_left, closing_left, spreading_left, isolated_left, reach_left, show_left, make_left, read_left, write_left, write_picture_left, to_new_left, to_old_left, TargetsLeft, read_picture_left}
use Rattle.promises.specs.Clauses.{Run, Step, SumList, DifferenceList, GreatestList, ClosingList, SpreadingList, Isolated, Reach, Show, Make, Assemble, ReadContent, WriteContent, ReadPicture, WritePicture, ToNew, ToOld, LibraryRun, LibraryStep, LibraryPass, LibraryBuffer, LibraryTwo, LibraryIsolated, LibraryReadPicture}
use Rattle.promises.specs.DemandOne.{AnswerTable, RunTable, StepTable, PassTable, ListTable, TwoTable, FieldsTable, SearchTable, GreatestTable, MovingTable, ClosingTable, SpreadingTable, IsolatedTable, CountTable, ReachTable, ShowTable, line_number, MakeTable, of_lines, AssembleTable, ReadTable, WriteTable, ReadContentTable, WriteContentTable, ReadPictureTable, WritePictureTable, ToNewTable, ToOldTable, Kept, AllKept, DemandOne}

-- ---- the tables, from the laws

pass-table : (lines : List ℕ) (flip code : ℕ) → PassTable lines flip code (answer lines flip code)
pass-table lines flip code =
    record {
      refused = pass-refusals lines flip code;
      row-0 = pass-0 lines flip code;
      zero-item = λ t. sym (ap (λ (r : Passed). r.item) (refused lines flip code _ t refl));
      passed = λ t. sym (ap (λ (r : Passed). r.item) (given lines flip code (passed_item lines flip code) t refl));
    }

answer-table : (rows : List Row) (l : Lengths) (m : Modes) (list : List ℕ) → numbered rows ≡ true → among 10 rows ≡ false
    → AnswerTable rows l m list (judged_by rows l m list)
answer-table rows l m list apart off =
    record {
      refused = numbers.refusals rows l m list apart;
      unrefused = numbers.unrefused rows l m list apart;
      done-is = λ z. numbers.done-is rows l m list ((numbers.unrefused rows l m list apart).0 z);
      never-10 = numbers.never-10 rows l m list apart off;
      refused-is = numbers.refusal-counts rows l m list apart;
    }

-- the table of a builder: `fault` is the number that its rows give, and where it is 0 the request is good
module _ (rows : List Row) (Good : Type 0) (fault : ℕ) (first : (m : ℕ) → m ≢ 0 → (fault ≡ m) ↔ FirstRow rows m) (good : (fault ≡ 0) ↔ Good) where
  list-table : (bytes list : List ℕ) → ListTable rows Good (length bytes) (built_with fault bytes list).answer
  list-table bytes list =
      let e = sym (one_number fault bytes list) in
      record {
        refused = λ m u. subst (λ (x : ℕ). (x ≡ m) ↔ FirstRow rows m) e (first m u);
        row-0 = subst (λ (x : ℕ). (x ≡ 0) ↔ Good) e good;
        done-is = one-count fault bytes list;
        refused-is = λ u. ap (λ (l : Buffer). l.answer.count) (one-unwritten fault bytes list u);
      }

  two-table : (bytes item_bytes list items : List ℕ)
      → TwoTable rows Good (length bytes) (length item_bytes) (built_two fault bytes item_bytes list items).answer
  two-table bytes item_bytes list items =
      let e = sym (two-number fault bytes item_bytes list items) in
      record {
        refused = λ m u. subst (λ (x : ℕ). (x ≡ m) ↔ FirstRow rows m) e (first m u);
        row-0 = subst (λ (x : ℕ). (x ≡ 0) ↔ Good) e good;
        done-is = two-counts fault bytes item_bytes list items;
        refused-is = λ u.
            let w = two-unwritten fault bytes item_bytes list items u in
            (ap (λ (l : Buffers). l.answer.list) w, ap (λ (l : Buffers). l.answer.items) w);
      }

-- the table of what counts what it puts out, from its number and its count
count-table : (rows : List Row) (put number count : ℕ) → (number_of rows ≡ 0 → NoRow rows) → number ≡ number_of rows
    → (number ≡ 0 → count ≡ put) → (number ≢ 0 → count ≡ 0) → CountTable rows put number count
count-table rows put number count none e done-is refused-is =
    record {
      refused = λ n u. (λ z. number-first rows n u (sym e ∙ z), λ f. e ∙ first-number rows n f);
      row-0 = (λ z. none (sym e ∙ z), λ t. e ∙ none_number rows t);
      done-is = done-is;
      refused-is = refused-is;
    }

-- where each row has a number
numbered-table : (rows : List Row) (put number count : ℕ) → numbered rows ≡ true → number ≡ number_of rows → (number ≡ 0 → count ≡ put) → (number ≢ 0 → count ≡ 0)
    → CountTable rows put number count
numbered-table rows put number count t = count-table rows put number count (number-none rows t)

reach-table : (registers list : List ℕ) (out : ℕ) → ReachTable registers list out (reach_answer registers list out)
unfolding reach_answer
reach-table registers list out = go (eqb number 0) refl
  where
    number : ℕ
    number = reach_number registers list out

    rows : List Row
    rows = reach_rows (length registers) (modes_of registers) list out

    go : (b : Bool) → eqb number 0 ≡ b
        → (let r = cond {A = Reached} b (record { number = 0; count = answer_bytes list }) (record { number = number; count = 0 }) in
        CountTable rows (answer_bytes list) r.number r.count)
    go true e = numbered-table rows (answer_bytes list) 0 (answer_bytes list) refl (sym (eqb-true number 0 e)) (λ z. refl) (λ u. absurd (u refl))
    go false e = numbered-table rows (answer_bytes list) number 0 refl refl (λ z. absurd (eqb-false number 0 e z)) (λ u. refl)

show-table : (list : List ℕ) (room : ℕ) → ShowTable list room (shown_answer list room)
unfolding shown_answer
show-table list room = go (unfit 8 (length list)) (ltb room (length (shown_text list)))
  where
    put : ℕ
    put = length (shown_text list)

    go : (b c : Bool) → (let r = cond b (shown_as 3 0) (cond c (shown_as 27 0) (shown_as 0 put)) in CountTable (row 3 b ∷ row 27 c ∷ []) put r.number r.count)
    go true c = numbered-table (row 3 true ∷ row 27 c ∷ []) put 3 0 refl refl (λ z. absurd (omega (arith, z))) (λ u. refl)
    go false true = numbered-table (row 3 false ∷ row 27 true ∷ []) put 27 0 refl refl (λ z. absurd (omega (arith, z))) (λ u. refl)
    go false false = numbered-table (row 3 false ∷ row 27 false ∷ []) put 0 put refl refl (λ z. refl) (λ u. absurd (u refl))

-- a text's: `line` is its line's number, `start` the place of what is refused, `put` the count of the bytes that it makes; `long`, `sound`, `many` and `short` are the tests, of a text whose line has no number `sound`
module _ (text : List ℕ) (line start put : ℕ) (of_line : line ≢ 0 → (60 ≤ line) × (line ≤ 69)) where
  abbrev rows-by : Bool → Bool → Bool → Bool → List Row
  rows-by long sound many short = row 50 long ∷ row line (not sound) ∷ row 3 many ∷ row 33 short ∷ []

  abbrev made_by : Bool → Bool → Bool → Bool → Made
  made_by long sound many short =
      cond long (made_as 50 0 0 0)
      (cond sound (cond many (made_as 3 0 0 0) (cond short (made_as 33 0 0 0) (made_as 0 0 0 put)))
      (refused_at text line start))

  -- a number with its place
  record Placed (r : Made) : Type 0 where
    placed : 60 ≤ r.number → (r.line ≡ line_at text start) × (r.column ≡ column_at text start)
    unplaced : r.number < 60 → (r.line ≡ 0) × (r.column ≡ 0)

  -- where the number is 0 no row holds, since a line's row holds only where its number is not 0
  none-by : (long sound many short : Bool) → eqb line 0 ≡ sound → number_of (rows-by long sound many short) ≡ 0 → NoRow (rows-by long sound many short)
  none-by true sound many short e z = absurd (omega (arith, z))
  none-by false true true short e z = absurd (omega (arith, z))
  none-by false true false true e z = absurd (omega (arith, z))
  none-by false true false false e z = (refl, (refl, (refl, (refl, tt))))
  none-by false false many short e z = absurd (eqb-false line 0 e z)

  -- a number below 60 has no place, and no count unless it is 0
  low : (n count : ℕ) → n < 60 → Placed (made_as n 0 0 count)
  low n count h = record { placed = λ k. absurd (omega arith); unplaced = λ k. (refl, refl) }

  abbrev Tabled : List Row → Made → Type 0
  Tabled rows r = CountTable rows put r.number r.count × Placed r

  made_table : (long sound many short : Bool) → eqb line 0 ≡ sound → Tabled (rows-by long sound many short) (made_by long sound many short)
  unfolding refused_at
  made_table true sound many short e = (count-table _ put 50 0 (none-by true sound many short e) refl (λ z. absurd (omega (arith, z))) (λ u. refl), low 50 0 (omega arith))
  made_table false true true short e = (count-table _ put 3 0 (none-by false true true short e) refl (λ z. absurd (omega (arith, z))) (λ u. refl), low 3 0 (omega arith))
  made_table false true false true e = (count-table _ put 33 0 (none-by false true false true e) refl (λ z. absurd (omega (arith, z))) (λ u. refl), low 33 0 (omega arith))
  made_table false true false false e = (count-table _ put 0 put (none-by false true false false e) refl (λ z. refl) (λ u. absurd (u refl)), low 0 put (omega arith))
  made_table false false many short e = (
    count-table _ put line 0 (none-by false false many short e) refl (λ z. absurd (eqb-false line 0 e z)) (λ u. refl),
    record { placed = λ k. (refl, refl); unplaced = λ k. absurd (omega (arith, of_line (eqb-false line 0 e))) },
  )

make-table : (text : List ℕ) (room : ℕ) → MakeTable text room (made_answer text room)
unfolding made_answer
make-table text room =
    let of_line = line-numbers text in
    let size = length (made_bytes text) in
    let t = made_table text (line_number text) (last_of text).start size of_line
    (ltb 1048576 (length text)) (eqb (line_number text) 0) (ltb most_bytes size) (ltb room size) refl in
    record { counted = t.0; of_line = of_line; placed = t.1.placed; unplaced = t.1.unplaced }

-- that of a text with statements: `number` is its lines', with their row and column, `size` and `items_size` are the counts of the bytes that it makes; `long`, `sound`, `many`, `many_items` and `short` are the tests, of a text whose lines have no number `sound`
module _ (number at column size items_size : ℕ) where
  abbrev rows_of : Bool → Bool → Bool → Bool → Bool → List Row
  rows_of long sound many many_items short = row 50 long ∷ row number (not sound) ∷ row 3 many ∷ row 4 many_items ∷ row 33 short ∷ []

  abbrev assembled-by : Bool → Bool → Bool → Bool → Bool → Assembled
  assembled-by long sound many many_items short =
      cond long (assembled_as 50 0 0 0 0)
      (cond sound
      (cond many (assembled_as 3 0 0 0 0) (cond many_items (assembled_as 4 0 0 0 0) (cond short (assembled_as 33 0 0 0 0) (assembled_as 0 0 0 size items_size))))
      (assembled_as number at column 0 0))

  -- where the number is 0 no row holds, since the lines' row holds only where their number is not 0
  none_of : (long sound many many_items short : Bool) → eqb number 0 ≡ sound
      → number_of (rows_of long sound many many_items short) ≡ 0 → NoRow (rows_of long sound many many_items short)
  none_of true sound many many_items short e z = absurd (omega (arith, z))
  none_of false true true many_items short e z = absurd (omega (arith, z))
  none_of false true false true short e z = absurd (omega (arith, z))
  none_of false true false false true e z = absurd (omega (arith, z))
  none_of false true false false false e z = (refl, (refl, (refl, (refl, (refl, tt)))))
  none_of false false many many_items short e z = absurd (eqb-false number 0 e z)

  -- both counts, and the place
  record Stated (rows : List Row) (r : Assembled) : Type 0 where
    counted : CountTable rows size r.number r.list
    counted_items : CountTable rows items_size r.number r.items
    placed : of_lines r.number ≡ true → (r.line ≡ at) × (r.column ≡ column)
    unplaced : of_lines r.number ≡ false → (r.line ≡ 0) × (r.column ≡ 0)

  module _ (rows : List Row) (none : number_of rows ≡ 0 → NoRow rows) where
    -- a number that is none of a line's
    bare : (n : ℕ) → n ≡ number_of rows → n ≢ 0 → of_lines n ≡ false → Stated rows (assembled_as n 0 0 0 0)
    bare n e u f = record {
      counted = count-table rows size n 0 none e (λ z. absurd (u z)) (λ v. refl);
      counted_items = count-table rows items_size n 0 none e (λ z. absurd (u z)) (λ v. refl);
      placed = λ t. absurd (true≢false (sym t ∙ f));
      unplaced = λ t. (refl, refl);
    }

    -- the lines'
    lined : number ≡ number_of rows → number ≢ 0 → of_lines number ≡ true → Stated rows (assembled_as number at column 0 0)
    lined e u f = record {
      counted = count-table rows size number 0 none e (λ z. absurd (u z)) (λ v. refl);
      counted_items = count-table rows items_size number 0 none e (λ z. absurd (u z)) (λ v. refl);
      placed = λ t. (refl, refl);
      unplaced = λ t. absurd (true≢false (sym f ∙ t));
    }

    -- none
    whole : 0 ≡ number_of rows → Stated rows (assembled_as 0 0 0 size items_size)
    whole e = record {
      counted = count-table rows size 0 size none e (λ z. refl) (λ v. absurd (v refl));
      counted_items = count-table rows items_size 0 items_size none e (λ z. refl) (λ v. absurd (v refl));
      placed = λ t. absurd (true≢false (sym t));
      unplaced = λ t. (refl, refl);
    }

  stated : (long sound many many_items short : Bool) → eqb number 0 ≡ sound → (long ≡ false → number ≢ 0 → of_lines number ≡ true)
      → Stated (rows_of long sound many many_items short) (assembled-by long sound many many_items short)
  stated true sound many many_items short e f = bare _ (none_of true sound many many_items short e) 50 refl (λ z. omega (arith, z)) refl
  stated false true true many_items short e f = bare _ (none_of false true true many_items short e) 3 refl (λ z. omega (arith, z)) refl
  stated false true false true short e f = bare _ (none_of false true false true short e) 4 refl (λ z. omega (arith, z)) refl
  stated false true false false true e f = bare _ (none_of false true false false true e) 33 refl (λ z. omega (arith, z)) refl
  stated false true false false false e f = whole _ (none_of false true false false false e) refl
  stated false false many many_items short e f =
      let u = eqb-false number 0 e in
      lined _ (none_of false false many many_items short e) refl u (f refl u)

assemble-table : (text : List ℕ) (room room_items : ℕ) → AssembleTable text room room_items (assembled_answer text room room_items)
unfolding assembled_answer
assemble-table text room room_items =
    let o = outcome_of text in
    let size = length (made_list text) in
    let items_size = length (made_items text) in
    let t = stated o.number o.line o.column size items_size
    (ltb 1048576 (length text)) (eqb o.number 0) (ltb most_bytes size) (ltb most_bytes items_size) (ltb room size || ltb room_items items_size)
    refl (λ e. outcome-numbers text (ltb-false 1048576 (length text) e)) in
    record { counted = t.counted; counted_items = t.counted_items; of_line = outcome-numbers text; placed = t.placed; unplaced = t.unplaced }

read_table : (kind : ℕ) (bytes : List ℕ) (rows : List Row) (put : ℕ) → numbered rows ≡ true → ReadTable kind bytes rows put (read_answer kind bytes rows put)
read_table kind bytes rows put t =
    record {
      refused = blocks.read-refusals kind bytes rows put;
      row-0 = blocks.read-0 kind bytes rows put t;
      done-is = λ z. blocks.read_all kind bytes rows put ((blocks.read-0 kind bytes rows put t).0 z);
      refused-is = blocks.read-no-bytes kind bytes rows put;
    }

write-table : (rows : List Row) (put : ℕ) → numbered rows ≡ true → WriteTable rows put (answered rows put)
write-table rows put t =
    record {
      refused = blocks.answered-refusals rows put;
      row-0 = blocks.answered-row-0 rows put t;
      done-is = blocks.answered-done rows put;
      refused-is = blocks.answered-no-bytes rows put;
    }

-- ---- from the promises

-- a refusal that leaves all unmoved keeps all
all-kept : {R : Type 0} (l : Lent R) (u : Left R Answer) → (u.answer.number ≢ 0 → u ≡ unmoved l u.answer) → AllKept u.answer.number l u
all-kept {R} l u h =
    (λ n. ap (λ (x : Left R Answer). x.memory) (h n), λ n. ap (λ (x : Left R Answer). x.registers) (h n), λ n. ap (λ (x : Left R Answer). x.out) (h n))

run-meets : (l : Lent (List ℕ)) (u : Left (List ℕ) Answer) → Run l u
    → (u.answer ≡ judged (run_lengths l) (modes_of l.registers) l.list) × RunTable l u.answer × AllKept u.answer.number l u
run-meets l u h =
    let e = ap (λ (x : Left (List ℕ) Answer). x.answer) h ∙ ran-answer l in
    let m = modes_of l.registers in (
      e,
      subst (RunTable l) (sym e) (answer-table (run_rows (run_lengths l) m l.list) (run_lengths l) m l.list refl refl),
      all-kept l u (λ n. h ∙ sym (ran-refused l u.answer e n)),
    )

step-meets : (l : Lent Registers) (u : Left Registers Answer) → Step l u
    → (u.answer ≡ judged_step (step_lengths l) l.registers.modes l.list) × StepTable l u.answer × AllKept u.answer.number l u
step-meets l u h =
    let e = ap (λ (x : Left Registers Answer). x.answer) h ∙ stepped-answer l in
    let m = l.registers.modes in (
      e,
      subst (StepTable l) (sym e) (answer-table (step_rows (step_lengths l) m l.list) (step_lengths l) m l.list refl refl),
      all-kept l u (λ n. h ∙ sym (stepped-refused l u.answer e n)),
    )

-- what a builder leaves, where its bytes have the size that is told
module _ (rows : List Row) (Good : Type 0) (fault : ℕ) (first : (m : ℕ) → m ≢ 0 → (fault ≡ m) ↔ FirstRow rows m) (good : (fault ≡ 0) ↔ Good) where
  built : (bytes list list' : List ℕ) (r : Built) → ◌≡◌ {A = Buffer} (record { answer = r; list = list' }) (built_with fault bytes list)
      → (size : ℕ) → length bytes ≡ size
      → ListTable rows Good size r × Kept r.number list list'
  built bytes list list' r h size l =
      let e = ap (λ (x : Buffer). x.answer) h in (
        subst₂ (ListTable rows Good) l (sym e) (list-table rows Good fault first good bytes list),
        λ u. ap (λ (x : Buffer). x.list) (h ∙ one-unwritten fault bytes list (λ z. u (ap (λ (x : Built). x.number) e ∙ z))),
      )

  module _ (bytes item_bytes list items list' items' : List ℕ) (r : BuiltTwo)
      (h : ◌≡◌ {A = Buffers} (record { answer = r; list = list'; items = items' }) (built_two fault bytes item_bytes list items)) where
    told : r ≡ (built_two fault bytes item_bytes list items).answer
    told = ap (λ (x : Buffers). x.answer) h

    kept-two : (part : Buffers → List ℕ) → r.number ≢ 0
        → part (record { answer = r; list = list'; items = items' })
        ≡ part (record { answer = record { number = fault; list = 0; items = 0 }; list = list; items = items })
    kept-two part u = ap part (h ∙ two-unwritten fault bytes item_bytes list items (λ z. u (ap (λ (x : BuiltTwo). x.number) told ∙ z)))

    built-two : (size items_size : ℕ) → length bytes ≡ size → length item_bytes ≡ items_size
        → TwoTable rows Good size items_size r × Kept r.number list list' × Kept r.number items items'
    built-two size items_size l i = (
      subst₂ (λ (n k : ℕ). TwoTable rows Good n k r) l i
          (subst (TwoTable rows Good (length bytes) (length item_bytes)) (sym told) (two-table rows Good fault first good bytes item_bytes list items)),
      kept-two (λ x. x.list),
      kept-two (λ x. x.items),
    )

module _ (a b s n : ℕ) (list list' : List ℕ) (r : Built) where
  -- with `lead` instructions before the first bit's
  fields-meet : (lead : ℕ) (bytes : List ℕ) → length bytes ≡ list_length lead n
      → ◌≡◌ {A = Buffer} (record { answer = r; list = list' }) (built_with (fields_fault lead a b s n (length list)) bytes list)
      → FieldsTable lead a b s n (length list) r × Kept r.number list list'
  fields-meet lead bytes l h =
      built (field_rows lead a b s n (length list)) _ (fields_fault lead a b s n (length list)) (fault-row lead a b s n (length list))
      (sound lead a b s n (length list) _ refl, λ g. no-fault lead a b s n (length list) g.0 g.1) bytes list list' r h (list_length lead n) l

  sum_meets : SumList a b s n list list' r → FieldsTable 1 a b s n (length list) r × Kept r.number list list'
  unfolding sum_built
  sum_meets h = fields-meet 1 (encoded (sum_list a b s n)) (sum-length a b s n) h

  difference-meets : DifferenceList a b s n list list' r → FieldsTable 2 a b s n (length list) r × Kept r.number list list'
  unfolding difference_built
  difference-meets h = fields-meet 2 (encoded (difference_list a b s n)) (difference-length a b s n) h

-- a search for less, or else for equal
search-meets : (less : Bool) (start n number : ℕ) (list items list' items' : List ℕ) (r : BuiltTwo)
    → ◌≡◌ {A = Buffers} (record { answer = r; list = list'; items = items' }) (search_built less start n number list items)
    → SearchTable start n number (length list) (length items) r × Kept r.number list list' × Kept r.number items items'
unfolding search_built
search-meets less start n number list items list' items' r h =
    let fault = search_fault start n number (length list) (length items) in
    built-two (search_rows start n number (length list) (length items)) _ fault (search-row start n number (length list) (length items))
    (search-sound start n number (length list) (length items) _ refl, λ g. search-no-fault start n number (length list) (length items) g.0 g.1 g.2 g.3)
    (encoded (search_list less start n)) (number_items number n) list items list' items' r h
    (search_length n) (items_length n) (search-length less start n) (number-length number n)

greatest-meets : (start n : ℕ) (list list' : List ℕ) (r : Built) → GreatestList start n list list' r
    → GreatestTable start n (length list) r × Kept r.number list list'
unfolding greatest_built
greatest-meets start n list list' r h =
    built (greatest_rows start n (length list)) _ (greatest_fault start n (length list)) (greatest-row start n (length list))
    (greatest-sound start n (length list) _ refl, λ g. greatest-no-fault start n (length list) g.0 g.1)
    (encoded (greatest_list start n)) list list' r h (greatest_length n) (greatest-length start n)

-- a closing or a spreading, with the lengths of its list and of its items
moving-meets : (a s n : ℕ) (marks : List ℕ) (need supply : ℕ) (bytes item_bytes : List ℕ) → length bytes ≡ need → length item_bytes ≡ supply
    → (list items list' items' : List ℕ) (r : BuiltTwo)
    → ◌≡◌ {A = Buffers} (record { answer = r; list = list'; items = items' })
    (built_two (moving_fault a s n (length marks) (length list) (length items) need supply) bytes item_bytes list items)
    → MovingTable a s n (length marks) (length list) (length items) need supply r × Kept r.number list list' × Kept r.number items items'
moving-meets a s n marks need supply bytes item_bytes l i list items list' items' r h =
    built-two (moving_rows a s n (length marks) (length list) (length items) need supply) _
    (moving_fault a s n (length marks) (length list) (length items) need supply)
    (moving-row a s n (length marks) (length list) (length items) need supply) (
      moving-sound a s n (length marks) (length list) (length items) need supply _ refl,
      λ g. moving-no-fault a s n (length marks) (length list) (length items) need supply g.0 g.1 g.2 g.3,
    )
    bytes item_bytes list items list' items' r h need supply l i

module _ (a s n : ℕ) (marks list items list' items' : List ℕ) where
  closing-meets : (r : BuiltTwo) → ClosingList a s n marks list items list' items' r
      → ClosingTable a s n (length marks) (length list) (length items) r × Kept r.number list list' × Kept r.number items items'
  unfolding closing_built
  closing-meets r h =
      moving-meets a s n marks (closing_length n) closing_items_length (encoded (closing_list a s n)) (closing_items marks) (closing-length a s n)
      (closing-items-length marks) list items list' items' r h

  spreading-meets : (r : BuiltTwo) → SpreadingList a s n marks list items list' items' r
      → SpreadingTable a s n (length marks) (length list) (length items) r × Kept r.number list list' × Kept r.number items items'
  unfolding spreading_built
  spreading-meets r h =
      moving-meets a s n marks (spreading_length n) (spreading_items_length n) (encoded (spreading_list a s n)) (spreading_items marks n) (spreading-length a s n)
      (spreading-items-length marks n) list items list' items' r h

-- what an entry leaves that reads, or writes, where its answer is one of the table
module _ (r a : Moved) (new old after : List ℕ) where
  moved : (Table : Moved → Type 0) → Table a → ◌≡◌ {A = ContentLeft} (record { answer = r; buffer = after }) (record { answer = a; buffer = changed a new old })
      → Table r × Kept r.number old after
  moved Table t h =
      let p = left-parts r a new old after h in
      (subst Table (sym p.0) t, λ u. p.1 ∙ sym (changed-not r new old u))

read_meets : (kind : ℕ) (bytes target target' : List ℕ) (r : Moved) → ReadContent kind bytes target target' r
    → ReadContentTable kind bytes target r × Kept r.number target target'
unfolding content_read
read_meets kind bytes target target' r h =
    moved r _ (over (content_of bytes) target) target target' (ReadContentTable kind bytes target)
    (read_table kind bytes (read_rows (target_fits kind bytes target)) (length (content_of bytes)) refl) h

write_meets : (kind : ℕ) (content out out' : List ℕ) (r : Moved) → WriteContent kind content out out' r
    → WriteContentTable kind content out r × Kept r.number out out'
unfolding content_written
write_meets kind content out out' r h =
    let need = 512 * block_count (length content) in
    moved r _ (over (blocks_of kind content) out) out out' (WriteContentTable kind content out)
    (write-table (write_rows kind (content_fits kind content) need (length out)) need refl) h

read-picture-meets : (kind : ℕ) (bytes memory registers memory' registers' : List ℕ) (r : Moved) → ReadPicture kind bytes memory registers memory' registers' r
    → ReadPictureTable kind bytes memory registers r × Kept r.number memory memory' × Kept r.number registers registers'
unfolding picture_read
read-picture-meets kind bytes memory registers memory' registers' r h =
    let rows = picture_read_rows (picture_fits kind (length memory) (length registers)) (content_modes (content_of bytes)) in
    let new = scrambled (content_of bytes) in
    let new' = drop 8192 (content_of bytes) in
    let p = both-parts r _ new memory new' registers memory' registers' h in (
      subst (ReadPictureTable kind bytes memory registers) (sym p.0) (read_table kind bytes rows (length (content_of bytes)) refl),
      λ u. p.1 ∙ sym (changed-not r new memory u),
      λ u. p.2 ∙ sym (changed-not r new' registers u),
    )

write-picture-meets : (kind : ℕ) (memory registers out out' : List ℕ) (r : Moved) → WritePicture kind memory registers out out' r
    → WritePictureTable kind memory registers out r × Kept r.number out out'
unfolding picture_written
write-picture-meets kind memory registers out out' r h =
    moved r _ (over (blocks_of kind (picture_of memory registers)) out) out out' (WritePictureTable kind memory registers out)
    (write-table (picture_write_rows kind (picture_fits kind (length memory) (length registers)) (modes_of registers) (length out)) 8704 refl) h

to-new-meets : (bytes out out' : List ℕ) (r : Moved) → ToNew bytes out out' r → ToNewTable bytes out r × Kept r.number out out'
unfolding to_new
to-new-meets bytes out out' r h =
    moved r _ (over (blocks_of 4 (new_content (content_of bytes))) out) out out' (ToNewTable bytes out) (read_table 1 bytes (to_new_rows (length out)) 8704 refl) h

to-old-meets : (bytes out out' : List ℕ) (r : Moved) → ToOld bytes out out' r → ToOldTable bytes out r × Kept r.number out out'
unfolding to_old
to-old-meets bytes out out' r h =
    moved r _ (over (blocks_of 1 (old_content (content_of bytes))) out) out out' (ToOldTable bytes out)
    (read_table 4 bytes (to_old_rows (content_modes (content_of bytes)) (length out)) 8704 refl) h

-- ---- a function of the library: what it leaves is what the entry leaves, and the numbers of the entry's answer

library-pass : (item : List ℕ) (flip code : ℕ) (passed' answer' : List ℕ) → LibraryPass item flip code passed' answer'
    → (r : Passed) × (answer' ≡ r.number ∷ []) × (passed' ≡ r.item) × PassTable item flip code r
unfolding pass_left
library-pass item flip code passed' answer' h =
    (answer item flip code, ap (λ (l : PassLeft). l.answer) h, ap (λ (l : PassLeft). l.passed) h, pass-table item flip code)

library-run : (l : Lent (List ℕ)) (u : Left (List ℕ) (List ℕ)) → LibraryRun l u
    → (a : Answer) × (u.answer ≡ six a) × RunTable l a × AllKept a.number l u
unfolding run_left
library-run l u h =
    let a = (ran l).answer in
    let m = run-meets l (record { memory = u.memory; registers = u.registers; out = u.out; answer = a })
    (λ t. record { memory = (h t).memory; registers = (h t).registers; out = (h t).out; answer = a }) in
    (a, ap (λ (x : Left (List ℕ) (List ℕ)). x.answer) h, m.1, m.2)

library-step : (l : Lent Registers) (u : Left Registers (List ℕ)) → LibraryStep l u
    → (a : Answer) × (u.answer ≡ six a) × StepTable l a × AllKept a.number l u
unfolding step_left
library-step l u h =
    let a = (stepped l).answer in
    let m = step-meets l (record { memory = u.memory; registers = u.registers; out = u.out; answer = a })
    (λ t. record { memory = (h t).memory; registers = (h t).registers; out = (h t).out; answer = a }) in
    (a, ap (λ (x : Left Registers (List ℕ)). x.answer) h, m.1, m.2)

module _ (a b s n : ℕ) (list list' answer' : List ℕ) where
  library-sum : LibraryBuffer (sum_left a b s n list) list' answer'
      → (r : Built) × (answer' ≡ r.number ∷ r.count ∷ []) × FieldsTable 1 a b s n (length list) r × Kept r.number list list'
  unfolding sum_left
  library-sum h =
      let r = (sum_built a b s n list).answer in
      let m = sum_meets a b s n list list' r (λ t. record { answer = r; list = (h t).buffer }) in
      (r, ap (λ (l : BufferLeft). l.answer) h, m.0, m.1)

  library-difference : LibraryBuffer (difference_left a b s n list) list' answer'
      → (r : Built) × (answer' ≡ r.number ∷ r.count ∷ []) × FieldsTable 2 a b s n (length list) r × Kept r.number list list'
  unfolding difference_left
  library-difference h =
      let r = (difference_built a b s n list).answer in
      let m = difference-meets a b s n list list' r (λ t. record { answer = r; list = (h t).buffer }) in
      (r, ap (λ (l : BufferLeft). l.answer) h, m.0, m.1)

-- what a search leaves, with the three numbers of its answer
library-search : (less : Bool) (start n number : ℕ) (list items list' items' answer' : List ℕ)
    → LibraryTwo (built_two_left (search_built less start n number list items)) list' items' answer'
    → (r : BuiltTwo) × (answer' ≡ r.number ∷ r.list ∷ r.items ∷ []) × SearchTable start n number (length list) (length items) r
    × Kept r.number list list' × Kept r.number items items'
library-search less start n number list items list' items' answer' h =
    let r = (search_built less start n number list items).answer in
    let m = search-meets less start n number list items list' items' r (λ t. record { answer = r; list = (h t).list; items = (h t).items }) in
    (r, ap (λ (l : TwoLeft). l.answer) h, m.0, m.1, m.2)

library-greatest : (start n : ℕ) (list list' answer' : List ℕ) → LibraryBuffer (greatest_left start n list) list' answer'
    → (r : Built) × (answer' ≡ r.number ∷ r.count ∷ []) × GreatestTable start n (length list) r × Kept r.number list list'
unfolding greatest_left
library-greatest start n list list' answer' h =
    let r = (greatest_built start n list).answer in
    let m = greatest-meets start n list list' r (λ t. record { answer = r; list = (h t).buffer }) in
    (r, ap (λ (l : BufferLeft). l.answer) h, m.0, m.1)

module _ (a s n : ℕ) (marks list items list' items' answer' : List ℕ) where
  library-closing : LibraryTwo (closing_left a s n marks list items) list' items' answer'
      → (r : BuiltTwo) × (answer' ≡ r.number ∷ r.list ∷ r.items ∷ []) × ClosingTable a s n (length marks) (length list) (length items) r
      × Kept r.number list list' × Kept r.number items items'
  unfolding closing_left
  library-closing h =
      let r = (closing_built a s n marks list items).answer in
      let m = closing-meets a s n marks list items list' items' r (λ t. record { answer = r; list = (h t).list; items = (h t).items }) in
      (r, ap (λ (l : TwoLeft). l.answer) h, m.0, m.1, m.2)

  library-spreading : LibraryTwo (spreading_left a s n marks list items) list' items' answer'
      → (r : BuiltTwo) × (answer' ≡ r.number ∷ r.list ∷ r.items ∷ []) × SpreadingTable a s n (length marks) (length list) (length items) r
      × Kept r.number list list' × Kept r.number items items'
  unfolding spreading_left
  library-spreading h =
      let r = (spreading_built a s n marks list items).answer in
      let m = spreading-meets a s n marks list items list' items' r (λ t. record { answer = r; list = (h t).list; items = (h t).items }) in
      (r, ap (λ (l : TwoLeft). l.answer) h, m.0, m.1, m.2)

isolated-meets : (list registers : List ℕ) (r : Isolation) → Isolated list registers r → IsolatedTable list registers r
isolated-meets list registers r h =
    subst (IsolatedTable list registers) (sym h)
    (record { refused = isolated-refusals list registers; row-0 = unbroken list registers; done-is = kept-place list registers })

library-isolated : (list registers answer' : List ℕ) → LibraryIsolated list registers answer'
    → (r : Isolation) × (answer' ≡ r.number ∷ r.place ∷ []) × IsolatedTable list registers r
unfolding isolated_left
library-isolated list registers answer' h =
    let r = isolation_of list registers in
    (r, h, isolated-meets list registers r refl)

-- a buffer of which nothing is written where a number is given
untouched : (n : ℕ) (new old : List ℕ) → n ≢ 0 → cond (eqb n 0) new old ≡ old
untouched n new old u = ap (λ (b : Bool). cond b new old) (ne_eqb n 0 u)

reach-meets : (registers list out out' : List ℕ) (r : Reached) → Reach registers list out out' r
    → ReachTable registers list (length out) r × Kept r.number out out'
unfolding reach_out
reach-meets registers list out out' r (e, h) =
    let t = subst (ReachTable registers list (length out)) (sym e) (reach-table registers list (length out)) in
    let rows = reach_rows (length registers) (modes_of registers) list (length out) in
    (t, λ u. h ∙ untouched (reach_number registers list (length out)) _ out (λ z. u (t.row-0.1 (number-none rows refl z))))

show-meets : (list text text' : List ℕ) (r : Shown) → Show list text text' r → ShowTable list (length text) r × Kept r.number text text'
unfolding shown_out
show-meets list text text' r (e, h) = (
  subst (ShowTable list (length text)) (sym e) (show-table list (length text)),
  λ u. h ∙ untouched (shown_answer list (length text)).number _ text (λ z. u (ap (λ (x : Shown). x.number) e ∙ z)),
)

make_meets : (text out out' : List ℕ) (r : Made) → Make text out out' r → MakeTable text (length out) r × Kept r.number out out'
unfolding made_out
make_meets text out out' r (e, h) = (
  subst (MakeTable text (length out)) (sym e) (make-table text (length out)),
  λ u. h ∙ untouched (made_answer text (length out)).number _ out (λ z. u (ap (λ (x : Made). x.number) e ∙ z)),
)

assemble-meets : (text list items list' items' : List ℕ) (r : Assembled) → Assemble text list items list' items' r
    → AssembleTable text (length list) (length items) r × Kept r.number list list' × Kept r.number items items'
unfolding assembled_list assembled_items
assemble-meets text list items list' items' r (e, l, i) =
    let a = assembled_answer text (length list) (length items) in
    let n = ap (λ (x : Assembled). x.number) e in (
      subst (AssembleTable text (length list) (length items)) (sym e) (assemble-table text (length list) (length items)),
      λ u. l ∙ untouched a.number _ list (λ z. u (n ∙ z)),
      λ u. i ∙ untouched a.number _ items (λ z. u (n ∙ z)),
    )

library-reach : (registers list out out' answer' : List ℕ) → LibraryBuffer (reach_left registers list out) out' answer'
    → (r : Reached) × (answer' ≡ r.number ∷ r.count ∷ []) × ReachTable registers list (length out) r × Kept r.number out out'
unfolding reach_left
library-reach registers list out out' answer' h =
    let r = reach_answer registers list (length out) in
    let m = reach-meets registers list out out' r (refl, ap (λ (l : BufferLeft). l.buffer) h) in
    (r, ap (λ (l : BufferLeft). l.answer) h, m.0, m.1)

library-show : (list text text' answer' : List ℕ) → LibraryBuffer (show_left list text) text' answer'
    → (r : Shown) × (answer' ≡ r.number ∷ r.count ∷ []) × ShowTable list (length text) r × Kept r.number text text'
unfolding show_left
library-show list text text' answer' h =
    let r = shown_answer list (length text) in
    let m = show-meets list text text' r (refl, ap (λ (l : BufferLeft). l.buffer) h) in
    (r, ap (λ (l : BufferLeft). l.answer) h, m.0, m.1)

library-make : (text list items list' items' answer' : List ℕ) → LibraryTwo (make_left text list items) list' items' answer'
    → (r : Assembled) × (answer' ≡ five r) × AssembleTable text (length list) (length items) r
    × Kept r.number list list' × Kept r.number items items'
unfolding make_left
library-make text list items list' items' answer' h =
    let r = assembled_answer text (length list) (length items) in
    let m = assemble-meets text list items list' items' r (refl, ap (λ (l : TwoLeft). l.list) h, ap (λ (l : TwoLeft). l.items) h) in
    (r, ap (λ (l : TwoLeft). l.answer) h, m.0, m.1, m.2)

-- of a buffer and three numbers, by what the entry behind them meets
library-moved : (Table : Moved → Type 0) (l : ContentLeft) (before buffer' answer' : List ℕ) → LibraryBuffer (moved_left l) buffer' answer'
    → ((r : Moved) → ◌≡◌ {A = ContentLeft} (record { answer = r; buffer = buffer' }) l → Table r × Kept r.number before buffer')
    → (r : Moved) × (answer' ≡ three r) × Table r × Kept r.number before buffer'
library-moved Table l before buffer' answer' h meets =
    let r = l.answer in
    let m = meets r (λ t. record { answer = r; buffer = (h t).buffer }) in
    (r, ap (λ (x : BufferLeft). x.answer) h, m.0, m.1)

library-read : (kind : ℕ) (bytes target target' answer' : List ℕ) → LibraryBuffer (read_left kind bytes target) target' answer'
    → (r : Moved) × (answer' ≡ three r) × ReadContentTable kind bytes target r × Kept r.number target target'
unfolding read_left
library-read kind bytes target target' answer' h =
    library-moved (ReadContentTable kind bytes target) (content_read kind bytes target) target target' answer' h (read_meets kind bytes target target')

library-write : (kind : ℕ) (content out out' answer' : List ℕ) → LibraryBuffer (write_left kind content out) out' answer'
    → (r : Moved) × (answer' ≡ three r) × WriteContentTable kind content out r × Kept r.number out out'
unfolding write_left
library-write kind content out out' answer' h =
    library-moved (WriteContentTable kind content out) (content_written kind content out) out out' answer' h (write_meets kind content out out')

library-read-picture : (kind : ℕ) (bytes memory registers memory' registers' answer' : List ℕ)
    → LibraryReadPicture kind bytes memory registers memory' registers' answer'
    → (r : Moved) × (answer' ≡ three r) × ReadPictureTable kind bytes memory registers r
    × Kept r.number memory memory' × Kept r.number registers registers'
unfolding read_picture_left
library-read-picture kind bytes memory registers memory' registers' answer' h =
    let r = (picture_read kind bytes memory registers).answer in
    let m = read-picture-meets kind bytes memory registers memory' registers' r (λ t. record { answer = r; memory = (h t).memory; registers = (h t).registers }) in
    (r, ap (λ (l : TargetsLeft). l.answer) h, m.0, m.1, m.2)

library-write-picture : (kind : ℕ) (memory registers out out' answer' : List ℕ) → LibraryBuffer (write_picture_left kind memory registers out) out' answer'
    → (r : Moved) × (answer' ≡ three r) × WritePictureTable kind memory registers out r
    × Kept r.number out out'
unfolding write_picture_left
library-write-picture kind memory registers out out' answer' h =
    library-moved (WritePictureTable kind memory registers out) (picture_written kind memory registers out) out out' answer' h (write-picture-meets kind memory registers out out')

library-to-new : (bytes out out' answer' : List ℕ) → LibraryBuffer (to_new_left bytes out) out' answer'
    → (r : Moved) × (answer' ≡ three r) × ToNewTable bytes out r × Kept r.number out out'
unfolding to_new_left
library-to-new bytes out out' answer' h = library-moved (ToNewTable bytes out) (to_new bytes out) out out' answer' h (to-new-meets bytes out out')

library-to-old : (bytes out out' answer' : List ℕ) → LibraryBuffer (to_old_left bytes out) out' answer'
    → (r : Moved) × (answer' ≡ three r) × ToOldTable bytes out r × Kept r.number out out'
unfolding to_old_left
library-to-old bytes out out' answer' h = library-moved (ToOldTable bytes out) (to_old bytes out) out out' answer' h (to-old-meets bytes out out')

pub demand-one : DemandOne
demand-one =
    record {
      listed = listed-none;
      first_wrong = numbers.in_order;
      pass = λ lines flip code r e. subst (PassTable lines flip code) (sym e) (pass-table lines flip code);
      run = run-meets;
      step = step-meets;
      step_is_run = λ l u hm hx hy h s. ap left_bytes s ∙ sym (step-is-run l hm hx hy h);
      step_not_eight = λ l u m n s. s ∙ step-not-eight l m n;
      sum_list = sum_meets;
      difference_list = difference-meets;
      equal_list = search-meets false;
      less_list = search-meets true;
      greatest_list = greatest-meets;
      closing_list = closing-meets;
      spreading_list = spreading-meets;
      isolated = isolated-meets;
      reach = reach-meets;
      show = show-meets;
      make = make_meets;
      assemble = assemble-meets;
      read_content = read_meets;
      write_content = write_meets;
      read_picture = read-picture-meets;
      write_picture = write-picture-meets;
      to_new = to-new-meets;
      to_old = to-old-meets;
      library_pass = library-pass;
      library_run = library-run;
      library_step = library-step;
      library_sum_list = library-sum;
      library_difference_list = library-difference;
      library_equal_list = unfold equal_left in library-search false;
      library_less_list = unfold less_left in library-search true;
      library_greatest_list = library-greatest;
      library_closing_list = library-closing;
      library_spreading_list = library-spreading;
      library_isolated = library-isolated;
      library_reach = library-reach;
      library_show = library-show;
      library_make = library-make;
      library_read_content = library-read;
      library_write_content = library-write;
      library_read_picture = library-read-picture;
      library_write_picture = library-write-picture;
      library_to_new = library-to-new;
      library_to_old = library-to-old;
      library_version = λ r h. h;
    }
