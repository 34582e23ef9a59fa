-- Runs of the lists that mark the words equal to a number, and those less than it: their lists are quiet logic, and what a run leaves. Assumes nothing.
use mathlib.Core.Path.{◌≡◌, refl, sym, ap, subst, subst₂, ◌∙◌}
use mathlib.Core.Bool.{Bool, true, false, cond}
use mathlib.Core.List.{List, [], ◌∷◌, ◌++◌}
use mathlib.Core.Logic.{◌↔◌}
use Prim.Native.Nat.{ℕ, ◌+◌, ◌*◌, ◌/◌, ◌^◌, ◌<◌, ◌≤◌}
use native.Mathlib.Nat.{zero-add}
use native.Mathlib.Omega.{arith}
use lib.Dec.{ltb}
use lib.ListN.{length, length-append}
use Rattle.bits.specs.Bits.{Bytes, digit, bit_of}
use Rattle.bits.proofs.Binary.{digit-bit}
use Rattle.bits.proofs.Items.{bit_of-bit, bit_of-pack}
use Rattle.bits.proofs.ByteLaws.{bytes-ext}
use Rattle.registers.specs.declared.Modes.{Modes}
use Rattle.registers.specs.Modes.{modes_of, wrong_modes}
use Rattle.registers.specs.Rows.{registers_of}
use Rattle.judge.specs.declared.Instruction.{Instruction}
use Rattle.judge.specs.Instructions.{takes}
use Rattle.judge.specs.Judge.{unfit}
use Rattle.judge.proofs.FormLaws.{formed-by}
use Rattle.module.specs.Act.{State, acted}
use Rattle.module.specs.Run.{Lent, begun}
use Rattle.module.proofs.Good.{Good}
use Rattle.builders.specs.Lists.{logic_from, logic_at, take_y, encoded, Each, none, more}
use Rattle.builders.specs.Field.{Field}
use Rattle.builders.specs.Searches.{started, decided, move_x, search_round, search_rounds, search_list, equal_list, less_list, number_items}
use Rattle.builders.specs.Searches.{search_length, items_length, search_fault, search_built, equal_built, less_built}
use Rattle.builders.specs.Word.{Word, folded, ran_word, taken_by}
use Rattle.builders.proofs.Folds.{each_append, each-rounds, each_map}
use Rattle.builders.proofs.Takes.{taken-append, taken-rounds}
use Rattle.builders.proofs.ListLaws.{length-encoded, search-length, number-length, items_at}
use Rattle.builders.proofs.SearchRefusals.{search-no-fault}
use Rattle.builders.proofs.Marks.{mark-iff}
use Rattle.builders.proofs.Comparing.{Compares, Found, search-word}
use Rattle.fields.specs.Line.{At, Local, word_of, outside_at}
use Rattle.fields.specs.Value.{value, run_of}
use Rattle.fields.specs.Marks.{lent_with, run_of_two, equal_run, less_run, Marks}
use Rattle.fields.proofs.LineLaws.{ran-at, at_self}
use Rattle.fields.proofs.Runs.{Quiet, Plain}
use Rattle.fields.proofs.Kept.{end-good, marks-logic}
use Rattle.fields.proofs.Plain.{plain-from, plain_at}
use Rattle.fields.proofs.Built.{two-written, two_run}

-- ---- the lists

-- logic that keeps to its line, gives nothing and is not refused
record Fit (i : Instruction) : Type 0 where
  logic : i.kind ≡ 0
  local : (m : Modes) → Local m i
  quiet : Quiet i

fit-plain : (i : Instruction) → i.kind ≡ 0 → Plain i → Fit i
fit-plain i e p = record { logic = e; local = p.local; quiet = p.quiet }

fit-from : (t : ℕ) → ltb 4 (t / 16) ≡ false → Fit (logic_from 2 t)
fit-from t choice = fit-plain (logic_from 2 t) refl (plain-from t choice)

fit_at : (t : ℕ) → ltb 4 (t / 16) ≡ false → (g : ℕ) → g < 256 → Fit (logic_at g t)
fit_at t choice g h = fit-plain (logic_at g t) refl (plain_at t choice g h)

fit-take : Fit take_y
fit-take =
    record {
      logic = refl;
      local = λ m. record { mode0 = refl; flip0 = refl; code0 = refl; inside = omega arith };
      quiet = record { gives_none = refl; formed = λ m. formed-by m take_y refl refl refl; keeps-modes = λ m. refl };
    }

fit-started : (less : Bool) → Fit (started less)
fit-started true = fit-from 0 refl
fit-started false = fit-from 15 refl

fit-decided : (less : Bool) (g : ℕ) → g < 256 → Fit (decided less g)
fit-decided true g h = fit_at 53 refl g h
fit-decided false g h = fit-from 48 refl

search-fit : (less : Bool) (a n : ℕ) → a + n ≤ 256 → Each Fit (search_list less a n)
search-fit less a n h =
    more (fit-started less)
    (each_append (each-rounds (λ k. search_round less (a + k)) n
    (λ k l. more fit-take (more (fit_at 22 refl (a + k) (omega arith)) (more (fit-decided less (a + k) (omega arith)) none))))
    (more (fit-from 26 refl) none))

-- each round takes one item
round-taken : (less : Bool) (g : ℕ) → taken_by (search_round less g) ≡ 1
unfolding taken_by
round-taken true g = refl
round-taken false g = refl

started-taken : (less : Bool) → takes (started less) ≡ false
started-taken true = refl
started-taken false = refl

search-taken : (less : Bool) (a n : ℕ) → taken_by (search_list less a n) ≡ n
unfolding taken_by
search-taken less a n =
    ap (λ (t : Bool). cond t 1 0 + taken_by (search_rounds less a n ++ (move_x ∷ []))) (started-taken less)
    ∙ omega (arith, taken-append (search_rounds less a n) (move_x ∷ []), taken-rounds (λ k. search_round less (a + k)) 1 n (λ k. round-taken less (a + k)))

-- ---- the run

module _ (less : Bool) (a n number : ℕ) (field : Field a n) (small : number < 2 ^ n) (list items : List ℕ)
    (room : search_length n ≤ length list) (room_items : items_length n ≤ length items) where
  sound : search_fault a n number (length list) (length items) ≡ 0
  sound = search-no-fault a n number (length list) (length items) field small room room_items

  search-written : (search_built less a n number list items).answer ≡ record { number = 0; list = search_length n; items = items_length n }
  unfolding search_built
  search-written =
      two-written (encoded (search_list less a n)) (number_items number n) list items (search_fault a n number (length list) (length items))
      (search_length n) (items_length n) sound (search-length less a n) (number-length number n)

  module _ (lent : Lent (List ℕ)) (memory : Bytes lent.memory 8192) (registers : Bytes lent.registers 100)
      (stands : wrong_modes (modes_of lent.registers) ≡ false) (supplied : unfit 32 (items_length n + length lent.items) ≡ false) where
    abbrev begin : State
    begin = begun lent (registers_of lent.registers)

    abbrev given : List ℕ
    given = number_items number n ++ lent.items

    abbrev end : State
    end = folded (λ i. acted i given) (search_list less a n) begin

    abbrev word_end : ℕ → Word
    word_end w = ran_word (search_list less a n) (outside_at w given) (word_of w begin)

    fit : Each Fit (search_list less a n)
    fit = search-fit less a n field.fits

    -- the item has the number's bit on every line
    item-at : (w j : ℕ) → w < 256 → j < n → outside_at w given (0 + j) ≡ digit number j
    item-at w j h l =
        ap (outside_at w given) (zero-add j)
        ∙ ap (λ (x : List ℕ). bit_of x w) (items_at (λ k p. digit number k) n j lent.items l)
        ∙ bit_of-pack (λ p. digit number j) (λ p. digit-bit number j) 32 w h

    line : (w : ℕ) → w < 256 → At w end (word_end w)
    line w h = ran-at w h (search_list less a n) given begin (word_of w begin) (each_map (λ i f. f.local) fit) (at_self w begin)

    found : (w : ℕ) → w < 256 → Found less a n number (word_of w begin) (word_end w)
    found w h =
        search-word less a n number (outside_at w given) (word_of w begin) (λ i. bit_of-bit lent.memory _) (λ j. item-at w j h) small
        (bit_of-bit begin.regs.x w) (bit_of-bit begin.regs.y w)

    same : end.regs.x ≡ end.regs.y
    same =
        let good : Good end = end-good (search_list less a n) lent memory registers given in
        bytes-ext end.regs.x end.regs.y 32 good.x-ok good.y-ok (λ w h. (line w h).bit_x ∙ (found w h).same_x ∙ sym (line w h).bit_y)

    steps : length (search_list less a n) ≡ 2 + 3 * n
    steps = omega (arith, length-encoded (search_list less a n), search-length less a n)

    lengths : length given ≡ items_length n + length lent.items
    lengths = length-append (number_items number n) lent.items ∙ ap (λ (k : ℕ). k + length lent.items) (number-length number n)

    abbrev Compared : ℕ → Type 0
    Compared w = Compares less (value lent.memory w a n) number

    ran : Marks (length (search_list less a n)) (taken_by (search_list less a n)) Compared (λ y. y) lent
        (run_of (encoded (search_list less a n)) (lent_with given lent))
    ran =
        marks-logic (search_list less a n) lent memory registers given stands
        (each_map (λ i f. f.quiet) fit) (each_map (λ i f. f.logic) fit) (omega (arith, steps, field.width))
        (ap (unfit 32) lengths ∙ supplied) (omega (arith, lengths, search-taken less a n)) Compared (λ y. y)
        (λ w h. subst (λ (y : ℕ). (y ≡ 1) ↔ Compared w) (sym (line w h).bit_y) (mark-iff (found w h).mark))
        same

    search-marks : Marks (2 + 3 * n) n Compared (λ y. y) lent (run_of_two (search_built less a n number list items) lent)
    unfolding search_built
    search-marks =
        subst (Marks (2 + 3 * n) n Compared (λ y. y) lent)
        (sym (two_run (encoded (search_list less a n)) (number_items number n) list items (search_fault a n number (length list) (length items)) sound lent))
        (subst₂ (λ (s t : ℕ). Marks s t Compared (λ y. y) lent (run_of (encoded (search_list less a n)) (lent_with given lent)))
        steps (search-taken less a n) ran)

-- ---- equal, and less

module _ (a n : ℕ) (field : Field a n) where
  pub equal-logic : Each (λ i. i.kind ≡ 0) (equal_list a n)
  equal-logic = each_map (λ i f. f.logic) (search-fit false a n field.fits)

  pub less-logic : Each (λ i. i.kind ≡ 0) (less_list a n)
  less-logic = each_map (λ i f. f.logic) (search-fit true a n field.fits)

  module _ (number : ℕ) (small : number < 2 ^ n) (list items : List ℕ) (room : search_length n ≤ length list) (room_items : items_length n ≤ length items) where
    pub equal-written : (equal_built a n number list items).answer ≡ record { number = 0; list = search_length n; items = items_length n }
    equal-written = search-written false a n number field small list items room room_items

    pub less-written : (less_built a n number list items).answer ≡ record { number = 0; list = search_length n; items = items_length n }
    less-written = search-written true a n number field small list items room room_items

    module _ (lent : Lent (List ℕ)) (memory : Bytes lent.memory 8192) (registers : Bytes lent.registers 100)
        (stands : wrong_modes (modes_of lent.registers) ≡ false) (supplied : unfit 32 (items_length n + length lent.items) ≡ false) where
      pub equal-marks : Marks (2 + 3 * n) n (λ w. value lent.memory w a n ≡ number) (λ y. y) lent (equal_run a n number list items lent)
      equal-marks = search-marks false a n number field small list items room room_items lent memory registers stands supplied

      pub less-marks : Marks (2 + 3 * n) n (λ w. value lent.memory w a n < number) (λ y. y) lent (less_run a n number list items lent)
      less-marks = search-marks true a n number field small list items room room_items lent memory registers stands supplied
