-- Lists as text, and what a list reaches, of specs/DemandText.antt: the laws of `text`, of `assembly` and of `reach`, by name. Assumes nothing.
use mathlib.Core.Path.{◌≡◌, refl, ap, ap₂, sym, ◌∙◌}
use mathlib.Core.Bool.{Bool, true, false, cond, ◌&&◌, ◌||◌}
use mathlib.Core.List.{List, [], ◌++◌}
use Prim.Native.Nat.{ℕ, ◌<◌, ◌≤◌}
use native.Mathlib.Omega.{arith}
use lib.Dec.{eqb}
use lib.ListN.{length, get_or, take, drop}
use lib.Seq.{take-length, take-append-le}
use borrow.Author.Tests.{eq-eqb, le-ltb}
use Rattle.bits.specs.Search.{index_of}
use Rattle.bits.proofs.Rows.{and_none}
use Rattle.registers.specs.declared.Modes.{Modes}
use Rattle.judge.specs.declared.Instruction.{Instruction}
use Rattle.judge.specs.Kinds.{logic, set_m, deliver, in_memory}
use Rattle.judge.specs.Instructions.{stores, touches}
use Rattle.judge.specs.Modes.{mode_of, unset}
use Rattle.judge.specs.Judge.{unfit, unset_mode, instruction_rows, fault_of}
use Rattle.judge.proofs.ByteRowLaws.{condition-off}
use Rattle.judge.proofs.Numbers.{unfaulted}
use Rattle.reach.specs.Reach.{reach_of, reach_by}
use Rattle.reach.proofs.Reaching.{reaching}
use Rattle.spelling.specs.Tables.{unknown_word}
use Rattle.spelling.specs.Words.{decimal, digit, number, extended, extended_by}
use Rattle.lines.specs.Said.{reach_word}
use Rattle.builders.specs.Building.{Built}
use Rattle.builders.specs.Building.{BuiltTwo}
use Rattle.builders.specs.Building.{BuiltLeft, fronted, built_with, BuiltTwoLeft, built_two}
use Rattle.builders.specs.Lists.{encoded}
use Rattle.builders.specs.Sums.{sum_list, difference_list, fields_fault, sum_built, difference_built}
use Rattle.builders.specs.Searches.{greatest_list, greatest_fault, search_built, greatest_built}
use Rattle.builders.proofs.ListLaws.{sum-length}
use Rattle.builders.proofs.OneLaws.{one_number}
use Rattle.builders.proofs.TwoLaws.{two-number}
use Rattle.text.specs.Show.{Shown}
use Rattle.text.specs.Make.{Made}
use Rattle.text.specs.Show.{shown_text, shown_as}
use Rattle.text.specs.Make.{answer, made_answer, made_out}
use Rattle.text.proofs.RoundTrip.{make-after-show}
use Rattle.text.proofs.OneForm.{shown-again, has-form}
use Rattle.text.proofs.InWords.{words-stand}
use Rattle.assembly.specs.Act.{Act}
use Rattle.assembly.specs.Assembly.{Assembled}
use Rattle.assembly.specs.Acts.{list_of, items_of, limited, ordered}
use Rattle.assembly.specs.Words.{blanks, letters, word_from, same_characters}
use Rattle.assembly.specs.Fields.{span_of}
use Rattle.assembly.specs.Statements.{name_fault, start_fault, width_fault, rest_fault, known_fault, second_fault, only_fault, target_fault, refused_or, small_of, field_line, sum_line, line_by, line_act}
use Rattle.assembly.specs.Assembly.{onto_first, lines_of, State, applied, folded, outcome_of, made_list, made_items, answer as assembled, assembled_answer, assembled_list, assembled_items}
use Rattle.assembly.proofs.AnswerLaws.{done}
use Rattle.assembly.proofs.Extends.{extends}
use Rattle.assembly.proofs.RoundTrip.{assemble-show}
use Rattle.assembly.proofs.Limits.{reach-kept}
use Rattle.assembly.proofs.Items.{items-in-step}
use Rattle.promises.specs.Clauses.{Show, Make, Assemble}
use Rattle.promises.specs.DemandText.{OfBuilders, heights, DemandText}

-- the first of what stands at a front
take-front : (bytes buffer : List ℕ) → take (length bytes) (fronted bytes buffer) ≡ bytes
take-front bytes buffer = take-append-le (length bytes) bytes (drop (length bytes) buffer) (omega arith) ∙ take-length bytes

-- as many characters as are counted are the text
counted : (list text text' : List ℕ) (s : Shown) → s ≡ shown_as 0 (length (shown_text list)) → text' ≡ fronted (shown_text list) text → take s.count text' ≡ shown_text list
counted list text text' s es et = ap₂ (λ (x : Shown) (t : List ℕ). take x.count t) es et ∙ take-front (shown_text list) text

back : (list text text' out out' : List ℕ) (s : Shown) (m : Made)
    → unfit 8 (length list) ≡ false → ((k : ℕ) → get_or list k 0 < 256) → length (shown_text list) ≤ length text → length list ≤ length out
    → Show list text text' s → Make (take s.count text') out out' m
    → (s ≡ shown_as 0 (length (shown_text list))) × (m ≡ answer 0 0 0 (length list)) × (out' ≡ list ++ drop (length list) out)
back list text text' out out' s m fits bytes room room' (es, et) (em, eo) =
    let p = make-after-show list text out fits bytes room room' in
    let said = es ∙ p.0 in
    let shown = counted list text text' s said (et ∙ p.1) in
    (said, em ∙ ap (λ (t : List ℕ). made_answer t (length out)) shown ∙ p.2, eo ∙ ap (λ (t : List ℕ). made_out t out) shown ∙ p.3)

assembled-back : (list text text' out items out' items' : List ℕ) (s : Shown) (a : Assembled)
    → unfit 8 (length list) ≡ false → ((k : ℕ) → get_or list k 0 < 256) → length (shown_text list) ≤ length text → length list ≤ length out
    → Show list text text' s → Assemble (take s.count text') out items out' items' a
    → (s ≡ shown_as 0 (length (shown_text list))) × (a ≡ assembled 0 0 0 (length list) 0) × (out' ≡ list ++ drop (length list) out) × (items' ≡ items)
assembled-back list text text' out items out' items' s a fits bytes room room' (es, et) (ea, eo, ei) =
    let p = make-after-show list text out fits bytes room room' in
    let q = assemble-show list out items fits bytes room' in
    let said = es ∙ p.0 in
    let shown = counted list text text' s said (et ∙ p.1) in (
      said,
      ea ∙ ap (λ (t : List ℕ). assembled_answer t (length out) (length items)) shown ∙ q.0,
      eo ∙ ap (λ (t : List ℕ). assembled_list t out items) shown ∙ q.1,
      ei ∙ ap (λ (t : List ℕ). assembled_items t out items) shown ∙ q.2,
    )

made-same : (text out items out' list' items' : List ℕ) (r : Made) (a : Assembled)
    → Make text out out' r → r.number ≡ 0 → Assemble text out items list' items' a
    → (a ≡ assembled 0 0 0 r.count 0) × (list' ≡ out') × (items' ≡ items)
made-same text out items out' list' items' r a (er, eo) z (ea, el, ei) =
    let p = extends text out items (sym (ap (λ (x : Made). x.number) er) ∙ z) in
    (ea ∙ p.0 ∙ ap (λ (x : Made). assembled 0 0 0 x.count 0) (sym er), el ∙ p.1 ∙ sym eo, ei ∙ p.2)

behind : (act : Act) (s : State) → ((applied act s).list ≡ s.list ++ list_of act) × ((applied act s).items ≡ s.items ++ items_of act)
unfolding applied
behind act s = (refl, refl)

-- a builder that refuses nothing puts its bytes at the front, and counts them
one-front : (fault : ℕ) (bytes list list' : List ℕ) (r : Built) → ◌≡◌ {A = BuiltLeft} (record { answer = r; list = list' }) (built_with fault bytes list)
    → r.number ≡ 0 → take r.count list' ≡ bytes
one-front fault bytes list list' r h z =
    let none : fault ≡ 0 = sym (ap (λ (x : BuiltLeft). x.answer.number) h ∙ one_number fault bytes list) ∙ z in
    ap (λ (x : BuiltLeft). take x.answer.count x.list) (h ∙ ap (λ (n : ℕ). built_with n bytes list) none) ∙ take-front bytes list

two-front : (fault : ℕ) (bytes item_bytes list items list' items' : List ℕ) (r : BuiltTwo)
    → ◌≡◌ {A = BuiltTwoLeft} (record { answer = r; list = list'; items = items' }) (built_two fault bytes item_bytes list items)
    → r.number ≡ 0 → (take r.list list' ≡ bytes) × (take r.items items' ≡ item_bytes)
unfolding built_two
two-front fault bytes item_bytes list items list' items' r h z =
    let none : fault ≡ 0 = sym (ap (λ (x : BuiltTwoLeft). x.answer.number) h ∙ two-number fault bytes item_bytes list items) ∙ z in
    let done = h ∙ ap (λ (n : ℕ). built_two n bytes item_bytes list items) none in (
      ap (λ (x : BuiltTwoLeft). take x.answer.list x.list) done ∙ take-front bytes list,
      ap (λ (x : BuiltTwoLeft). take x.answer.items x.items) done ∙ take-front item_bytes items,
    )

of-builders : OfBuilders
unfolding sum_built difference_built search_built greatest_built
of-builders =
    record {
      sum = λ a b s n list list' r h. one-front (fields_fault 1 a b s n (length list)) (encoded (sum_list a b s n)) list list' r h;
      difference = λ a b s n list list' r h. one-front (fields_fault 2 a b s n (length list)) (encoded (difference_list a b s n)) list list' r h;
      equal = λ a n v list items list' items' r h. two-front _ _ _ list items list' items' r h;
      less = λ a n v list items list' items' r h. two-front _ _ _ list items list' items' r h;
      greatest = λ a n list list' r h. one-front (greatest_fault a n (length list)) (encoded (greatest_list a n)) list list' r h;
    }

-- a store without a number is by a register that is set
shown-reach : (m : Modes) (i : Instruction) → stores i ≡ true → (fault_of m i).number ≡ 0 → reach_word m i ≡ decimal (reach_by m i)
unfolding unset_mode reach_by
shown-reach m i s good =
    let touching : touches i ≡ true = ap (λ (b : Bool). b || (eqb i.source in_memory && (eqb i.kind logic || eqb i.kind set_m || eqb i.kind deliver))) s in
    let is_set = and_none (touches i) (unset m i) (condition-off (instruction_rows m i) ((unfaulted m i).0 good) 14 2) touching in
    ap (λ (b : Bool). cond b unknown_word (decimal (reach_of (mode_of m i)))) is_set
    ∙ sym (ap₂ (λ (a b : Bool). decimal (cond (a && b) (reach_of (mode_of m i)) 0)) s (eq-eqb (fault_of m i).number 0 good))

-- ---- an example

-- what its lines come to, by computation
heights-made : ((outcome_of heights).number ≡ 0) × (made_list heights ≡ encoded (sum_list 0 32 64 32)) × (made_items heights ≡ [])
unfolding outcome_of folded lines_of onto_first applied line_act ordered limited line_by field_line sum_line refused_or name_fault start_fault width_fault known_fault second_fault only_fault target_fault rest_fault small_of span_of word_from blanks letters same_characters index_of extended_by extended number digit
heights-made = (refl, refl, refl)

heights-assembled : (list items list' items' : List ℕ) (r : Assembled) → 1288 ≤ length list → Assemble heights list items list' items' r
    → (r ≡ assembled 0 0 0 1288 0) × (list' ≡ encoded (sum_list 0 32 64 32) ++ drop 1288 list) × (items' ≡ items)
heights-assembled list items list' items' r room (e, l, i) =
    let m = heights-made in
    let size : length (made_list heights) ≡ 1288 = ap length m.1 ∙ sum-length 0 32 64 32 in
    let none : length (made_items heights) ≡ 0 = ap length m.2 in
    let d =
    done heights list items (omega arith) m.0 (omega (arith, size)) (omega (arith, none))
    (ap₂ ◌||◌ (le-ltb (length list) (length (made_list heights)) (omega (arith, size))) (le-ltb (length items) (length (made_items heights)) (omega (arith, none)))) in (
      e ∙ d.0 ∙ ap₂ (λ (x y : ℕ). assembled 0 0 0 x y) size none,
      l ∙ d.1 ∙ ap₂ (λ (x : List ℕ) (n : ℕ). x ++ drop n list) m.1 size,
      i ∙ d.2 ∙ ap (λ (x : List ℕ). x ++ drop (length x) items) m.2,
    )

pub demand-text : DemandText
demand-text =
    record {
      back = back;
      assembled_back = assembled-back;
      extends = made-same;
      one_form = record { again = shown-again; has = has-form };
      behind = behind;
      of_builders = of-builders;
      limit = reach-kept;
      items = items-in-step;
      example = heights-assembled;
      words = words-stand;
      reaching = reaching;
      shown_reach = shown-reach;
    }
