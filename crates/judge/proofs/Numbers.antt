-- Document 01, Numbers given back: when each number is given, both ways, for any rows that judge what is lent, so for a run and for a step alike. Assumes nothing.
use mathlib.Core.Path.{◌≡◌, refl, sym, ap, subst, ◌∙◌}
use mathlib.Core.Bool.{Bool, true, false, not, ◌&&◌, true≢false}
use mathlib.Core.List.{List}
use mathlib.Core.Logic.{◌↔◌}
use Prim.Native.Nat.{ℕ, ◌+◌, ◌*◌, ◌/◌, ◌<◌, ◌≤◌}
use native.Mathlib.Decide.{ℕ_discrete}
use native.Mathlib.Omega.{arith}
use lib.Dec.{eqb, ltb}
use lib.ListN.{length}
use borrow.Author.Tests.{eqb-true, eqb-false, eq-eqb, ne_eqb, ltb-true, ltb-false, lt-ltb, le-ltb, not-true, not-false}
use Rattle.bits.specs.Rows.{Row, number_of, NoRow}
use Rattle.bits.proofs.Rows.{numbered, none_number, number-none, first-number, number-first, among, first-among, and_none}
use Rattle.bits.specs.Search.{first, count}
use Rattle.bits.proofs.Search.{NoneBelow, found, found_none, found_at, none_found}
use Rattle.registers.specs.declared.Modes.{Modes}
use Rattle.judge.specs.declared.Instruction.{Instruction}
use Rattle.judge.specs.declared.Lengths.{Lengths}
use Rattle.judge.specs.Answers.{Fault}
use Rattle.judge.specs.Answers.{Answer}
use Rattle.judge.specs.ByteRows.{NoByteRow, FirstByteRow, InOrder}
use Rattle.judge.specs.Instructions.{instruction_at, takes, gives}
use Rattle.judge.specs.Modes.{modes_after}
use Rattle.judge.specs.Judge.{lacks, instruction_rows, fault_of, rows_at, fault_at, faulty, refusal, or_else, judged_alone, done, judged_needs, judged_list, judged_by}
use Rattle.judge.specs.Numbers.{Gives, Formed, Has, Served, Lacks, Refused, by-lent, by-instruction, by-item, by-room, Unrefused}
use Rattle.judge.proofs.ByteRowLaws as laws
use Rattle.judge.proofs.RowLaws.{and_both, both-and}

-- ---- tests and facts

-- the conditions of each row stand in the order of the bytes
pub in_order : (m : Modes) (i : Instruction) → InOrder (instruction_rows m i)
in_order m i = laws.in_order (instruction_rows m i) refl

-- an instruction has no number exactly if no row holds of it
pub unfaulted : (m : Modes) (i : Instruction) → ((fault_of m i).number ≡ 0) ↔ NoByteRow (instruction_rows m i)
unfolding fault_of
unfaulted m i = (laws.fault-none (instruction_rows m i) refl, λ r. ap (λ (f : Fault). f.number) (laws.none-fault (instruction_rows m i) r))

pub unfaulted-is : (m : Modes) (i : Instruction) → (fault_of m i).number ≡ 0 → fault_of m i ≡ record { number = 0; byte = 0 }
unfolding fault_of
unfaulted-is m i z = laws.none-fault (instruction_rows m i) ((unfaulted m i).0 z)

fault-first : (m : Modes) (i : Instruction) → ((fault_of m i).number ≡ 0 → ⊥) → FirstByteRow (instruction_rows m i) (fault_of m i).number (fault_of m i).byte
unfolding fault_of
fault-first m i u = laws.fault-first (instruction_rows m i) u

pub first-fault : (m : Modes) (i : Instruction) (n b : ℕ) → FirstByteRow (instruction_rows m i) n b → fault_of m i ≡ record { number = n; byte = b }
unfolding fault_of
first-fault m i n b f = laws.first-fault (instruction_rows m i) n b f

pub fault-high : (m : Modes) (i : Instruction) → ((fault_of m i).number ≤ 18) × ((fault_of m i).byte ≤ 7)
unfolding fault_of
fault-high m i = laws.fault-high 18 7 (instruction_rows m i) refl

-- the same of instruction j of a list
module _ (modes : Modes) (list : List ℕ) (j : ℕ) where
  fault-none : faulty modes list j ≡ false → NoByteRow (rows_at modes list j)
  fault-none e = (unfaulted (modes_after list modes j) (instruction_at list j)).0 (eqb-true (fault_at modes list j).number 0 (not-false (eqb (fault_at modes list j).number 0) e))

  none-fault : NoByteRow (rows_at modes list j) → faulty modes list j ≡ false
  none-fault r = ap not (eq-eqb (fault_at modes list j).number 0 ((unfaulted (modes_after list modes j) (instruction_at list j)).1 r))

  some-fault : faulty modes list j ≡ true → (fault_at modes list j).number ≡ 0 → ⊥
  some-fault t = eqb-false (fault_at modes list j).number 0 (not-true (eqb (fault_at modes list j).number 0) t)

pub has-it : (wants : Instruction → Bool) (list : List ℕ) (have j : ℕ) → lacks wants list have j ≡ false → Has wants list have j
has-it wants list have j e w =
    ltb-false have (32 * count (λ i. wants (instruction_at list i)) j + 32)
    (and_none (wants (instruction_at list j)) (ltb have (32 * count (λ i. wants (instruction_at list i)) j + 32)) e w)

pub it-has : (wants : Instruction → Bool) (list : List ℕ) (have j : ℕ) → Has wants list have j → lacks wants list have j ≡ false
it-has wants list have j h = go (wants (instruction_at list j)) refl
  where
    go : (b : Bool) → wants (instruction_at list j) ≡ b → (b && ltb have (32 * count (λ i. wants (instruction_at list i)) j + 32)) ≡ false
    go true e = le-ltb have (32 * count (λ i. wants (instruction_at list i)) j + 32) (h e)
    go false e = refl

lacks-it : (wants : Instruction → Bool) (list : List ℕ) (have k : ℕ) → lacks wants list have k ≡ true → Lacks wants list have k
lacks-it wants list have k t =
    let b = and_both (wants (instruction_at list k)) (ltb have (32 * count (λ i. wants (instruction_at list i)) k + 32)) t in
    (b.0, ltb-true have (32 * count (λ i. wants (instruction_at list i)) k + 32) b.1)

it-lacks : (wants : Instruction → Bool) (list : List ℕ) (have k : ℕ) → Lacks wants list have k → lacks wants list have k ≡ true
it-lacks wants list have k l =
    both-and (wants (instruction_at list k)) (ltb have (32 * count (λ i. wants (instruction_at list i)) k + 32)) l.0
    (lt-ltb have (32 * count (λ i. wants (instruction_at list i)) k + 32) l.1)

-- ---- the list's answer, by what the three searches find

-- the refusal of instruction k
abbrev pub refused_at : Modes → List ℕ → ℕ → Answer
refused_at modes list k = let f = fault_at modes list k in refusal f.number k f.byte

module _ (l : Lengths) (modes : Modes) (list : List ℕ) where
  abbrev size : ℕ
  size = length list / 8

  abbrev pub bad_at : ℕ
  bad_at = first (faulty modes list) 0 size

  abbrev pub item_at : ℕ
  item_at = first (lacks takes list l.items) 0 size

  abbrev pub room_at : ℕ
  room_at = first (lacks gives list l.out) 0 size

  -- an instruction has a number, whatever is asked of the list after it
  pub alone-bad : (rest : Answer) → bad_at < size → or_else (judged_alone modes list) rest ≡ refused_at modes list bad_at
  unfolding judged_alone
  alone-bad rest h =
      simp (lt-ltb bad_at size h, ne_eqb (fault_at modes list bad_at).number 0 (some-fault modes list bad_at (found_at (faulty modes list) size h)))

  pub list-bad : bad_at < size → judged_list l modes list ≡ refused_at modes list bad_at
  list-bad h = alone-bad (judged_needs l list) h

  module _ (formed : size ≤ bad_at) where
    -- none has
    pub alone-formed : (rest : Answer) → or_else (judged_alone modes list) rest ≡ rest
    unfolding judged_alone
    alone-formed rest = simp (le-ltb bad_at size formed)

    pub list-item : item_at < size → judged_list l modes list ≡ refusal 12 item_at 0
    unfolding judged_alone judged_needs
    list-item h = simp (le-ltb bad_at size formed, lt-ltb item_at size h)

    module _ (supplied : size ≤ item_at) where
      pub list-room : room_at < size → judged_list l modes list ≡ refusal 13 room_at 0
      unfolding judged_alone judged_needs
      list-room h = simp (le-ltb bad_at size formed, le-ltb item_at size supplied, lt-ltb room_at size h)

      pub list_done : size ≤ room_at → judged_list l modes list ≡ done list
      unfolding judged_alone judged_needs
      list_done h = simp (le-ltb bad_at size formed, le-ltb item_at size supplied, le-ltb room_at size h)

-- ---- the tables

-- a search that finds none has passed all
none-to : (f : ℕ → Bool) (n : ℕ) → n ≤ first f 0 n → NoneBelow f n
none-to f n h j l = none_found f n j (omega arith)

all-below : (f : ℕ → Bool) (n : ℕ) → NoneBelow f n → n ≤ first f 0 n
all-below f n none = omega (arith, found_none f n none)

module _ (rows : List Row) (l : Lengths) (modes : Modes) (list : List ℕ) where
  abbrev answer : Answer
  answer = judged_by rows l modes list

  abbrev many : ℕ
  many = length list / 8

  -- an answer and why it is given
  pub data Outcome : Answer → Type 0 where
    refused : (n k b : ℕ) → (n ≡ 0 → ⊥) → Refused rows l modes list n k b → Outcome (refusal n k b)
    accepted : Unrefused rows l modes list → Outcome (done list)

  lent_none : NoRow rows → answer ≡ judged_list l modes list
  unfolding judged_by
  lent_none r = simp (eq-eqb (number_of rows) 0 (none_number rows r))

  lent-first : (number_of rows ≡ 0 → ⊥) → answer ≡ refusal (number_of rows) 0 0
  unfolding judged_by
  lent-first u = simp (ne_eqb (number_of rows) 0 u)

  -- one whose reason holds is the answer
  pub refused-is : (n k b : ℕ) → (n ≡ 0 → ⊥) → Refused rows l modes list n k b → answer ≡ refusal n k b
  refused-is n k b u (by-lent m f) =
      let e = first-number rows m f in
      lent-first (λ z. u (sym e ∙ z)) ∙ ap (λ (x : ℕ). refusal x 0 0) e
  refused-is n k b u (by-instruction m p c r h o f) =
      let q = first-fault (modes_after list modes p) (instruction_at list p) m c f in
      let t : faulty modes list p ≡ true = ap not (ne_eqb (fault_at modes list p).number 0 (λ z. u (sym (ap (λ (x : Fault). x.number) q) ∙ z))) in
      let e = found (faulty modes list) many p h (λ j l. none-fault modes list j (o j l)) t in
      lent_none r ∙ list-bad l modes list (omega arith) ∙ ap (refused_at modes list) (sym e) ∙ ap (λ (x : Fault). refusal x.number p x.byte) q
  refused-is n k b u (by-item p r f h o t) =
      let e = found (lacks takes list l.items) many p h (λ j m. it-has takes list l.items j (o j m)) (it-lacks takes list l.items p t) in
      lent_none r ∙ list-item l modes list (all-below (faulty modes list) many (λ j m. none-fault modes list j (f j m))) (omega arith) ∙ ap (λ (x : ℕ). refusal 12 x 0) (sym e)
  refused-is n k b u (by-room p r f s h o t) =
      let e = found (lacks gives list l.out) many p h (λ j m. it-has gives list l.out j (o j m)) (it-lacks gives list l.out p t) in
      lent_none r
      ∙ list-room l modes list (all-below (faulty modes list) many (λ j m. none-fault modes list j (f j m)))
      (all-below (lacks takes list l.items) many (λ j m. it-has takes list l.items j (s j m))) (omega arith)
      ∙ ap (λ (x : ℕ). refusal 13 x 0) (sym e)

  pub done-is : Unrefused rows l modes list → answer ≡ done list
  done-is a =
      lent_none a.lent
      ∙ list_done l modes list (all-below (faulty modes list) many (λ j m. none-fault modes list j (a.formed j m)))
      (all-below (lacks takes list l.items) many (λ j m. it-has takes list l.items j (a.items j m)))
      (all-below (lacks gives list l.out) many (λ j m. it-has gives list l.out j (a.room j m)))

  -- every answer has its reason
  module _ (apart : numbered rows ≡ true) where
    room-outcome : NoRow rows → Formed modes list many → Served takes list l.items many → (b : Bool) → ltb (room_at l modes list) many ≡ b → Outcome answer
    room-outcome r f s true t =
        let h = ltb-true (room_at l modes list) many t in
        let why = by-room (room_at l modes list) r f s h (λ j m. has-it gives list l.out j (none_found (lacks gives list l.out) many j m))
        (lacks-it gives list l.out (room_at l modes list) (found_at (lacks gives list l.out) many h)) in
        subst Outcome (sym (refused-is 13 (room_at l modes list) 0 (λ z. omega arith) why)) (refused 13 (room_at l modes list) 0 (λ z. omega arith) why)
    room-outcome r f s false t =
        let n = none-to (lacks gives list l.out) many (ltb-false (room_at l modes list) many t) in
        let why : Unrefused rows l modes list = record { lent = r; formed = f; items = s; room = λ j m. has-it gives list l.out j (n j m) } in
        subst Outcome (sym (done-is why)) (accepted why)

    item-outcome : NoRow rows → Formed modes list many → (b : Bool) → ltb (item_at l modes list) many ≡ b → Outcome answer
    item-outcome r f true t =
        let h = ltb-true (item_at l modes list) many t in
        let why = by-item (item_at l modes list) r f h (λ j m. has-it takes list l.items j (none_found (lacks takes list l.items) many j m))
        (lacks-it takes list l.items (item_at l modes list) (found_at (lacks takes list l.items) many h)) in
        subst Outcome (sym (refused-is 12 (item_at l modes list) 0 (λ z. omega arith) why)) (refused 12 (item_at l modes list) 0 (λ z. omega arith) why)
    item-outcome r f false t =
        let n = none-to (lacks takes list l.items) many (ltb-false (item_at l modes list) many t) in
        room-outcome r f (λ j m. has-it takes list l.items j (n j m)) (ltb (room_at l modes list) many) refl

    instruction-outcome : NoRow rows → (b : Bool) → ltb (bad_at l modes list) many ≡ b → Outcome answer
    instruction-outcome r true t =
        let h = ltb-true (bad_at l modes list) many t in
        let u = some-fault modes list (bad_at l modes list) (found_at (faulty modes list) many h) in
        let bad = bad_at l modes list in
        let f = fault_at modes list bad in
        let why = by-instruction f.number bad f.byte r h (λ j m. fault-none modes list j (none_found (faulty modes list) many j m))
        (fault-first (modes_after list modes bad) (instruction_at list bad) u) in
        subst Outcome (sym (refused-is f.number bad f.byte u why)) (refused f.number bad f.byte u why)
    instruction-outcome r false t =
        let n = none-to (faulty modes list) many (ltb-false (bad_at l modes list) many t) in
        item-outcome r (λ j m. fault-none modes list j (n j m)) (ltb (item_at l modes list) many) refl

    pub outcome : Outcome answer
    outcome = go (ℕ_discrete (number_of rows) 0)
      where
        go : Dec (number_of rows ≡ 0) → Outcome answer
        go (yes z) = instruction-outcome (number-none rows apart z) (ltb (bad_at l modes list) many) refl
        go (no u) =
            let why = by-lent (number_of rows) (number-first rows (number_of rows) u refl) in
            subst Outcome (sym (refused-is (number_of rows) 0 0 u why)) (refused (number_of rows) 0 0 u why)

    -- ---- both ways

    refused-given : (a : Answer) → Outcome a → (n k b : ℕ) → (n ≡ 0 → ⊥) → Gives a n k b → Refused rows l modes list n k b
    refused-given a (refused m j c v why) n k b u (en, ek, eb) =
        subst (λ (x : ℕ). Refused rows l modes list x k b) en (subst (λ (x : ℕ). Refused rows l modes list m x b) ek (subst (Refused rows l modes list m j) eb why))
    refused-given a (accepted why) n k b u (en, ek, eb) = absurd (u (sym en))

    pub refusals : (n k b : ℕ) → (n ≡ 0 → ⊥) → Gives answer n k b ↔ Refused rows l modes list n k b
    refusals n k b u = (
      refused-given answer outcome n k b u,
      λ why. let e = refused-is n k b u why in (ap (λ (a : Answer). a.number) e, ap (λ (a : Answer). a.place) e, ap (λ (a : Answer). a.byte) e),
    )

    done-given : (a : Answer) → Outcome a → a.number ≡ 0 → Unrefused rows l modes list
    done-given a (refused m j c v why) z = absurd (v z)
    done-given a (accepted why) z = why

    pub unrefused : (answer.number ≡ 0) ↔ Unrefused rows l modes list
    unrefused = (done-given answer outcome, λ why. ap (λ (a : Answer). a.number) (done-is why))

    -- "Number 10 is split and no longer given": no table has it
    no-reason : (n k b : ℕ) → Refused rows l modes list n k b → among 10 rows ≡ false → n ≡ 10 → ⊥
    no-reason n k b (by-lent m f) off e = true≢false (sym (first-among rows m f) ∙ ap (λ (x : ℕ). among x rows) e ∙ off)
    no-reason n k b (by-instruction m p c r h o f) off e =
        let table = rows_at modes list p in
        true≢false (sym (laws.first-among-heads table m c f) ∙ ap (λ (x : ℕ). among x (laws.heads table)) e)
    no-reason n k b (by-item p r f h o t) off e = omega arith
    no-reason n k b (by-room p r f s h o t) off e = omega arith

    not-given : (a : Answer) → Outcome a → among 10 rows ≡ false → a.number ≡ 10 → ⊥
    not-given a (refused n k b u why) off e = no-reason n k b why off e
    not-given a (accepted why) off e = omega arith

    pub never-10 : among 10 rows ≡ false → answer.number ≡ 10 → ⊥
    never-10 = not-given answer outcome

    -- "A refusal has the last three 0."
    counts-given : (a : Answer) → Outcome a → (a.number ≡ 0 → ⊥) → a ≡ refusal a.number a.place a.byte
    counts-given a (refused m j c v why) u = refl
    counts-given a (accepted why) u = absurd (u refl)

    pub refusal-counts : (answer.number ≡ 0 → ⊥) → answer ≡ refusal answer.number answer.place answer.byte
    refusal-counts = counts-given answer outcome
