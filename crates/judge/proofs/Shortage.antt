-- What the searches through a list test and find, from what they have counted. Assumes nothing.
use mathlib.Core.Path.{◌≡◌, refl, sym, ap, ap₂, ◌∙◌}
use mathlib.Core.Bool.{Bool, true, false, cond, not, ◌&&◌, true≢false}
use mathlib.Core.List.{List}
use Prim.Native.Nat.{ℕ, zero, suc, ◌+◌, ◌*◌, ◌/◌, ◌<◌, ◌≤◌}
use native.Mathlib.Decide.{ℕ_discrete, dec_lt}
use native.Mathlib.Omega.{arith}
use lib.Dec.{eqb, ltb}
use mir.Val.{bool_byte}
use lib.ListN.{length}
use borrow.Author.Tests.{ltb-true, ltb-false}
use Rattle.std.specs.Prelude.{Result}
use Rattle.std.specs.Result.{is_err, IsErr}
use Rattle.bits.specs.declared.refusals.Refusal.{Refusal}
use Rattle.bits.specs.Refusals.{number_of_refusal}
use Rattle.bits.proofs.RefusalLaws.{number-never-zero}
use Rattle.bits.specs.Search.{first, count}
use Rattle.bits.proofs.Search.{NoneBelow, found, found_none, found_at, none_found, found-le, count-more}
use Rattle.registers.specs.declared.Modes.{Modes}
use Rattle.judge.specs.declared.Instruction.{Instruction}
use Rattle.judge.specs.declared.Lengths.{Lengths}
use Rattle.judge.specs.declared.Fault.{Fault as Wrong}
use Rattle.judge.specs.declared.Tally.{Tally}
use Rattle.judge.specs.Answers.{Fault, Answer, fault_given}
use Rattle.judge.specs.Instructions.{instruction_at, takes, gives}
use Rattle.judge.specs.Modes.{modes_after}
use Rattle.judge.specs.Judge.{lacks, fault_of, fault_at, faulty, refusal, or_else, judged_alone, judged_list, done}
use Rattle.judge.specs.Steps.{tally_of}
use Rattle.judge.specs.Numbers.{Served}
use Rattle.judge.proofs.Numbers.{has-it, it-has, bad_at, alone-bad, alone-formed, list-bad}
use Rattle.judge.proofs.Accepted.{count_fits}
use Rattle.judge.proofs.Given.{fault-numberless}

-- a test as the code counts it
pub counts : (b : Bool) → bool_byte b ≡ cond b 1 0
counts true = refl
counts false = refl

pub counts-le : (b : Bool) → bool_byte b ≤ 1
counts-le true = omega arith
counts-le false = omega arith

-- a number below n at which the test holds is counted beyond those before it
count_at : (f : ℕ → Bool) (n j : ℕ) → j < n → f j ≡ true → suc (count f j) ≤ count f n
unfolding count
count_at f zero j l t = absurd (omega arith)
count_at f (suc n) j l t = go (f n) refl (ℕ_discrete j n) (λ h. count_at f n j h t)
  where
    go : (b : Bool) → f n ≡ b → Dec (j ≡ n) → (j < n → suc (count f j) ≤ count f n) → suc (count f j) ≤ count f n + cond b 1 0
    go true e (yes q) ih = omega (arith, ap (count f) q)
    go false e (yes q) ih = absurd (true≢false (sym t ∙ ap f q ∙ e))
    go b e (no q) ih = omega (arith, ih (omega arith))

module _ (wants : Instruction → Bool) (list : List ℕ) where
  -- how many of the first k instructions want some
  abbrev before : ℕ → ℕ
  before k = count (λ j. wants (instruction_at list j)) k

  -- the test, as the code makes it
  pub lacks-is : (have k used : ℕ) (w : Bool) → used ≡ before k → w ≡ wants (instruction_at list k) → (w && ltb have (32 * used + 32)) ≡ lacks wants list have k
  lacks-is have k used w e p = ap₂ (λ (x : Bool) (y : ℕ). x && ltb have (32 * y + 32)) p e

  -- one instruction more
  pub counted : (k used v : ℕ) (w : Bool) → used ≡ before k → v ≡ bool_byte w → w ≡ wants (instruction_at list k) → used + v ≡ before (k + 1)
  counted k used v w e p q =
      ap₂ (λ (x y : ℕ). x + y) e (p ∙ counts w ∙ ap (λ (b : Bool). cond b 1 0) q) ∙ sym (count-more (λ j. wants (instruction_at list j)) k)

  -- ---- what the first n want together is there exactly if none of them lacks its own

  pub enough : (have n : ℕ) → 32 * before n ≤ have → n ≤ first (lacks wants list have) 0 n
  enough have n h =
      omega (
        arith,
        found_none (lacks wants list have) n
            (λ j l. it-has wants list have j (λ w. omega (arith, count_at (λ i. wants (instruction_at list i)) n j l w))),
      )

  pub lacking : (have n : ℕ) → have < 32 * before n → first (lacks wants list have) 0 n < n
  lacking have n h = go (ltb (first (lacks wants list have) 0 n) n) refl
    where
      go : (b : Bool) → ltb (first (lacks wants list have) 0 n) n ≡ b → first (lacks wants list have) 0 n < n
      go true e = ltb-true (first (lacks wants list have) 0 n) n e
      go false e =
          let l = ltb-false (first (lacks wants list have) 0 n) n e in
          let served : Served wants list have n = λ j m. has-it wants list have j (none_found (lacks wants list have) n j (omega arith)) in
          absurd (omega (arith, count_fits wants list have n served n (omega arith)))

-- ---- the walk that counts

module _ (modes : Modes) (list : List ℕ) where
  abbrev size : ℕ
  size = length list / 8

  -- the first instruction that has a number, or how many there are
  abbrev stop : ℕ
  stop = first (faulty modes list) 0 (length list / 8)

  pub tally-is : (k taken given : ℕ) (after : Modes) → k ≡ stop → taken ≡ before takes list k → given ≡ before gives list k → after ≡ modes_after list modes k
      → ◌≡◌ {A = Tally} (record { place = k; taken = taken; given = given; modes = after }) (tally_of modes list)
  unfolding tally_of
  tally-is k taken given after e p q r =
      λ j. record { place = e j; taken = (p ∙ ap (before takes list) e) j; given = (q ∙ ap (before gives list) e) j; modes = (r ∙ ap (modes_after list modes) e) j }

  pub tally-place : (t : Tally) → t ≡ tally_of modes list → t.place ≡ stop
  unfolding tally_of
  tally-place t e = ap (λ (x : Tally). x.place) e

  -- what is wrong at the place, by the mode registers that the walk has there
  pub tally-fault : (t : Tally) → t ≡ tally_of modes list → (i : Instruction) → i ≡ instruction_at list t.place
      → fault_of t.modes i ≡ fault_at modes list stop
  unfolding tally_of
  tally-fault t e i d = ap₂ fault_of (ap (λ (x : Tally). x.modes) e) (d ∙ ap (instruction_at list) (tally-place t e))

  -- where no instruction has a number the counts are the whole list's
  pub tally-whole : (t : Tally) → t ≡ tally_of modes list → length list / 8 ≤ t.place
      → (length list / 8 ≤ stop) × (t.taken ≡ (done list).taken) × (t.given ≡ (done list).given)
  unfolding tally_of
  tally-whole t e h =
      let p = tally-place t e in
      let n : stop ≡ length list / 8 = omega (arith, found-le (faulty modes list) (length list / 8)) in
      (omega arith, ap (λ (x : Tally). x.taken) e ∙ ap (before takes list) n, ap (λ (x : Tally). x.given) e ∙ ap (before gives list) n)

  -- what it gives back
  abbrev walk : Answer
  walk = or_else (judged_alone modes list) (done list)

  -- it stops at an instruction that has a number, where none before it has
  pub walk-stops : (k : ℕ) → k < size → NoneBelow (faulty modes list) k → (r : Refusal) (b : ℕ) → record { number = number_of_refusal r; byte = b } ≡ fault_at modes list k
      → refusal (number_of_refusal r) k b ≡ walk
  walk-stops k h none r b e =
      let t : faulty modes list k ≡ true = ap (λ (f : Fault). not (eqb f.number 0)) (sym e) ∙ ap not (number-never-zero r) in
      let p = found (faulty modes list) size k h none t in
      ap₂ (λ (f : Fault) (j : ℕ). refusal f.number j f.byte) (e ∙ ap (fault_at modes list) p) p
      ∙ sym (alone-bad (record { memory = 0; registers = 0; items = 0; out = 0 }) modes list (done list) (omega (arith, p)))

  -- or comes to the end, with the counts
  pub walk-ends : NoneBelow (faulty modes list) size → (taken given : ℕ) → taken ≡ (done list).taken → given ≡ (done list).given
      → record { number = 0; place = 0; byte = 0; steps = size; taken = taken; given = given } ≡ walk
  walk-ends none taken given p q =
      ap₂ {A = ℕ} {B = ℕ} {C = Answer} (λ (x y : ℕ). record { number = 0; place = 0; byte = 0; steps = size; taken = x; given = y }) p q
      ∙ sym (alone-formed (record { memory = 0; registers = 0; items = 0; out = 0 }) modes list (omega (arith, found_none (faulty modes list) size none)) (done list))

  -- ---- and what the count makes of it

  -- at its place is a fault
  pub tally-faulty : (t : Tally) → t ≡ tally_of modes list → t.place < size → {A : Type 0} (r : Result A Wrong) → fault_given r ≡ fault_of t.modes (instruction_at list t.place) → IsErr r
  tally-faulty t e h r f = go (is_err r) refl
    where
      go : (b : Bool) → is_err r ≡ b → is_err r ≡ true
      go true q = q
      go false q =
          let none : (fault_at modes list stop).number ≡ 0 = ap (λ (x : Fault). x.number) (sym (f ∙ tally-fault t e _ refl)) ∙ fault-numberless r q in
          absurd (true≢false (sym (found_at (faulty modes list) size (omega (arith, tally-place t e))) ∙ ap (λ (n : ℕ). not (eqb n 0)) none))

  pub tally-stops : (t : Tally) → t ≡ tally_of modes list → t.place < size → (r : Refusal) (b : ℕ) → record { number = number_of_refusal r; byte = b } ≡ fault_of t.modes (instruction_at list t.place)
      → refusal (number_of_refusal r) t.place b ≡ walk
  tally-stops t e h r b f =
      let p = tally-place t e in
      walk-stops t.place h (λ j l. none_found (faulty modes list) size j (omega (arith, p))) r b (f ∙ tally-fault t e _ refl ∙ sym (ap (fault_at modes list) p))

  pub tally-ends : (t : Tally) → t ≡ tally_of modes list → size ≤ t.place
      → record { number = 0; place = 0; byte = 0; steps = size; taken = t.taken; given = t.given } ≡ walk
  tally-ends t e h =
      let w = tally-whole t e h in
      walk-ends (λ j l. none_found (faulty modes list) size j (omega (arith, w.0))) t.taken t.given w.1 w.2

  -- a refusal of the walk is one of the list
  pub walk-refused : (l : Lengths) (a : Answer) → eqb a.number 0 ≡ false → a ≡ walk → a ≡ judged_list l modes list
  walk-refused l a u e = go (dec_lt (bad_at l modes list) size)
    where
      go : Dec (bad_at l modes list < size) → a ≡ judged_list l modes list
      go (yes h) = e ∙ alone-bad l modes list (done list) h ∙ sym (list-bad l modes list h)
      go (no n) = absurd (true≢false (sym (ap (λ (x : Answer). eqb x.number 0) (e ∙ alone-formed l modes list (omega arith) (done list))) ∙ u))

  -- where it is done every instruction stands, and its counts are the list's
  pub walk-done : (l : Lengths) (a : Answer) → a.number ≡ 0 → a ≡ walk → (size ≤ bad_at l modes list) × (a ≡ done list)
  walk-done l a z e = go (dec_lt (bad_at l modes list) size)
    where
      go : Dec (bad_at l modes list < size) → (size ≤ bad_at l modes list) × (a ≡ done list)
      go (yes h) = absurd (true≢false (sym (found_at (faulty modes list) size h) ∙ ap (λ (x : Answer). not (eqb x.number 0)) (sym (e ∙ alone-bad l modes list (done list) h)) ∙ ap (λ (n : ℕ). not (eqb n 0)) z))
      go (no n) = let f : size ≤ bad_at l modes list = omega arith in (f, e ∙ alone-formed l modes list f (done list))
