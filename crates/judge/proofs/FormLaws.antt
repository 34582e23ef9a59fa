-- The rows of an instruction as the quick test takes them: together, and by kind. Assumes nothing.
use mathlib.Core.Path.{◌≡◌, refl, sym, ap, ap₂, ◌∙◌}
use mathlib.Core.Bool.{Bool, true, false, cond, not, ◌&&◌, ◌||◌, true≢false}
use mathlib.Core.List.{◌++◌}
use Prim.Native.Nat.{ℕ, zero, suc, ◌/◌, ◌<◌, ◌≤◌}
use native.Mathlib.Omega.{arith}
use lib.Dec.{eqb, ltb, eqb-suc-zero}
use borrow.Author.Tests.{eqb-true, eq-eqb, ne_eqb, lt-ltb, le-ltb}
use Rattle.bits.specs.Rows.{number_of}
use Rattle.network.specs.Shifts.{permitted}
use Rattle.network.specs.Unlisted.{wide_group, not_below, code_rows}
use Rattle.network.proofs.TableRules.{none-permitted, listed-exactly, listed-none}
use Rattle.registers.specs.declared.Modes.{Modes}
use Rattle.judge.specs.declared.Instruction.{Instruction}
use Rattle.judge.specs.Answers.{Fault}
use Rattle.judge.specs.ByteRows.{fault_before, about_byte}
use Rattle.judge.specs.Instructions.{stores}
use Rattle.judge.specs.Judge.{wrong_kind, wrong_source, lacks_tag, wrong_tag, idle_tag, idle_mode, idle_address, unset_mode, barred_flip, barred_shift, wrong_logic, access_rows, move_rows, logic_rows, instruction_rows, fault_of}
use Rattle.judge.specs.Steps.{idle, moded, fits, passes}
use Rattle.judge.proofs.ByteRowLaws.{no_byte_row, fault-test, none-append}

-- ---- the rows together

-- the table's three parts in the order in which the test takes them: the move, byte 7, what it accesses
turned : (a p l : Bool) → (a && (p && (l && true))) ≡ (p && (l && a))
turned true true l = refl
turned true false l = refl
turned false true true = refl
turned false true false = refl
turned false false l = refl

formed-is : (m : Modes) (i : Instruction) → eqb (fault_of m i).number 0 ≡ (passes i && (not (wrong_logic i) && fits m i))
unfolding fault_of fits passes
formed-is m i =
    let access = access_rows m i in
    let move = move_rows i in
    fault-test (instruction_rows m i) refl
    ∙ none-append access (move ++ logic_rows i)
    ∙ ap (λ (b : Bool). no_byte_row access && b) (none-append move (logic_rows i))
    ∙ turned (no_byte_row access) (no_byte_row move) (not (wrong_logic i))
    ∙ sym (ap₂ (λ (p a : Bool). p && (not (wrong_logic i) && a)) (fault-test move refl) (fault-test access refl))

-- what is answered, as the test comes to it
module _ (m : Modes) (i : Instruction) where
  pub pass-refused : passes i ≡ false → false ≡ eqb (fault_of m i).number 0
  pass-refused e = sym (formed-is m i ∙ simp e)

  module _ (through : passes i ≡ true) where
    pub choice-refused : i.kind ≡ 0 → 4 < i.logic / 16 → false ≡ eqb (fault_of m i).number 0
    unfolding wrong_logic
    choice-refused e h = sym (formed-is m i ∙ simp (through, eq-eqb i.kind 0 e, lt-ltb 4 (i.logic / 16) h))

    pub logic-formed : i.kind ≡ 0 → i.logic / 16 ≤ 4 → fits m i ≡ eqb (fault_of m i).number 0
    unfolding wrong_logic
    logic-formed e h = sym (formed-is m i ∙ simp (through, eq-eqb i.kind 0 e, le-ltb 4 (i.logic / 16) h))

    module _ (other : i.kind ≡ 0 → ⊥) where
      pub byte-refused : (i.logic ≡ 0 → ⊥) → false ≡ eqb (fault_of m i).number 0
      unfolding wrong_logic
      byte-refused h = sym (formed-is m i ∙ simp (through, ne_eqb i.kind 0 other, ne_eqb i.logic 0 h))

      pub other-formed : i.logic ≡ 0 → fits m i ≡ eqb (fault_of m i).number 0
      unfolding wrong_logic
      other-formed e = sym (formed-is m i ∙ simp (through, ne_eqb i.kind 0 other, eq-eqb i.logic 0 e))

-- ---- the tests of one byte, of which one holds at a time

-- kind 0, 1 or 4; 2 or 3; 5; 6; over 6
data Kind : Bool → Bool → Bool → Bool → Bool → Type 0 where
  fetch : Kind true false false false false
  store : Kind false true false false false
  resolve : Kind false false true false false
  setting : Kind false false false true false
  beyond : Kind false false false false true

kind-over : (k : ℕ) → 6 < k → Kind (eqb k 0 || eqb k 1 || eqb k 4) (eqb k 2 || eqb k 3) (eqb k 5) (eqb k 6) (ltb 6 k)
kind-over k h =
    simp (none 0 (omega arith), none 1 (omega arith), none 2 (omega arith), none 3 (omega arith), none 4 (omega arith), none 5 (omega arith), none 6 (omega arith), lt-ltb 6 k h)
    beyond
  where
    none : (j : ℕ) → j ≤ 6 → eqb k j ≡ false
    none j l = ne_eqb k j (λ e. omega arith)

kind : (k : ℕ) → Kind (eqb k 0 || eqb k 1 || eqb k 4) (eqb k 2 || eqb k 3) (eqb k 5) (eqb k 6) (ltb 6 k)
kind zero = fetch
kind (suc zero) = fetch
kind (suc (suc zero)) = store
kind (suc (suc (suc zero))) = store
kind (suc (suc (suc (suc zero)))) = fetch
kind (suc (suc (suc (suc (suc zero))))) = resolve
kind (suc (suc (suc (suc (suc (suc zero)))))) = setting
kind (suc (suc (suc (suc (suc (suc (suc k))))))) = kind-over (suc (suc (suc (suc (suc (suc (suc k))))))) (omega arith)

-- source 0; over 4
data Source : Bool → Bool → Type 0 where
  in_memory : Source true false
  elsewhere : (high : Bool) → Source false high

source : (s : ℕ) → Source (eqb s 0) (ltb 4 s)
source zero = in_memory
source (suc s) = rw (eqb-suc-zero s) (elsewhere (ltb 4 (suc s)))

-- tag 0; 1; 2; 3; over 3
data Tag : Bool → Bool → Bool → Bool → Bool → Type 0 where
  absent : Tag true false false false false
  given : Tag false true false false false
  by-A : Tag false false true false false
  by-B : Tag false false false true false
  wrong : Tag false false false false true

tag-over : (t : ℕ) → 3 < t → Tag (eqb t 0) (eqb t 1) (eqb t 2) (eqb t 3) (ltb 3 t)
tag-over t h = simp (none 0 (omega arith), none 1 (omega arith), none 2 (omega arith), none 3 (omega arith), lt-ltb 3 t h) wrong
  where
    none : (j : ℕ) → j ≤ 3 → eqb t j ≡ false
    none j l = ne_eqb t j (λ e. omega arith)

tag : (t : ℕ) → Tag (eqb t 0) (eqb t 1) (eqb t 2) (eqb t 3) (ltb 3 t)
tag zero = absent
tag (suc zero) = given
tag (suc (suc zero)) = by-A
tag (suc (suc (suc zero))) = by-B
tag (suc (suc (suc (suc t)))) = tag-over (suc (suc (suc (suc t)))) (omega arith)

-- byte 6 is 0; one of the 37
data Code : Bool → Bool → Type 0 where
  unshifted : Code true true
  shifted : (is : Bool) → Code false is

code : (c : ℕ) → Code (eqb c 0) (permitted c)
code zero = rw none-permitted unshifted
code (suc c) = rw (eqb-suc-zero c) (shifted (permitted (suc c)))

-- ---- rows 5 to 9 and 14, by kind

-- in the tests that they make: those of the kind, source 0 and over 4, tag 0, 1, 2, 3 and over 3, mode 0, address 0, A set and B set
module _ (m a set_a set_b : Bool) where
  abbrev fitting : Bool → Bool → Bool → Bool → Bool → Bool → Bool → Bool → Bool → Bool → Bool → Bool → Bool
  fitting fetches storing five six over memory high none one two three many =
      let touches = storing || (memory && fetches) in
      let tagged = touches || six in
      not over
      && (not (high || (storing && memory) || ((five || six) && not memory))
      && (not (tagged && none) && (not ((tagged && many) || (six && one))
      && (not (not tagged && not none) && (not ((not tagged || (touches && (two || three))) && not m) && (not (not touches && not a)
      && (not (touches && ((two && not set_a) || (three && not set_b))) && true)))))))

  -- a mode by the tag
  abbrev mode-test : Bool → Bool → Bool → Bool
  mode-test one two three = cond one true (cond two (m && set_a) (cond three (m && set_b) false))

  all-zero : (t m a : Bool) → (t && m && a) ≡ (not (not t) && (not (not m) && (not (not a) && true)))
  all-zero true true true = refl
  all-zero true true false = refl
  all-zero true false a = refl
  all-zero false m a = refl

  set-A : (m s : Bool) → (m && s) ≡ (not (not m) && (not (not s || false) && true))
  set-A true true = refl
  set-A true false = refl
  set-A false s = refl

  set-B : (m s : Bool) → (m && s) ≡ (not (not m) && (not (not s) && true))
  set-B true true = refl
  set-B true false = refl
  set-B false s = refl

  address : (a : Bool) → a ≡ (not (not a) && true)
  address true = refl
  address false = refl

  by_kind : {fetches storing five six over memory high none one two three many : Bool}
      → Kind fetches storing five six over → Source memory high → Tag none one two three many
      → cond storing (not memory && not high && mode-test one two three)
      (cond five (memory && (none && m && a))
      (cond six (memory && (two || three) && a)
      (cond over false (cond memory (mode-test one two three) (not high && (none && m && a))))))
      ≡ fitting fetches storing five six over memory high none one two three many
  by_kind fetch in_memory absent = refl
  by_kind fetch in_memory given = refl
  by_kind fetch in_memory by-A = set-A m set_a
  by_kind fetch in_memory by-B = set-B m set_b
  by_kind fetch in_memory wrong = refl
  by_kind fetch (elsewhere true) t = refl
  by_kind {none = none} fetch (elsewhere false) t = all-zero none m a
  by_kind store in_memory t = refl
  by_kind store (elsewhere true) t = refl
  by_kind store (elsewhere false) absent = refl
  by_kind store (elsewhere false) given = refl
  by_kind store (elsewhere false) by-A = set-A m set_a
  by_kind store (elsewhere false) by-B = set-B m set_b
  by_kind store (elsewhere false) wrong = refl
  by_kind {none = none} resolve in_memory t = all-zero none m a
  by_kind resolve (elsewhere true) t = refl
  by_kind resolve (elsewhere false) t = refl
  by_kind setting in_memory absent = refl
  by_kind setting in_memory given = refl
  by_kind setting in_memory by-A = address a
  by_kind setting in_memory by-B = address a
  by_kind setting in_memory wrong = refl
  by_kind setting (elsewhere true) t = refl
  by_kind setting (elsewhere false) t = refl
  by_kind beyond s t = refl

-- source, tag, mode and address, as the quick test takes them
abbrev pub access_test : Modes → Instruction → Bool
access_test m i =
    cond (stores i) (not (eqb i.source 0) && not (ltb 4 i.source) && moded m i)
    (cond (eqb i.kind 5) (eqb i.source 0 && idle i)
    (cond (eqb i.kind 6) (eqb i.source 0 && (eqb i.tag 2 || eqb i.tag 3) && eqb i.addr 0)
    (cond (ltb 6 i.kind) false (cond (eqb i.source 0) (moded m i) (not (ltb 4 i.source) && idle i)))))

module _ (m : Modes) (i : Instruction) where
  fits-by-kind : access_test m i ≡ fits m i
  unfolding fits wrong_kind wrong_source lacks_tag wrong_tag idle_tag idle_mode idle_address unset_mode
  fits-by-kind =
      by_kind (eqb i.mode 0) (eqb i.addr 0) (eqb m.a.set 1) (eqb m.b.set 1) (kind i.kind) (source i.source) (tag i.tag)
      ∙ sym (fault-test (access_rows m i) refl)

  -- kinds 2 and 3
  pub store-fits : stores i ≡ true → (not (eqb i.source 0) && not (ltb 4 i.source) && moded m i) ≡ fits m i
  store-fits e = simp e at fits-by-kind

  -- kind 5
  pub resolve-fits : i.kind ≡ 5 → (eqb i.source 0 && idle i) ≡ fits m i
  resolve-fits e = simp (ap (λ (k : ℕ). eqb k 2 || eqb k 3) e, eq-eqb i.kind 5 e) at fits-by-kind

  -- kind 6
  pub set-fits : i.kind ≡ 6 → (eqb i.source 0 && (eqb i.tag 2 || eqb i.tag 3) && eqb i.addr 0) ≡ fits m i
  set-fits e = simp (ap (λ (k : ℕ). eqb k 2 || eqb k 3) e, ap (λ (k : ℕ). eqb k 5) e, eq-eqb i.kind 6 e) at fits-by-kind

  module _ (keeps : stores i ≡ false) where
    -- kinds 0, 1 and 4
    pub source_fits : i.kind ≤ 4 → cond (eqb i.source 0) (moded m i) (not (ltb 4 i.source) && idle i) ≡ fits m i
    source_fits l =
        simp (keeps, ne_eqb i.kind 5 (λ e. omega arith), ne_eqb i.kind 6 (λ e. omega arith), le-ltb 6 i.kind (omega arith)) at fits-by-kind

-- ---- rows 18, 16 and 17, by kind

-- in the tests that they make: those of the kind, byte 6 is 0, it is one of the 37, byte 5 is 0
pass-is : {fetches storing five six over none is : Bool} → Kind fetches storing five six over → Code none is → (f : Bool)
    → cond (five || six) (none && f) (cond none true (cond storing false is))
    ≡ (not ((five || six) && not f) && (not ((storing || five || six) && not none) && is))
pass-is fetch unshifted f = refl
pass-is fetch (shifted is) f = refl
pass-is store unshifted f = refl
pass-is store (shifted is) f = refl
pass-is resolve unshifted true = refl
pass-is resolve unshifted false = refl
pass-is resolve (shifted is) true = refl
pass-is resolve (shifted is) false = refl
pass-is setting unshifted true = refl
pass-is setting unshifted false = refl
pass-is setting (shifted is) true = refl
pass-is setting (shifted is) false = refl
pass-is beyond unshifted f = refl
pass-is beyond (shifted is) f = refl

-- flip and shift, as the quick test takes them
abbrev pub pass_test : Instruction → Bool
pass_test i =
    cond (eqb i.kind 5 || eqb i.kind 6) (eqb i.code 0 && eqb i.flip 0)
    (cond (eqb i.code 0) true (cond (stores i) false (permitted i.code)))

-- 16 and 17 at the end of a table
both-last : (x y : Bool) → (x && y) ≡ (x && (y && true))
both-last true true = refl
both-last true false = refl
both-last false y = refl

pass-by-kind : (i : Instruction) → pass_test i ≡ passes i
unfolding passes barred_flip barred_shift
pass-by-kind i =
    pass-is (kind i.kind) (code i.code) (eqb i.flip 0)
    ∙ ap (λ (b : Bool). not (barred_flip i) && (not (barred_shift i) && b))
    (listed-exactly i.code ∙ both-last (not (wide_group i.code)) (not (not_below i.code)))
    ∙ sym (fault-test (move_rows i) refl)

-- kinds up to 4
pub pass_fits : (i : Instruction) → i.kind ≤ 4 → cond (eqb i.code 0) true (cond (stores i) false (permitted i.code)) ≡ passes i
pass_fits i l = simp (ne_eqb i.kind 5 (λ e. omega arith), ne_eqb i.kind 6 (λ e. omega arith)) at (pass-by-kind i)

-- ---- kinds over 4

-- the tests of bytes 5, 6 and 7 before the rest
still-first : (f c l x : Bool) → ((f && c && l) && x) ≡ ((c && f) && (l && x))
still-first true true l x = refl
still-first true false l x = refl
still-first false true l x = refl
still-first false false l x = refl

module _ (m : Modes) (i : Instruction) where
  -- kinds 5 and 6
  pub still_formed : (eqb i.kind 5 || eqb i.kind 6) ≡ true → (i.kind ≡ 0 → ⊥)
      → ((eqb i.flip 0 && eqb i.code 0 && eqb i.logic 0) && fits m i) ≡ eqb (fault_of m i).number 0
  unfolding wrong_logic
  still_formed e u =
      still-first (eqb i.flip 0) (eqb i.code 0) (eqb i.logic 0) (fits m i)
      ∙ ap₂ (λ (p l : Bool). p && (l && fits m i)) (simp e at (pass-by-kind i)) unchosen
      ∙ sym (formed-is m i)
    where
      twice : (b : Bool) → b ≡ not (not b)
      twice true = refl
      twice false = refl

      unchosen : eqb i.logic 0 ≡ not (wrong_logic i)
      unchosen = simp (ne_eqb i.kind 0 u) (twice (eqb i.logic 0))

  -- no other
  pub none-formed : 6 < i.kind → false ≡ eqb (fault_of m i).number 0
  none-formed l = sym (formed-is m i ∙ ap (λ (a : Bool). passes i && (not (wrong_logic i) && a)) over ∙ lost (passes i) (not (wrong_logic i)))
    where
      over : fits m i ≡ false
      over = sym (fits-by-kind m i) ∙ simp (none 2 (omega arith), none 3 (omega arith), none 5 (omega arith), none 6 (omega arith), lt-ltb 6 i.kind l)
        where
          none : (j : ℕ) → j ≤ 6 → eqb i.kind j ≡ false
          none j h = ne_eqb i.kind j (λ e. omega arith)

      lost : (p l : Bool) → (p && (l && false)) ≡ false
      lost true true = refl
      lost true false = refl
      lost false l = refl

-- ---- an instruction of which all three tests hold has no number

-- byte 7, as the quick test takes it
abbrev pub logic_test : Instruction → Bool
logic_test i = cond (eqb i.kind 0) (not (ltb 4 (i.logic / 16))) (eqb i.logic 0)

logic-is : (zero high none : Bool) → cond zero (not high) none ≡ not ((zero && high) || (not zero && not none))
logic-is true true none = refl
logic-is true false none = refl
logic-is false high true = refl
logic-is false high false = refl

pub formed-by : (m : Modes) (i : Instruction) → pass_test i ≡ true → logic_test i ≡ true → access_test m i ≡ true → (fault_of m i).number ≡ 0
unfolding wrong_logic
formed-by m i p l a =
    let through : passes i ≡ true = sym (pass-by-kind i) ∙ p in
    let stands : not (wrong_logic i) ≡ true = sym (logic-is (eqb i.kind 0) (ltb 4 (i.logic / 16)) (eqb i.logic 0)) ∙ l in
    let access : fits m i ≡ true = sym (fits-by-kind m i) ∙ a in
    eqb-true (fault_of m i).number 0 (formed-is m i ∙ simp (through, stands, access))

-- a shift that is one of the 37 passes, where the kind may shift
pub shift_passes : (i : Instruction) → (eqb i.kind 5 || eqb i.kind 6) ≡ false → stores i ≡ false → permitted i.code ≡ true → pass_test i ≡ true
shift_passes i still storing p = go (eqb i.code 0)
  where
    go : (b : Bool) → cond (eqb i.kind 5 || eqb i.kind 6) (b && eqb i.flip 0) (cond b true (cond (stores i) false (permitted i.code))) ≡ true
    go true = simp still
    go false = simp (still, storing, p)

-- ---- rows 16 and 17, where byte 6 was found among the 37, and where it was not

module _ (c : ℕ) (behind : Fault) where
  -- what the two rows give, by their tests
  abbrev by_tests : Bool → Bool → Fault
  by_tests wide high = cond wide (record { number = 16; byte = 6 }) (cond high (record { number = 17; byte = 6 }) behind)

  pub code-found : permitted c ≡ true → behind ≡ fault_before (about_byte 6 (code_rows c)) behind
  code-found t = let n = (listed-none c).1 t in sym (ap₂ by_tests n.0 n.1.0)

  pub code-lost : (n : ℕ) → permitted c ≡ false → n ≡ number_of (code_rows c) → record { number = n; byte = 6 } ≡ fault_before (about_byte 6 (code_rows c)) behind
  code-lost n t e = go (wide_group c) (not_below c) (sym (listed-exactly c) ∙ t) e
    where
      go : (x y : Bool) → (not x && not y) ≡ false → n ≡ cond x 16 (cond y 17 0) → record { number = n; byte = 6 } ≡ by_tests x y
      go true y u d = ap (λ (k : ℕ). record { number = k; byte = 6 }) d
      go false true u d = ap (λ (k : ℕ). record { number = k; byte = 6 }) d
      go false false u d = absurd (true≢false u)
