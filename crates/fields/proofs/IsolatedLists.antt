-- Which built lists are such that one station cannot disturb another: sums, differences, equal and less are; greatest, closing and spreading break the condition, and where. Assumes nothing.
use mathlib.Core.Path.{◌≡◌, refl, sym, ap, subst, subst₂, ◌∙◌}
use mathlib.Core.Bool.{Bool, true, false}
use mathlib.Core.List.{List, [], ◌∷◌, ◌++◌, append_assoc}
use Prim.Native.Nat.{ℕ, suc, ◌+◌, ◌-◌, ◌*◌, ◌/◌, ◌^◌, ◌<◌, ◌≤◌}
use native.Mathlib.Omega.{arith}
use borrow.Author.Tests.{ne_eqb}
use lib.ListN.{length, length-append}
use Rattle.bits.proofs.Search.{found}
use Rattle.registers.specs.declared.Modes.{Modes}
use Rattle.judge.specs.declared.Instruction.{Instruction}
use Rattle.judge.specs.Instructions.{instruction_at}
use Rattle.judge.specs.Modes.{modes_after}
use Rattle.builders.specs.Lists.{take_y, encoded, rounds, Each, none, more}
use Rattle.builders.specs.Field.{Field}
use Rattle.builders.specs.Sums.{bit_round, bit_rounds, sum_byte, difference_byte, sum_list, difference_list, list_length, Fields, sum_built, difference_built}
use Rattle.builders.specs.Searches.{started, decided, search_round, search_list, number_items, clear_x, take_marked, or_flip, greatest_round, greatest_list}
use Rattle.builders.specs.Searches.{search_length, items_length, greatest_length, search_fault, search_built, greatest_built}
use Rattle.builders.proofs.ListLaws.{encoded-append, rounds-apart, later, decoded-encoded, length-rounds}
use Rattle.builders.proofs.Folds.{each_append, each-rounds, each_at}
use Rattle.builders.proofs.SearchRefusals.{search-no-fault}
use Rattle.closing.specs.Closing.{closing_items, spreading_items, closing_length, closing_items_length, spreading_length, spreading_items_length, moving_fault, FieldsApart, closing_built, spreading_built}
use Rattle.closing.proofs.Refusals.{moving-no-fault}
use Rattle.closing.specs.Closing.{take_x, take_mask, take_further, store_masked, copy_slice, close_slice, close_round, clear_slice, closing_list, shift_masked, spread_slice, spreading_list}
use Rattle.fields.specs.Value.{list_of}
use Rattle.fields.specs.Marks.{list_of_two}
use Rattle.fields.specs.Isolation.{breaks, breaks_at, first_breaking, isolated, BreaksFirst}
use Rattle.fields.proofs.Runs.{eighth, each_read}
use Rattle.fields.proofs.Built.{two-listed}
use Rattle.fields.proofs.SumRuns.{sum-listed, difference-listed}
use Rattle.fields.proofs.GreatestRuns.{greatest-listed}
use Rattle.fields.proofs.Isolation.{keeps-isolated}

-- ---- by the instructions of a list

-- whatever the mode registers hold, it keeps to the condition; or breaks it
abbrev Keeping : Instruction → Type 0
Keeping i = (m : Modes) → breaks m i ≡ false

abbrev Breaking : Instruction → Type 0
Breaking i = (m : Modes) → breaks m i ≡ true

pub isolated-each : (l : List Instruction) → Each Keeping l → (m : Modes) → isolated m (encoded l) ≡ true
isolated-each l e m = keeps-isolated m (encoded l) (λ j h. each_read l e j h (modes_after (encoded l) m j))

-- the instruction behind those of l
instruction-behind : (l : List Instruction) (i : Instruction) (r : List Instruction) → instruction_at (encoded (l ++ (i ∷ r))) (length l) ≡ i
unfolding encoded instruction_at
instruction-behind [] i r = refl
instruction-behind (j ∷ l) i r = later j (encoded (l ++ (i ∷ r))) (length l) ∙ instruction-behind l i r

-- an instruction that breaks it behind those that keep to it is the first that does
module _ (l : List Instruction) (i : Instruction) (r : List Instruction) where
  abbrev whole : List ℕ
  whole = encoded (l ++ (i ∷ r))

  there : length l < length whole / 8
  there = omega (arith, eighth (l ++ (i ∷ r)), length-append l (i ∷ r))

  before : Each Keeping l → (j : ℕ) → j < length l → Keeping (instruction_at whole j)
  before e =
      subst (λ (z : List ℕ). (j : ℕ) → j < length l → Keeping (instruction_at z j)) (sym (encoded-append l (i ∷ r)))
      (each_at (encoded l ++ encoded (i ∷ r)) (length l) (subst (Each Keeping) (sym (decoded-encoded l (encoded (i ∷ r)))) e))

  first-breaking : Each Keeping l → Breaking i → (m : Modes) → BreaksFirst m whole (length l)
  first-breaking e b m =
      let k = modes_after whole m (length l) in
      let at : length l ≡ first_breaking m whole =
      found (breaks_at m whole) (length whole / 8) (length l) there (λ j h. before e j h (modes_after whole m j)) (ap (breaks k) (instruction-behind l i r) ∙ b k) in
      (ne_eqb (first_breaking m whole) (length whole / 8) (λ q. omega (arith, there, at, q)), sym at)

-- ---- the lists

-- the first of n rounds, and those behind it
rounds-first : {A : Type 0} (g : ℕ → List A) (n : ℕ) → 1 ≤ n → rounds g n ≡ g 0 ++ rounds (λ j. g (1 + j)) (n - 1)
unfolding rounds
rounds-first g n h =
    let e : n ≡ 1 + (n - 1) = omega arith in
    ap (rounds g) e ∙ rounds-apart g 1 (n - 1)

bits-keep : (t a b s n : ℕ) → Each Keeping (bit_rounds t a b s n)
unfolding breaks
bits-keep t a b s n =
    each-rounds (λ k. bit_round t (a + k) (b + k) (s + k)) n
    (λ k h. more (λ m. refl) (more (λ m. refl) (more (λ m. refl) (more (λ m. refl) (more (λ m. refl) none)))))

sum-keeps : (a b s n : ℕ) → Each Keeping (sum_list a b s n)
unfolding breaks
sum-keeps a b s n = more (λ m. refl) (bits-keep sum_byte a b s n)

difference-keeps : (a b s n : ℕ) → Each Keeping (difference_list a b s n)
unfolding breaks
difference-keeps a b s n = more (λ m. refl) (more (λ m. refl) (bits-keep difference_byte a b s n))

search-keeps : (less : Bool) (a n : ℕ) → Each Keeping (search_list less a n)
unfolding breaks
search-keeps less a n =
    more (begins less)
    (each_append (each-rounds (λ k. search_round less (a + k)) n (λ k h. more (λ m. refl) (more (λ m. refl) (more (decides less (a + k)) none))))
    (more (λ m. refl) none))
  where
    begins : (less : Bool) → Keeping (started less)
    begins true = λ m. refl
    begins false = λ m. refl

    decides : (less : Bool) (g : ℕ) → Keeping (decided less g)
    decides true g = λ m. refl
    decides false g = λ m. refl

-- greatest flips first behind two instructions
greatest-breaks : (a n : ℕ) → 1 ≤ n → (m : Modes) → BreaksFirst m (encoded (greatest_list a n)) 2
unfolding breaks rounds
greatest-breaks a n h m =
    subst (λ (l : List Instruction). BreaksFirst m (encoded (clear_x ∷ l)) 2) (sym (rounds-first (λ k. greatest_round (a + (n - suc k))) n h))
    (first-breaking (clear_x ∷ take_marked (a + (n - 1)) ∷ []) (or_flip 0) _ (more (λ m. refl) (more (λ m. refl) none)) (λ m. refl) m)

-- closing moves first behind the copies of its n slices and a mask
closing-breaks : (a s n : ℕ) → 1 ≤ n → (m : Modes) → BreaksFirst m (encoded (closing_list a s n)) (2 * n + 1)
unfolding breaks
closing-breaks a s n h m =
    subst₂ (λ (l : List Instruction) (k : ℕ). BreaksFirst m (encoded l) k)
    (append_assoc copies (take_mask ∷ []) (take_further 0 (s + 0) ∷ rest) ∙ sym shape)
    (length-append copies (take_mask ∷ []) ∙ ap (λ (k : ℕ). k + 1) (length-rounds (copy_slice a s) 2 n (λ k. refl)))
    (first-breaking (copies ++ (take_mask ∷ [])) (take_further 0 (s + 0)) rest
    (each_append (each-rounds (copy_slice a s) n (λ k l. more (λ m. refl) (more (λ m. refl) none))) (more (λ m. refl) none)) (λ m. refl) m)
  where
    copies : List Instruction
    copies = rounds (copy_slice a s) n

    others : List Instruction
    others = rounds (λ t. close_round s n (1 + t)) 7

    last : List Instruction
    last = take_mask ∷ clear_x ∷ rounds (clear_slice s) n

    rest : List Instruction
    rest = (store_masked 255 (s + 0) ∷ rounds (λ k. close_slice 0 s (1 + k)) (n - 1) ++ others) ++ last

    shape : closing_list a s n ≡ copies ++ (take_mask ∷ take_further 0 (s + 0) ∷ rest)
    shape =
        ap (λ (z : List Instruction). copies ++ (z ++ last))
        (rounds-first (close_round s n) 8 (omega arith) ∙ ap (λ (z : List Instruction). (take_mask ∷ z) ++ others) (rounds-first (close_slice 0 s) n h))

-- spreading shifts first behind three
spreading-breaks : (a s n : ℕ) → 1 ≤ n → (m : Modes) → BreaksFirst m (encoded (spreading_list a s n)) 3
unfolding breaks rounds
spreading-breaks a s n h m =
    subst (λ (l : List Instruction). BreaksFirst m (encoded (take_mask ∷ l)) 3) (sym (rounds-first (spread_slice a s) n h))
    (first-breaking (take_mask ∷ take_x (s + 0) ∷ take_y ∷ []) (shift_masked 7) _ (more (λ m. refl) (more (λ m. refl) (more (λ m. refl) none))) (λ m. refl) m)

-- ---- as the builders write them

module _ (a b s n : ℕ) (fields : Fields a b s n) (buffer : List ℕ) (m : Modes) where
  pub sum-isolated : list_length 1 n ≤ length buffer → isolated m (list_of (sum_built a b s n buffer)) ≡ true
  sum-isolated room = ap (isolated m) (sum-listed a b s n fields buffer room) ∙ isolated-each (sum_list a b s n) (sum-keeps a b s n) m

  pub difference-isolated : list_length 2 n ≤ length buffer → isolated m (list_of (difference_built a b s n buffer)) ≡ true
  difference-isolated room = ap (isolated m) (difference-listed a b s n fields buffer room) ∙ isolated-each (difference_list a b s n) (difference-keeps a b s n) m

module _ (a n : ℕ) (field : Field a n) (list : List ℕ) (m : Modes) where
  pub search-isolated : (less : Bool) (number : ℕ) (items : List ℕ) → number < 2 ^ n → search_length n ≤ length list → items_length n ≤ length items
      → isolated m (list_of_two (search_built less a n number list items)) ≡ true
  unfolding search_built
  search-isolated less number items small room room_items =
      ap (isolated m) (two-listed (encoded (search_list less a n)) (number_items number n) list items (search_fault a n number (length list) (length items))
      (search-no-fault a n number (length list) (length items) field small room room_items))
      ∙ isolated-each (search_list less a n) (search-keeps less a n) m

  pub greatest-broken : greatest_length n ≤ length list → BreaksFirst m (list_of (greatest_built a n list)) 2
  greatest-broken room =
      subst (λ (l : List ℕ). BreaksFirst m l 2) (sym (greatest-listed a n field list room)) (greatest-breaks a n field.some m)

module _ (a s n : ℕ) (apart : FieldsApart a s n) (marks list items : List ℕ) (sized : length marks ≡ 32) (m : Modes) where
  -- as `moving_fault` lets it pass
  passes : (need supply : ℕ) → need ≤ length list → supply ≤ length items → moving_fault a s n (length marks) (length list) (length items) need supply ≡ 0
  passes need supply = moving-no-fault a s n (length marks) (length list) (length items) need supply sized apart

  pub closing-broken : closing_length n ≤ length list → closing_items_length ≤ length items → BreaksFirst m (list_of_two (closing_built a s n marks list items)) (2 * n + 1)
  unfolding closing_built
  closing-broken room room_items =
      subst (λ (l : List ℕ). BreaksFirst m l (2 * n + 1))
      (sym (two-listed (encoded (closing_list a s n)) (closing_items marks) list items _ (passes (closing_length n) closing_items_length room room_items)))
      (closing-breaks a s n apart.some m)

  pub spreading-broken : spreading_length n ≤ length list → spreading_items_length n ≤ length items → BreaksFirst m (list_of_two (spreading_built a s n marks list items)) 3
  unfolding spreading_built
  spreading-broken room room_items =
      subst (λ (l : List ℕ). BreaksFirst m l 3)
      (sym (two-listed (encoded (spreading_list a s n)) (spreading_items marks n) list items _ (passes (spreading_length n) (spreading_items_length n) room room_items)))
      (spreading-breaks a s n apart.some m)
