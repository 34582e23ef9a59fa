-- Closing up and spreading, document 02, Five, on a page: "Given the Y marks, build a list with its items that puts the marked words' field A, order kept, into field S of words 0, 1, 2 and so on, and zero into S of all other words. Nothing else in memory changes. Add the opposite too, which spreads the first words of S back into A of the marked words and leaves A of the others. Use document 001's compressing and spreading, at most eight rounds of shifts per slice, and prove that no two values meet. Closing and then spreading by the same marks gives each marked word its old A, even if every A was overwritten in between, so long as S was not. No marks is a good request: closing zeroes S, spreading changes nothing."
-- The marks are the builders' argument, 32 bytes, and Y is free when the list runs. Stated of the bytes that the builders leave in their buffers and of what `run` promises to do with them; proved in proofs/DemandClosing.antt, and assumes nothing. The numbers 35, 30, 31, 32 and 33 stand in specs/DemandOne.antt.
use Rattle.std.specs.Prelude.{◌≡◌, false, List, ℕ, ◌+◌, ◌-◌, ◌*◌, ◌<◌, ◌≤◌, length}
use Rattle.bits.specs.Bits.{Bytes, bit_of}
use Rattle.bits.specs.Search.{Numbered}
use Rattle.registers.specs.Modes.{modes_of, wrong_modes}
use Rattle.registers.specs.Rows.{registers_of}
use Rattle.judge.specs.Judge.{unfit}
use Rattle.module.specs.Run.{Lent}
use Rattle.closing.specs.Closing.{marked, rank, place_at, close_slice, closing_list, spread_slice, spreading_list, closing_length, closing_items_length, spreading_length, spreading_items_length, FieldsApart, closing_built, spreading_built}
use Rattle.fields.specs.Value.{word_bit, value, lent_on}
use Rattle.fields.specs.Marks.{less_run, MarkedBy}
use Rattle.fields.specs.Closing.{closing_run, spreading_run, state_after, shifts_in, Closed, Spread}
use Rattle.promises.specs.DemandSearch.{Sought}

-- Fields A and S of 1 to 32 bits inside the word, wholly apart, and any 32 bytes of marks.
pub record Moving (a s n : ℕ) (marks : List ℕ) : Type 0 where
  pub fields : FieldsApart a s n
  pub sized : length marks ≡ 32

-- Any memory of 8,192 bytes, and any registers of 100 but those that 15 refuses, whatever M, X and Y hold.
pub record OnAny (lent : Lent (List ℕ)) : Type 0 where
  pub memory : Bytes lent.memory 8192
  pub registers : Bytes lent.registers 100
  -- as in demand 3, "any register set but one that 15 refuses" (document 02, Seven)
  pub modes : wrong_modes (modes_of lent.registers) ≡ false

-- Buffers that are not too short, and behind the items that the list takes any with which the judge does not refuse the whole: `need` and `supply` are the lengths of the list and of its items.
pub record Supplied (need supply : ℕ) (list items : List ℕ) (lent : Lent (List ℕ)) : Type 0 where
  pub room : need ≤ length list
  pub room_items : supply ≤ length items
  pub supplied : unfit 32 (supply + length lent.items) ≡ false

abbrev pub ForClosing : ℕ → List ℕ → List ℕ → Lent (List ℕ) → Type 0
ForClosing n = Supplied (closing_length n) closing_items_length

abbrev pub ForSpreading : ℕ → List ℕ → List ℕ → Lent (List ℕ) → Type 0
ForSpreading n = Supplied (spreading_length n) (spreading_items_length n)

pub record DemandClosing (a s n : ℕ) (marks : List ℕ) (lent : Lent (List ℕ)) : Type 0 where
  -- the marked words have their numbers, 0, 1, 2 and so on: as many as are counted
  pub numbered : Numbered (MarkedBy marks) 256 (rank (marked marks) 256)
  -- closing: the list and its items are written, and counted; S of word k is A of marked word number k, S of the others is zero, and every other bit of the memory stays
  pub closing_written : (list items : List ℕ) → ForClosing n list items lent
      → (closing_built a s n marks list items).answer ≡ record { number = 0; list = closing_length n; items = closing_items_length }
  pub closed : (list items : List ℕ) → ForClosing n list items lent
      → (c : ℕ) (which : Numbered (MarkedBy marks) 256 c) → Closed a s n marks c which lent (closing_run a s n marks list items lent)
  -- spreading: A of marked word number k is S of word k, and every other bit of the memory stays
  pub spreading_written : (list items : List ℕ) → ForSpreading n list items lent
      → (spreading_built a s n marks list items).answer ≡ record { number = 0; list = spreading_length n; items = spreading_items_length n }
  pub spread : (list items : List ℕ) → ForSpreading n list items lent
      → (c : ℕ) (which : Numbered (MarkedBy marks) 256 c) → Spread a s n marks c which lent (spreading_run a s n marks list items lent)
  -- closing, and then spreading on any memory in which every S is as the closing left it: each marked word has its old A, whatever A held in between
  pub restored : (list items list' items' : List ℕ) (mid : Lent (List ℕ)) → ForClosing n list items lent → ForSpreading n list' items' mid → OnAny mid
      → ((w : ℕ) → w < 256 → value mid.memory w s n ≡ value (closing_run a s n marks list items lent).memory w s n)
      → (w : ℕ) → w < 256 → MarkedBy marks w → value (spreading_run a s n marks list' items' mid).memory w a n ≡ value lent.memory w a n
  -- no marks: closing zeroes S, and spreading changes no byte of the memory
  pub none_closed : (list items : List ℕ) → ForClosing n list items lent → ((w : ℕ) → w < 256 → MarkedBy marks w → ⊥)
      → (w : ℕ) → w < 256 → value (closing_run a s n marks list items lent).memory w s n ≡ 0
  pub none_spread : (list items : List ℕ) → ForSpreading n list items lent → ((w : ℕ) → w < 256 → MarkedBy marks w → ⊥)
      → (spreading_run a s n marks list items lent).memory ≡ lent.memory
  -- no two values meet: in each round the marked words' values are at places of their own, in their old order
  pub in_order : (t i j : ℕ) → i < j → MarkedBy marks i → place_at (marked marks) t i < place_at (marked marks) t j
  -- and there they are: after t rounds of the closing's run S of that place is A of its word; in a spreading's, X of that place has bit k of S of its rank's word, when the rounds of weight 128 down to 2^t are done
  pub closing_way : (list items : List ℕ) → ForClosing n list items lent → (t w : ℕ) → t ≤ 8 → w < 256 → MarkedBy marks w
      → value (state_after (closing_built a s n marks list items) lent (2 * n + (1 + 2 * n) * t)).mem (place_at (marked marks) t w) s n ≡ value lent.memory w a n
  pub spreading_way : (list items : List ℕ) → ForSpreading n list items lent → (k t w : ℕ) → k < n → t ≤ 8 → w < 256 → MarkedBy marks w
      → bit_of (state_after (spreading_built a s n marks list items) lent (1 + 18 * k + (1 + 2 * (8 - t)))).regs.x (place_at (marked marks) t w)
      ≡ word_bit lent.memory (rank (marked marks) w) (s + k)
  -- "at most eight rounds of shifts per slice": one instruction with a shift for slice k in each of a closing's eight rounds, and eight in a spreading's part for slice k; no more in either list
  pub closing_shift : (t k : ℕ) → shifts_in (close_slice t s k) ≡ 1
  pub closing_shifts : shifts_in (closing_list a s n) ≡ 8 * n
  pub spreading_shift : (k : ℕ) → shifts_in (spread_slice a s k) ≡ 8
  pub spreading_shifts : shifts_in (spreading_list a s n) ≡ 8 * n

-- "After a search the useful stations lie scattered": One and Five together. On what a search for less than a number has left, and by the marks that it left in Y, the stations below the number are closed up, in their order.
pub record ClosesBelow (a s n : ℕ) (lent : Lent (List ℕ)) : Type 0 where
  -- they have their numbers: as many as the search has marked
  pub numbered : (number : ℕ) (list items : List ℕ) → Sought n number list items lent
      → Numbered (λ w. value lent.memory w a n < number) 256 (rank (marked (registers_of (less_run a n number list items lent).registers).y) 256)
  pub below : (number : ℕ) (list items list' items' : List ℕ) → Sought n number list items lent → ForClosing n list' items' lent
      → (c : ℕ) (which : Numbered (λ w. value lent.memory w a n < number) 256 c)
      → (let r = lent_on lent (less_run a n number list items lent) in
      let u = closing_run a s n (registers_of r.registers).y list' items' r in
      ((k : ℕ) → k < c → value u.memory k s n ≡ value lent.memory (which.nth k) a n)
      × ((k : ℕ) → c ≤ k → k < 256 → value u.memory k s n ≡ 0))
