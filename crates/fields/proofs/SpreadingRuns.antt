-- The run of the list that spreads, as its builder wrote it: what it leaves in the memory, where the values are on the way, and that it undoes a closing. Document 02, Five. Assumes nothing.
use mathlib.Core.Path.{◌≡◌, refl, sym, ap, ap₂, subst, ◌∙◌}
use mathlib.Core.Bool.{Bool, false, cond}
use mathlib.Core.List.{List, [], ◌∷◌, ◌++◌, append_assoc}
use Prim.Native.Nat.{ℕ, zero, suc, ◌+◌, ◌-◌, ◌*◌, ◌%◌, ◌<◌, ◌≤◌}
use native.Mathlib.Decide.{dec_le, dec_lt, ℕ_discrete}
use native.Mathlib.Omega.{arith}
use lib.ListN.{length, length-append}
use borrow.Author.Tests.{ne_eqb}
use Rattle.bits.specs.Bits.{Bytes, bit_of}
use Rattle.bits.specs.Search.{Numbered}
use Rattle.bits.proofs.Binary.{Bit}
use Rattle.bits.proofs.Digits.{digits_of-ext}
use Rattle.bits.proofs.Items.{bit_of-bit, bit_of-pack}
use Rattle.bits.proofs.Search.{count-le}
use Rattle.registers.specs.Modes.{modes_of, wrong_modes}
use Rattle.registers.specs.Rows.{registers_of}
use Rattle.judge.specs.declared.Instruction.{Instruction}
use Rattle.judge.specs.Judge.{unfit}
use Rattle.module.specs.Act.{State, acted}
use Rattle.module.specs.Run.{Lent, begun, ran_by}
use Rattle.builders.specs.Lists.{encoded, rounds, Each}
use Rattle.closing.specs.Closing.{marked, rank, place_at, take_x, take_mask, store_masked}
use Rattle.closing.specs.Closing.{spread_round, spread_slice, spreading_list, spreading_item, spreading_items}
use Rattle.closing.specs.Closing.{closing_length, closing_items_length, spreading_length, spreading_items_length, moving_fault, FieldsApart, spreading_built}
use Rattle.builders.specs.Word.{folded}
use Rattle.builders.proofs.ListLaws.{length-encoded, rounds-apart, items_at}
use Rattle.closing.proofs.Lengths.{length-spread-rounds, length-spread-slices, spreading-length, spreading-items-length}
use Rattle.closing.proofs.Refusals.{moving-no-fault}
use Rattle.closing.proofs.Ranks.{arrivals-bit, place-le}
use Rattle.fields.specs.Line.{outside_at}
use Rattle.fields.specs.Value.{word_bit, value}
use Rattle.fields.specs.Marks.{MarkedBy}
use Rattle.fields.specs.Closing.{closing_run, spreading_run, state_after, Spread}
use Rattle.fields.proofs.Whole.{memory-ext}
use Rattle.fields.proofs.Runs.{Quiet, left_by}
use Rattle.fields.proofs.Kept.{end-good, modes-end, registers-end}
use Rattle.fields.proofs.Built.{two-written, two-after, two-ran}
use Rattle.fields.proofs.ClosingLists.{spreading-quiet, spreading-taken, marked-of, marks-numbered, rank-of, last-round, prefix-ran}
use Rattle.fields.proofs.ClosingRuns.{closing-closed}
use Rattle.fields.proofs.Carried.{spread_by, spread_at, spread-last}
use Rattle.fields.proofs.MoveSteps.{bit_at, before, before-by}
use Rattle.fields.proofs.Closing.{Slices, closed}
use Rattle.fields.proofs.SpreadBack.{spread, new, old, all-spread, on-the-way}

module _ (a s n : ℕ) (f : FieldsApart a s n) (marks list items : List ℕ) (sized : length marks ≡ 32)
    (room : spreading_length n ≤ length list) (room_items : spreading_items_length n ≤ length items) where
  no-fault : moving_fault a s n (length marks) (length list) (length items) (spreading_length n) (spreading_items_length n) ≡ 0
  no-fault = moving-no-fault a s n (length marks) (length list) (length items) (spreading_length n) (spreading_items_length n) sized f room room_items

  pub spreading-written : (spreading_built a s n marks list items).answer ≡ record { number = 0; list = spreading_length n; items = spreading_items_length n }
  unfolding spreading_built
  spreading-written =
      two-written (encoded (spreading_list a s n)) (spreading_items marks n) list items _ (spreading_length n) (spreading_items_length n) no-fault
      (spreading-length a s n) (spreading-items-length marks n)

  module _ (lent : Lent (List ℕ)) where
    abbrev begin : State
    begin = begun lent (registers_of lent.registers)

    abbrev given : List ℕ
    given = spreading_items marks n ++ lent.items

    abbrev end : State
    end = folded (λ i. acted i given) (spreading_list a s n) begin

    item-bit : (k p : ℕ) → Bit (spreading_item marks k p)
    item-bit zero p = bit_of-bit marks p
    item-bit (suc k) p = arrivals-bit (marked marks) (7 - k % 8) (7 - k % 8) p

    items-are : (k p : ℕ) → k < 1 + 8 * n → p < 256 → outside_at p given k ≡ spreading_item marks k p
    items-are k p hk hp =
        ap (λ (x : List ℕ). bit_of x p) (items_at (spreading_item marks) (1 + 8 * n) k lent.items hk)
        ∙ bit_of-pack (spreading_item marks k) (item-bit k) 32 p hp

    -- bit k of the old S of the word that word w's rank is, at w's place, when the rounds of weight 128 down to 2^t are done
    pub spreading-way : (k t w : ℕ) → k < n → t ≤ 8 → w < 256 → MarkedBy marks w
        → bit_of (state_after (spreading_built a s n marks list items) lent (1 + 18 * k + (1 + 2 * (8 - t)))).regs.x (place_at (marked marks) t w)
        ≡ word_bit lent.memory (rank (marked marks) w) (s + k)
    unfolding spreading_built
    spreading-way k t w hk ht hw e =
        let m = marked marks in
        let hp : place_at m t w < 256 = omega (arith, place-le m t w) in
        ap (λ (r : State). bit_of r.regs.x (place_at m t w)) middle
        ∙ on-the-way marks a s n f given items-are begin refl k c (place_at m t w) hk (omega arith) hp
        ∙ ap (λ (x : ℕ). spread_by m before c (λ q. word_bit lent.memory q (s + k)) (place_at m x w)) (let q : t ≡ 8 - (8 - t) = omega arith in q)
        ∙ spread_at m before (λ q. word_bit lent.memory q (s + k)) before-by c w (omega arith) hw (marked-of marks w e)
      where
        c : ℕ
        c = 8 - t

        steps-in : ℕ
        steps-in = 1 + 18 * k + (1 + 2 * (8 - t))

        front : List Instruction
        front = take_mask ∷ (rounds (spread_slice a s) k ++ (take_x (s + k) ∷ rounds spread_round c))

        tail : List Instruction
        tail = rounds (λ j. spread_round (c + j)) t ++ (store_masked 0 (a + k) ∷ [])

        later : List Instruction
        later = rounds (λ j. spread_slice a s (suc k + j)) (n - suc k)

        -- slice k, in two parts
        slice-apart : spread_slice a s k ≡ (take_x (s + k) ∷ rounds spread_round c) ++ tail
        slice-apart =
            ap (λ (l : List Instruction). take_x (s + k) ∷ (l ++ (store_masked 0 (a + k) ∷ [])))
            (let q : 8 ≡ c + t = omega arith in ap (rounds spread_round) q ∙ rounds-apart spread_round c t)
            ∙ ap (λ (l : List Instruction). take_x (s + k) ∷ l) (append_assoc (rounds spread_round c) (rounds (λ j. spread_round (c + j)) t) (store_masked 0 (a + k) ∷ []))

        whole : spreading_list a s n ≡ front ++ (tail ++ later)
        whole =
            ap (λ (l : List Instruction). take_mask ∷ l)
            ((let q : n ≡ suc k + (n - suc k) = omega arith in ap (rounds (spread_slice a s)) q)
            ∙ rounds-apart (spread_slice a s) (suc k) (n - suc k)
            ∙ ap (λ (l : List Instruction). l ++ later)
            (last-round (spread_slice a s) k ∙ ap (λ (l : List Instruction). rounds (spread_slice a s) k ++ l) slice-apart
            ∙ sym (append_assoc (rounds (spread_slice a s) k) (take_x (s + k) ∷ rounds spread_round c) tail))
            ∙ append_assoc (rounds (spread_slice a s) k ++ (take_x (s + k) ∷ rounds spread_round c)) tail later)

        middle : state_after (spreading_built a s n marks list items) lent steps-in ≡ folded (λ i. acted i given) front begin
        middle =
            two-after (encoded (spreading_list a s n)) (spreading_items marks n) list items _ no-fault lent steps-in
            ∙ ap (λ (l : List Instruction). ran_by (encoded l) given begin steps-in) whole
            ∙ prefix-ran front (tail ++ later) given begin steps-in
            (omega (arith, length-append (rounds (spread_slice a s) k) (take_x (s + k) ∷ rounds spread_round c), length-spread-slices a s k, length-spread-rounds c))

    module _ (memory : Bytes lent.memory 8192) (registers : Bytes lent.registers 100)
        (stands : wrong_modes (modes_of lent.registers) ≡ false) (supplied : unfit 32 (spreading_items_length n + length lent.items) ≡ false) where
      steps : length (spreading_list a s n) ≡ 1 + 18 * n
      steps = omega (arith, length-encoded (spreading_list a s n), spreading-length a s n)

      quiet : Each Quiet (spreading_list a s n)
      quiet = spreading-quiet a s n f.fits_a f.fits_s

      spreading-ran : spreading_run a s n marks list items lent ≡ left_by lent end (1 + 18 * n) (1 + 8 * n)
      unfolding spreading_built
      spreading-ran =
          let items-length = spreading-items-length marks n in
          two-ran (spreading_list a s n) quiet (omega (arith, steps, f.width)) (spreading_items marks n) list items _ no-fault lent
          memory.size registers.size stands (ap (λ (k : ℕ). unfit 32 (k + length lent.items)) items-length ∙ supplied)
          (omega (arith, items-length, spreading-taken a s n))
          ∙ ap₂ (left_by lent end) steps (spreading-taken a s n)

      slices : Slices (bit_at begin) a n n (new marks a s n f given items-are begin refl) (old marks a s n f given items-are begin refl) end
      slices = all-spread marks a s n f given items-are begin refl

      -- bit j of A of word w: of S of the word that its rank is where it is marked, else as it was
      marked-bit : (w j : ℕ) → w < 256 → j < n → MarkedBy marks w → word_bit end.mem w (a + j) ≡ word_bit lent.memory (rank (marked marks) w) (s + j)
      marked-bit w j hw h e =
          slices.done j w h hw
          ∙ ap (λ (t : Bool). cond t (spread marks a s n f given items-are begin refl 8 j w) (word_bit lent.memory w (a + j))) (marked-of marks w e)
          ∙ spread-last (marked marks) before (λ q. word_bit lent.memory q (s + j)) before-by w hw (marked-of marks w e)

      unmarked-bit : (w j : ℕ) → w < 256 → j < n → (MarkedBy marks w → ⊥) → word_bit end.mem w (a + j) ≡ word_bit lent.memory w (a + j)
      unmarked-bit w j hw h u =
          slices.done j w h hw
          ∙ ap (λ (t : Bool). cond t (spread marks a s n f given items-are begin refl 8 j w) (word_bit lent.memory w (a + j))) (ne_eqb (bit_of marks w) 1 u)

      other-bit : (w b : ℕ) → w < 256 → b < 256 → (MarkedBy marks w → a ≤ b → b < a + n → ⊥) → word_bit end.mem w b ≡ word_bit lent.memory w b
      other-bit w b hw hb u = go (dec_le a b) (dec_lt b (a + n)) (ℕ_discrete (bit_of marks w) 1)
        where
          go : Dec (a ≤ b) → Dec (b < a + n) → Dec (bit_of marks w ≡ 1) → word_bit end.mem w b ≡ word_bit lent.memory w b
          go (yes p) (yes q) (yes e) = absurd (u e p q)
          go (yes p) (yes q) (no v) =
              subst (λ (x : ℕ). word_bit end.mem w x ≡ word_bit lent.memory w x) (let e : a + (b - a) ≡ b = omega arith in e)
              (unmarked-bit w (b - a) hw (omega arith) v)
          go (no p) q e = slices.rest w b hw hb (λ l r. p l)
          go (yes p) (no q) e = slices.rest w b hw hb (λ l r. q r)

      module _ (c : ℕ) (which : Numbered (MarkedBy marks) 256 c) where
        spread_end : Spread a s n marks c which lent (left_by lent end (1 + 18 * n) (1 + 8 * n))
        spread_end =
            record {
              done = refl;
              spread = λ k h. digits_of-ext _ _ n (λ j l. marked-bit (which.nth k) j (which.below k h) l (which.has k h)
                  ∙ ap (λ (x : ℕ). word_bit lent.memory x (s + j)) (rank-of marks c which k h));
              others = other-bit;
              keeps_modes = modes-end (spreading_list a s n) lent memory registers given quiet;
              memory = (end-good (spreading_list a s n) lent memory registers given).mem_ok;
              registers = registers-end (spreading_list a s n) lent memory registers given quiet;
              quiet = refl;
            }

        pub spreading-spread : Spread a s n marks c which lent (spreading_run a s n marks list items lent)
        spreading-spread = subst (Spread a s n marks c which lent) (sym spreading-ran) spread_end

      -- with no marks nothing changes
      pub spreading-none : ((w : ℕ) → w < 256 → MarkedBy marks w → ⊥) → (spreading_run a s n marks list items lent).memory ≡ lent.memory
      spreading-none u =
          let r = spreading-spread (rank (marked marks) 256) (marks-numbered marks) in
          memory-ext (spreading_run a s n marks list items lent).memory lent.memory r.memory memory (λ w b hw hb. r.others w b hw hb (λ e l q. u w hw e))

-- ---- closing, then anything that keeps S, then spreading

module _ (a s n : ℕ) (f : FieldsApart a s n) (marks : List ℕ) (sized : length marks ≡ 32) (list items list' items' : List ℕ)
    (room : closing_length n ≤ length list) (room_items : closing_items_length ≤ length items)
    (room' : spreading_length n ≤ length list') (room_items' : spreading_items_length n ≤ length items')
    (lent : Lent (List ℕ)) (memory : Bytes lent.memory 8192) (registers : Bytes lent.registers 100)
    (stands : wrong_modes (modes_of lent.registers) ≡ false) (supplied : unfit 32 (closing_items_length + length lent.items) ≡ false)
    (mid : Lent (List ℕ)) (memory' : Bytes mid.memory 8192) (registers' : Bytes mid.registers 100)
    (stands' : wrong_modes (modes_of mid.registers) ≡ false) (supplied' : unfit 32 (spreading_items_length n + length mid.items) ≡ false) where
  -- each marked word has its old A again
  pub spread-restores : ((w : ℕ) → w < 256 → value mid.memory w s n ≡ value (closing_run a s n marks list items lent).memory w s n)
      → (w : ℕ) → w < 256 → MarkedBy marks w → value (spreading_run a s n marks list' items' mid).memory w a n ≡ value lent.memory w a n
  spread-restores same w hw e =
      let c = rank (marked marks) 256 in
      let which = marks-numbered marks in
      let t = which.each w hw e in
      let k = t.0 in
      ap (λ (x : ℕ). value (spreading_run a s n marks list' items' mid).memory x a n) (sym t.2)
      ∙ (spreading-spread a s n f marks list' items' sized room' room_items' mid memory' registers' stands' supplied' c which).spread k t.1
      ∙ same k (omega (arith, t.1, count-le (marked marks) 256))
      ∙ (closing-closed a s n f marks list items sized room room_items lent memory registers stands supplied c which).closed k t.1
      ∙ ap (λ (x : ℕ). value lent.memory x a n) t.2
