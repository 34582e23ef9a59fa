-- The run of the list that closes up, as its builder wrote it: what it leaves in the memory, and where the values are on the way. Document 02, Five. Assumes nothing.
use mathlib.Core.Path.{◌≡◌, refl, sym, ap, ap₂, subst, ◌∙◌}
use mathlib.Core.Bool.{Bool, false, cond}
use mathlib.Core.List.{List, ◌∷◌, ◌++◌, append_assoc}
use Prim.Native.Nat.{ℕ, zero, suc, ◌+◌, ◌-◌, ◌*◌, ◌<◌, ◌≤◌}
use native.Mathlib.Omega.{arith}
use lib.Dec.{eqb, ltb}
use lib.ListN.{length, length-append}
use borrow.Author.Tests.{lt-ltb, le-ltb}
use Rattle.bits.specs.Bits.{Bytes, bit_of, digits_of}
use Rattle.bits.specs.Search.{Numbered}
use Rattle.bits.proofs.Binary.{Bit, off, on, cond-bit}
use Rattle.bits.proofs.Digits.{digits_of-ext}
use Rattle.bits.proofs.Items.{bit_of-pack}
use Rattle.bits.proofs.Search.{count-le}
use Rattle.registers.specs.Modes.{modes_of, wrong_modes}
use Rattle.registers.specs.Rows.{registers_of}
use Rattle.judge.specs.declared.Instruction.{Instruction}
use Rattle.judge.specs.Judge.{unfit}
use Rattle.module.specs.Act.{State, acted}
use Rattle.module.specs.Run.{Lent, begun, ran_by}
use Rattle.builders.specs.Lists.{encoded, rounds, Each}
use Rattle.builders.specs.Searches.{clear_x}
use Rattle.closing.specs.Closing.{marked, rank, place_at, take_mask, copy_slice, close_round, clear_slice, closing_list}
use Rattle.closing.specs.Closing.{beyond_marks, closing_item, closing_items}
use Rattle.closing.specs.Closing.{closing_length, closing_items_length, moving_fault, FieldsApart, closing_built}
use Rattle.builders.specs.Word.{folded}
use Rattle.builders.proofs.ListLaws.{length-encoded, rounds-apart, items_at}
use Rattle.closing.proofs.Lengths.{length-copies, length-close-rounds, closing-length, closing-items-length}
use Rattle.closing.proofs.Refusals.{moving-no-fault}
use Rattle.closing.proofs.Ranks.{arrivals-bit, place-le}
use Rattle.fields.specs.Line.{outside_at}
use Rattle.fields.specs.Value.{word_bit, value}
use Rattle.fields.specs.Marks.{MarkedBy}
use Rattle.fields.specs.Closing.{closing_run, state_after, Closed}
use Rattle.fields.proofs.Runs.{Quiet, left_by}
use Rattle.fields.proofs.Kept.{end-good, modes-end, registers-end}
use Rattle.fields.proofs.Built.{two-written, two-after, two-ran}
use Rattle.fields.proofs.ClosingLists.{closing-quiet, closing-taken, marked-of, marks-numbered, all-counted, rank-of, none-counted, prefix-ran}
use Rattle.fields.proofs.Carried.{closed_by, closed_at, closed-last}
use Rattle.fields.proofs.MoveSteps.{bit_at, further, further-by}
use Rattle.fields.proofs.Closing.{Slices, closed, cleared, rounds-done, all_closed}

zeros : (n : ℕ) → digits_of (λ j. 0) n ≡ 0
unfolding digits_of
zeros zero = refl
zeros (suc n) = omega (arith, zeros n)

module _ (a s n : ℕ) (f : FieldsApart a s n) (marks list items : List ℕ) (sized : length marks ≡ 32)
    (room : closing_length n ≤ length list) (room_items : closing_items_length ≤ length items) where
  no-fault : moving_fault a s n (length marks) (length list) (length items) (closing_length n) closing_items_length ≡ 0
  no-fault = moving-no-fault a s n (length marks) (length list) (length items) (closing_length n) closing_items_length sized f room room_items

  pub closing-written : (closing_built a s n marks list items).answer ≡ record { number = 0; list = closing_length n; items = closing_items_length }
  unfolding closing_built
  closing-written =
      two-written (encoded (closing_list a s n)) (closing_items marks) list items _ (closing_length n) closing_items_length no-fault (closing-length a s n)
      (closing-items-length marks)

  module _ (lent : Lent (List ℕ)) where
    abbrev begin : State
    begin = begun lent (registers_of lent.registers)

    abbrev given : List ℕ
    given = closing_items marks ++ lent.items

    abbrev end : State
    end = folded (λ i. acted i given) (closing_list a s n) begin

    item-bit : (k p : ℕ) → Bit (closing_item (marked marks) k p)
    item-bit k p = cond-bit (ltb k 8) (arrivals-bit (marked marks) k (suc k) p) (cond-bit (ltb p (rank (marked marks) 256)) off on)

    items-are : (k p : ℕ) → k < 9 → p < 256 → outside_at p given k ≡ closing_item (marked marks) k p
    items-are k p hk hp =
        ap (λ (x : List ℕ). bit_of x p) (items_at (closing_item (marked marks)) 9 k lent.items hk)
        ∙ bit_of-pack (closing_item (marked marks) k) (item-bit k) 32 p hp

    -- the old A of word w, at its place after t rounds
    pub closing-way : (t w : ℕ) → t ≤ 8 → w < 256 → MarkedBy marks w
        → value (state_after (closing_built a s n marks list items) lent (2 * n + (1 + 2 * n) * t)).mem (place_at (marked marks) t w) s n ≡ value lent.memory w a n
    unfolding closing_built
    closing-way t w ht hw e =
        let m = marked marks in
        let p = place_at m t w in
        let hp : place_at m t w < 256 = omega (arith, place-le m t w) in
        ap (λ (r : State). value r.mem p s n) middle
        ∙ digits_of-ext _ _ n
        (λ j h. (rounds-done m a s n f given items-are begin refl t ht).todo j p (omega arith) h hp
        ∙ closed_at m further (λ q. word_bit lent.memory q (a + j)) further-by t w ht hw (marked-of marks w e))
      where
        front : List Instruction
        front = rounds (copy_slice a s) n ++ rounds (close_round s n) t

        behind : List Instruction
        behind = rounds (λ k. close_round s n (t + k)) (8 - t) ++ (take_mask ∷ clear_x ∷ rounds (clear_slice s) n)

        whole : closing_list a s n ≡ front ++ behind
        whole =
            ap (λ (l : List Instruction). rounds (copy_slice a s) n ++ (l ++ (take_mask ∷ clear_x ∷ rounds (clear_slice s) n)))
            (let e : 8 ≡ t + (8 - t) = omega arith in ap (rounds (close_round s n)) e ∙ rounds-apart (close_round s n) t (8 - t))
            ∙ ap (λ (l : List Instruction). rounds (copy_slice a s) n ++ l)
            (append_assoc (rounds (close_round s n) t) (rounds (λ k. close_round s n (t + k)) (8 - t)) (take_mask ∷ clear_x ∷ rounds (clear_slice s) n))
            ∙ sym (append_assoc (rounds (copy_slice a s) n) (rounds (close_round s n) t) behind)

        middle : state_after (closing_built a s n marks list items) lent (2 * n + (1 + 2 * n) * t) ≡ folded (λ i. acted i given) front begin
        middle =
            two-after (encoded (closing_list a s n)) (closing_items marks) list items _ no-fault lent (2 * n + (1 + 2 * n) * t)
            ∙ ap (λ (l : List Instruction). ran_by (encoded l) given begin (2 * n + (1 + 2 * n) * t)) whole
            ∙ prefix-ran front behind given begin (2 * n + (1 + 2 * n) * t)
            (length-append (rounds (copy_slice a s) n) (rounds (close_round s n) t) ∙ ap₂ (λ (x y : ℕ). x + y) (length-copies a s n) (length-close-rounds s n t))

    module _ (memory : Bytes lent.memory 8192) (registers : Bytes lent.registers 100)
        (stands : wrong_modes (modes_of lent.registers) ≡ false) (supplied : unfit 32 (closing_items_length + length lent.items) ≡ false) where
      steps : length (closing_list a s n) ≡ 10 + 19 * n
      steps = omega (arith, length-encoded (closing_list a s n), closing-length a s n)

      quiet : Each Quiet (closing_list a s n)
      quiet = closing-quiet a s n f.fits_a f.fits_s

      closing-ran : closing_run a s n marks list items lent ≡ left_by lent end (10 + 19 * n) 9
      unfolding closing_built
      closing-ran =
          let items-length = closing-items-length marks in
          two-ran (closing_list a s n) quiet (omega (arith, steps, f.width)) (closing_items marks) list items _ no-fault lent
          memory.size registers.size stands (ap (λ (k : ℕ). unfit 32 (k + length lent.items)) items-length ∙ supplied)
          (omega (arith, items-length, closing-taken a s n))
          ∙ ap₂ (left_by lent end) steps (closing-taken a s n)

      module _ (c : ℕ) (which : Numbered (MarkedBy marks) 256 c) where
        slices : Slices (bit_at begin) s n n (cleared (marked marks) a s n f given items-are begin refl) (closed (marked marks) a s n f given items-are begin refl 8) end
        slices = all_closed (marked marks) a s n f given items-are begin refl

        closed-end : Closed a s n marks c which lent (left_by lent end (10 + 19 * n) 9)
        closed-end =
            record {
              done = refl;
              closed = λ k h. digits_of-ext _ _ n (λ j l. slices.done j k l (omega (arith, count-le (marked marks) 256, all)) ∙ here k h j);
              zero = λ k h hk. digits_of-ext _ (λ j. 0) n (λ j l. slices.done j k l hk ∙ gone k h j) ∙ zeros n;
              others = λ w b hw hb u. slices.rest w b hw hb u;
              keeps_modes = modes-end (closing_list a s n) lent memory registers given quiet;
              memory = (end-good (closing_list a s n) lent memory registers given).mem_ok;
              registers = registers-end (closing_list a s n) lent memory registers given quiet;
              quiet = refl;
            }
          where
            all : c ≡ rank (marked marks) 256
            all = all-counted marks c which

            now-at : ℕ → ℕ → ℕ
            now-at j k = closed_by (marked marks) further 8 (λ q. word_bit lent.memory q (a + j)) k

            here : (k : ℕ) → k < c → (j : ℕ) → cond (eqb (beyond_marks (marked marks) k) 1) 0 (now-at j k) ≡ word_bit lent.memory (which.nth k) (a + j)
            here k h j =
                ap (λ (b : Bool). cond (eqb (cond b 0 1) 1) 0 (now-at j k)) (lt-ltb k (rank (marked marks) 256) (omega (arith, all)))
                ∙ ap (now-at j) (sym (rank-of marks c which k h))
                ∙ closed-last (marked marks) further (λ q. word_bit lent.memory q (a + j)) further-by (which.nth k) (which.below k h)
                (marked-of marks (which.nth k) (which.has k h))

            gone : (k : ℕ) → c ≤ k → (j : ℕ) → cond (eqb (beyond_marks (marked marks) k) 1) 0 (now-at j k) ≡ 0
            gone k h j = ap (λ (b : Bool). cond (eqb (cond b 0 1) 1) 0 (now-at j k)) (le-ltb k (rank (marked marks) 256) (omega (arith, all)))

        pub closing-closed : Closed a s n marks c which lent (closing_run a s n marks list items lent)
        closing-closed = subst (Closed a s n marks c which lent) (sym closing-ran) closed-end

      -- with no marks every S is zero
      pub closing-none : ((w : ℕ) → w < 256 → MarkedBy marks w → ⊥) → (w : ℕ) → w < 256 → value (closing_run a s n marks list items lent).memory w s n ≡ 0
      closing-none u w hw = (closing-closed (rank (marked marks) 256) (marks-numbered marks)).zero w (omega (arith, none-counted marks u)) hw
