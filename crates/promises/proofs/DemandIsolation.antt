-- Document 02, Fourteen, of specs/DemandIsolation.antt: the laws of `fields` and `isolation`, and the list with a flip on its two memories. Assumes nothing.
use mathlib.Core.Path.{◌≡◌, refl, sym, ap, ap₂, ◌∙◌}
use mathlib.Core.Bool.{Bool, true, false, cond}
use mathlib.Core.List.{List, ◌∷◌}
use mathlib.Core.Logic.{◌↔◌, ◌≢◌}
use Prim.Native.Nat.{ℕ, zero, suc, ◌+◌, ◌-◌, ◌*◌, ◌/◌, ◌%◌, ◌<◌, ◌≤◌}
use native.Mathlib.Omega.{arith}
use lib.Bits.{bit_xor, xor_zero_r}
use lib.ListN.{length, get_or, replicate, length-append, length-replicate}
use lib.Seq.{get_or-append-add}
use Rattle.bits.specs.Bits.{digit, bit_of}
use Rattle.bits.specs.Search.{first}
use Rattle.bits.specs.Rows.{number_of, FirstRow}
use Rattle.bits.proofs.Rows.{first-number, number-first}
use Rattle.registers.specs.declared.Modes.{Modes}
use Rattle.registers.specs.Modes.{modes_of, wrong_modes}
use Rattle.judge.specs.declared.Lengths.{Lengths}
use Rattle.judge.specs.Instructions.{instruction_at}
use Rattle.judge.specs.Modes.{modes_after}
use Rattle.judge.specs.Judge.{wrong_memory, wrong_registers, unfit, run_rows}
use Rattle.module.specs.Run.{Lent, run_lengths}
use Rattle.builders.specs.Lists.{encoded}
use Rattle.fields.specs.Value.{word_bit, run_of}
use Rattle.fields.specs.Isolation.{breaks}
use Rattle.fields.proofs.Isolation.{isolation, nothing-out}
use Rattle.fields.proofs.IsolatedLists.{sum-isolated, difference-isolated, search-isolated, greatest-broken, closing-broken, spreading-broken}
use Rattle.fields.proofs.Examples.{by-unset, by_zero, by_word, by-started, set-unused, set-later}
use Rattle.fields.proofs.Disturbed.{across-done, across-left}
use Rattle.isolation.specs.Isolation.{ask_rows, isolation_of}
use Rattle.isolation.proofs.Answers.{answers-exactly}
use Rattle.promises.specs.DemandIsolation.{BuiltLists, across, zeros, one_elsewhere, lent_memory, Disturbed, DemandIsolation}

-- ---- 2, 3 and 15

-- a run's number of what it is lent, where neither the memory nor the items have one
same_number : (l : Lengths) (m : Modes) (list : List ℕ) → l.memory ≡ 8192 → unfit 32 l.items ≡ false
    → number_of (ask_rows l.registers m list) ≡ number_of (run_rows l m list)
same_number l m list memory items =
    sym (ap₂ (λ (a d : Bool). cond a 1 (cond (wrong_registers l.registers) 2 (cond (unfit 8 (length list)) 3 (cond d 4 (cond (wrong_modes m) 15 0)))))
    (ap wrong_memory memory) items)

as-run : (l : Lent (List ℕ)) → length l.memory ≡ 8192 → unfit 32 (length l.items) ≡ false → (n : ℕ) → n ≢ 0
    → (let m = modes_of l.registers in FirstRow (ask_rows (length l.registers) m l.list) n ↔ FirstRow (run_rows (run_lengths l) m l.list) n)
as-run l memory items n u =
    let m = modes_of l.registers in
    let ask = ask_rows (length l.registers) m l.list in
    let run = run_rows (run_lengths l) m l.list in
    let e = same_number (run_lengths l) m l.list memory items in
    (λ f. number-first run n u (sym e ∙ first-number ask n f), λ f. number-first ask n u (e ∙ first-number run n f))

-- ---- the lists that are built

built : (m : Modes) → BuiltLists m
built m =
    record {
      sum = λ a b s n list f. sum-isolated a b s n f list m;
      difference = λ a b s n list f. difference-isolated a b s n f list m;
      equal = λ a n number list items f. search-isolated a n f list m false number items;
      less = λ a n number list items f. search-isolated a n f list m true number items;
      greatest = λ a n list f. greatest-broken a n f list m;
      closing = λ a s n marks list items f sized. closing-broken a s n f marks list items sized m;
      spreading = λ a s n marks list items f sized. spreading-broken a s n f marks list items sized m;
    }

-- ---- the list with a flip

zero-at : (n i : ℕ) → get_or {A = ℕ} (replicate n 0) i 0 ≡ 0
zero-at zero i = refl
zero-at (suc n) zero = refl
zero-at (suc n) (suc i) = zero-at n i

-- the two memories are the same behind byte 32
same-behind : (i : ℕ) → 33 ≤ i → get_or zeros i 0 ≡ get_or one_elsewhere i 0
same-behind i h =
    let e : i ≡ 32 + suc (i - 33) = omega arith in
    zero-at 8192 i
    ∙ sym (ap (λ (k : ℕ). get_or one_elsewhere k 0) e ∙ get_or-append-add (replicate 32 0) (1 ∷ replicate 8159 0) (suc (i - 33)) 0 ∙ zero-at 8159 (i - 33))

-- so they differ in no bit of word 0: its bits 0 and 1 are in bytes 0 and 32, and the others behind those
same_word : (b : ℕ) → b < 256 → word_bit zeros 0 b ≡ word_bit one_elsewhere 0 b
unfolding bit_of
same_word zero h = refl
same_word (suc zero) h = refl
same_word (suc (suc c)) h =
    let k : ℕ = 256 * bit_xor (suc (suc c)) 0 + suc (suc c) in
    ap (λ (x : ℕ). digit x (k % 8)) (same-behind (k / 8) (omega (arith, xor_zero_r (suc (suc c)))))

one_size : length one_elsewhere ≡ 8192
one_size = length-append {A = ℕ} (replicate 32 0) (1 ∷ replicate 8159 0) ∙ ap (λ (n : ℕ). 32 + suc n) (length-replicate {A = ℕ} 8159 0)

-- the list on either, and what it leaves
module _ (memory : List ℕ) (size : length memory ≡ 8192) where
  done_on : (run_of across (lent_memory memory)).answer.number ≡ 0
  unfolding encoded wrong_modes
  done_on = across-done (lent_memory memory) size (length-replicate {A = ℕ} 100 0) refl refl

  left-on : word_bit (run_of across (lent_memory memory)).memory 0 1 ≡ word_bit memory 1 0
  unfolding encoded wrong_modes
  left-on = across-left (lent_memory memory) size (length-replicate {A = ℕ} 100 0) refl refl

disturbed : Disturbed
unfolding bit_of isolation_of first breaks instruction_at modes_after wrong_modes
disturbed =
    record {
      agree = record {
        done = done_on zeros (length-replicate {A = ℕ} 8192 0);
        done' = done_on one_elsewhere one_size;
        same = record { word = same_word; bit_m = refl; bit_x = refl; bit_y = refl; modes = refl };
        items = λ t h. refl;
      };
      left = left-on zeros (length-replicate {A = ℕ} 8192 0);
      left' = left-on one_elsewhere one_size;
      named = refl;
    }

pub demand-isolation : DemandIsolation
demand-isolation =
    record {
      undisturbed = λ list l l' p hp low. isolation list low p hp l l';
      quiet = nothing-out;
      exactly = answers-exactly;
      as_run = as-run;
      built = built;
      through_register = record { unset = by-unset; zero = by_zero; word = by_word; started = by-started; unused = set-unused; later = set-later };
      disturbed = disturbed;
    }
