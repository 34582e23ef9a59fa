-- Runs of the lists that the builders write: what a sum and a difference leave, A and B exchanged, and B taken off again. Assumes nothing.
use mathlib.Core.Path.{◌≡◌, refl, sym, ap, ap₂, subst₂, ◌∙◌}
use mathlib.Core.Bool.{false}
use mathlib.Core.Logic.{inl, inr}
use mathlib.Core.List.{List}
use Prim.Native.Nat.{ℕ, ◌+◌, ◌-◌, ◌*◌, ◌%◌, ◌^◌, ◌<◌, ◌≤◌}
use native.Mathlib.Nat.{add_comm}
use native.Mathlib.Omega.{arith}
use lib.ListN.{length}
use Rattle.bits.specs.Bits.{Bytes}
use Rattle.bits.proofs.Digits.{digits_of-lt, digits_of-ext}
use Rattle.bits.proofs.Items.{bit_of-bit}
use Rattle.registers.specs.Modes.{modes_of, wrong_modes}
use Rattle.judge.specs.Judge.{unfit}
use Rattle.module.specs.Run.{Lent}
use Rattle.builders.specs.Lists.{encoded}
use Rattle.builders.specs.Sums.{sum_byte, difference_byte, sum_list, difference_list, Fields, Apart, list_length, fields_fault, sum_built, difference_built}
use Rattle.builders.proofs.ListLaws.{length-bits, sum-length, difference-length}
use Rattle.builders.proofs.Refusals.{no-fault}
use Rattle.fields.specs.Line.{outside_at}
use Rattle.fields.specs.Value.{word_bit, value, list_of, Put, run_of, lent_on, sum_run, difference_run, TakenOff}
use Rattle.builders.proofs.Carries.{turned, no_borrow, put_back}
use Rattle.builders.proofs.Adder.{sum-word, difference-word}
use Rattle.fields.proofs.Sums.{sum-plain, difference-plain, put-plain, put-unique}
use Rattle.fields.proofs.Built.{answer-built, list-built}

-- ---- the list is written

module _ (a b s n : ℕ) (fields : Fields a b s n) (buffer : List ℕ) where
  module _ (room : list_length 1 n ≤ length buffer) where
    sum-sound : fields_fault 1 a b s n (length buffer) ≡ 0
    sum-sound = no-fault 1 a b s n (length buffer) fields room

    pub sum-built : (sum_built a b s n buffer).answer ≡ record { number = 0; count = list_length 1 n }
    unfolding sum_built
    sum-built = answer-built (fields_fault 1 a b s n (length buffer)) (encoded (sum_list a b s n)) buffer (list_length 1 n) sum-sound (sum-length a b s n)

    -- and these are its bytes
    pub sum-listed : list_of (sum_built a b s n buffer) ≡ encoded (sum_list a b s n)
    unfolding sum_built
    sum-listed = list-built (fields_fault 1 a b s n (length buffer)) (encoded (sum_list a b s n)) buffer sum-sound

  module _ (room : list_length 2 n ≤ length buffer) where
    difference-sound : fields_fault 2 a b s n (length buffer) ≡ 0
    difference-sound = no-fault 2 a b s n (length buffer) fields room

    pub difference-built : (difference_built a b s n buffer).answer ≡ record { number = 0; count = list_length 2 n }
    unfolding difference_built
    difference-built = answer-built (fields_fault 2 a b s n (length buffer)) (encoded (difference_list a b s n)) buffer (list_length 2 n) difference-sound (difference-length a b s n)

    pub difference-listed : list_of (difference_built a b s n buffer) ≡ encoded (difference_list a b s n)
    unfolding difference_built
    difference-listed = list-built (fields_fault 2 a b s n (length buffer)) (encoded (difference_list a b s n)) buffer difference-sound

-- ---- the run puts A plus B into S; or A minus B, as A plus what B lacks to 2 ^ n

module _ (a b s n : ℕ) (fields : Fields a b s n) (buffer : List ℕ) (lent : Lent (List ℕ))
    (memory : Bytes lent.memory 8192) (registers : Bytes lent.registers 100) (stands : wrong_modes (modes_of lent.registers) ≡ false)
    (supplied : unfit 32 (length lent.items) ≡ false) where
  pub sum-put : list_length 1 n ≤ length buffer
      → Put (1 + 5 * n) s n (λ w. value lent.memory w a n + value lent.memory w b n) lent (sum_run a b s n buffer lent)
  sum-put room =
      let k : length (sum_list a b s n) ≡ 1 + 5 * n = omega (arith, length-bits sum_byte a b s n) in
      subst₂ (λ (k : ℕ) (l : List ℕ). Put k s n (λ w. value lent.memory w a n + value lent.memory w b n) lent (run_of l lent))
      k (sym (sum-listed a b s n fields buffer room))
      (put-plain (λ z. z) a b s n 0 (sum_list a b s n) (sum-plain a b s n fields) (let w = fields.width in omega arith) fields.fits_s
      lent memory registers stands supplied (λ w. value lent.memory w a n + value lent.memory w b n)
      (λ w h. sum-word a b s n fields.clear_a fields.clear_b (outside_at w lent.items) _ (λ i. bit_of-bit lent.memory _))
      (λ w h. omega arith))

  pub difference-put : list_length 2 n ≤ length buffer
      → Put (2 + 5 * n) s n (λ w. value lent.memory w a n + (2 ^ n - value lent.memory w b n)) lent (difference_run a b s n buffer lent)
  difference-put room =
      let k : length (difference_list a b s n) ≡ 2 + 5 * n = omega (arith, length-bits difference_byte a b s n) in
      subst₂ (λ (k : ℕ) (l : List ℕ). Put k s n (λ w. value lent.memory w a n + (2 ^ n - value lent.memory w b n)) lent (run_of l lent))
      k (sym (difference-listed a b s n fields buffer room))
      (put-plain (λ z. 1 - z) a b s n 1 (difference_list a b s n) (difference-plain a b s n fields) (let w = fields.width in omega arith) fields.fits_s
      lent memory registers stands supplied (λ w. value lent.memory w a n + (2 ^ n - value lent.memory w b n))
      (λ w h. difference-word a b s n fields.clear_a fields.clear_b (outside_at w lent.items) _ (λ i. bit_of-bit lent.memory _))
      (λ w h. let e = turned (λ j. word_bit lent.memory w (b + j)) (λ j. bit_of-bit lent.memory _) n in omega arith))

-- ---- two runs

exchanged : {a b s n : ℕ} → Fields a b s n → Fields b a s n
exchanged f =
    record { some = f.some; width = f.width; fits_a = f.fits_b; fits_b = f.fits_a; fits_s = f.fits_s; clear_a = f.clear_b; clear_b = f.clear_a }

-- B is taken off S, into S
off-itself : {a b s n : ℕ} → Fields a b s n → Fields s b s n
off-itself f =
    record { some = f.some; width = f.width; fits_a = f.fits_s; fits_b = f.fits_b; fits_s = f.fits_s; clear_a = inl refl; clear_b = f.clear_b }

apart_out : (b s n j : ℕ) → Apart s b n → j < n → s ≤ b + j → b + j < s + n → ⊥
apart_out b s n j (inl h) l p q = omega arith
apart_out b s n j (inr h) l p q = omega arith

module _ (a b s n : ℕ) (fields : Fields a b s n) (buffer buffer' : List ℕ) (lent : Lent (List ℕ))
    (memory : Bytes lent.memory 8192) (registers : Bytes lent.registers 100) (stands : wrong_modes (modes_of lent.registers) ≡ false)
    (supplied : unfit 32 (length lent.items) ≡ false) (room : list_length 1 n ≤ length buffer) where
  pub exchange : list_length 1 n ≤ length buffer' → sum_run a b s n buffer lent ≡ sum_run b a s n buffer' lent
  exchange room' =
      put-unique (1 + 5 * n) s n (λ w. value lent.memory w a n + value lent.memory w b n) (λ w. value lent.memory w b n + value lent.memory w a n) lent
      (sum_run a b s n buffer lent) (sum_run b a s n buffer' lent) fields.fits_s
      (λ w h. add_comm (value lent.memory w a n) (value lent.memory w b n))
      (sum-put a b s n fields buffer lent memory registers stands supplied room)
      (sum-put b a s n (exchanged fields) buffer' lent memory registers stands supplied room')

  value-lt : (x : List ℕ) (w start : ℕ) → value x w start n < 2 ^ n
  value-lt x w start = digits_of-lt (λ j. word_bit x w (start + j)) (λ j. bit_of-bit x _) n

  pub taking-off : Apart s b n → list_length 2 n ≤ length buffer'
      → (let r = sum_run a b s n buffer lent in TakenOff a b s n lent r (difference_run s b s n buffer' (lent_on lent r)))
  taking-off apart room' =
      let r = sum_run a b s n buffer lent in
      let h = sum-put a b s n fields buffer lent memory registers stands supplied room in
      let d = difference-put s b s n (off-itself fields) buffer' (lent_on lent r) h.memory h.registers (ap wrong_modes h.keeps_modes ∙ stands) supplied room' in
      record {
        done = d.done;
        field = λ w l. d.field w l
            ∙ ap₂ (λ (x y : ℕ). (x + (2 ^ n - y)) % 2 ^ n) (h.field w l)
            (digits_of-ext _ _ n (λ j q. h.others w (b + j) l (let f = fields.fits_b in omega arith) (apart_out b s n j apart q)))
            ∙ put_back n (value lent.memory w a n) (value lent.memory w b n) (value-lt lent.memory w a) (value-lt lent.memory w b);
        no_borrow = λ w l.
            let e = no_borrow n (value r.memory w s n) (value r.memory w b n) (value-lt r.memory w s) (value-lt r.memory w b) in
            (λ q. e.0 (sym (d.carry w l) ∙ q), λ q. d.carry w l ∙ e.1 q);
        zero_x = d.zero_x;
        keeps_m = d.keeps_m ∙ h.keeps_m;
        keeps_modes = d.keeps_modes ∙ h.keeps_modes;
        others = λ w i l q o. d.others w i l q o ∙ h.others w i l q o;
        quiet = d.quiet;
      }
