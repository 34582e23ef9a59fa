-- From the one-word machine to the run: the sum and the difference list are plain, what a run of them leaves, and that this fixes every byte. Assumes nothing.
use mathlib.Core.Path.{◌≡◌, refl, sym, ap, subst, ◌∙◌}
use mathlib.Core.Bool.{false}
use mathlib.Core.List.{List}
use Prim.Native.Nat.{ℕ, ◌+◌, ◌-◌, ◌/◌, ◌%◌, ◌^◌, ◌<◌, ◌≤◌}
use native.Mathlib.Decide.{dec_le}
use native.Mathlib.Omega.{arith}
use lib.Dec.{ltb}
use lib.ListN.{length}
use Rattle.bits.specs.Bits.{Bytes, digit, bit_of, digits_of}
use Rattle.bits.proofs.Digits.{digits_of-lt, digits_of-at, digits_of-ext}
use Rattle.bits.proofs.Items.{bit_of-bit}
use Rattle.bits.proofs.ByteLaws.{bytes-ext, zero-item, part_bytes}
use Rattle.registers.specs.declared.Registers.{Registers}
use Rattle.registers.specs.Modes.{modes_of, wrong_modes}
use Rattle.registers.specs.Rows.{registers_of, bytes_of}
use Rattle.registers.proofs.RowLaws.{bytes-registers}
use Rattle.judge.specs.declared.Instruction.{Instruction}
use Rattle.judge.specs.Answers.{Answer}
use Rattle.judge.specs.Judge.{unfit}
use Rattle.module.specs.Act.{State, acted}
use Rattle.module.specs.Run.{Lent, Left, begun}
use Rattle.module.proofs.Good.{Good, begun-good}
use Rattle.builders.specs.Lists.{encoded, Each, none, more}
use Rattle.builders.specs.Sums.{bit_round, bit_rounds, sum_byte, difference_byte, carry_byte, move_byte, sum_list, difference_list, Fields}
use Rattle.builders.specs.Word.{Word, folded, ran_word}
use Rattle.fields.specs.Line.{word_of, outside_at, At}
use Rattle.fields.specs.Value.{word_bit, value, Put, run_of}
use Rattle.builders.proofs.Folds.{each-rounds, each_map}
use Rattle.fields.proofs.LineLaws.{ran-at, at_self}
use Rattle.builders.proofs.Carries.{quotient, rest}
use Rattle.builders.proofs.Adder.{After}
use Rattle.fields.proofs.Whole.{memory-ext}
use Rattle.fields.proofs.Runs.{Quiet, Plain, ran-plain}
use Rattle.fields.proofs.Kept.{end-good, rows, modes-end, registers-end}
use Rattle.fields.proofs.Plain.{plain-from, plain_at, plain-store}

-- ---- the lists are plain

bits-plain : (t a b s n : ℕ) → ltb 4 (t / 16) ≡ false → Fields a b s n → Each Plain (bit_rounds t a b s n)
bits-plain t a b s n choice f =
    each-rounds (λ k. bit_round t (a + k) (b + k) (s + k)) n
    (λ k l.
    more (plain_at sum_byte refl (a + k) (let q = f.fits_a in omega arith))
    (more (plain_at t choice (b + k) (let q = f.fits_b in omega arith))
    (more (plain-store (s + k) (let q = f.fits_s in omega arith)) (more (plain-from carry_byte refl) (more (plain-from move_byte refl) none)))))

pub sum-plain : (a b s n : ℕ) → Fields a b s n → Each Plain (sum_list a b s n)
sum-plain a b s n f = more (plain-from 32 refl) (bits-plain sum_byte a b s n refl f)

pub difference-plain : (a b s n : ℕ) → Fields a b s n → Each Plain (difference_list a b s n)
difference-plain a b s n f = more (plain-from 32 refl) (more (plain-from 31 refl) (bits-plain difference_byte a b s n refl f))

-- ---- what a plain list leaves that has the adder's invariant at each word

module _ (u : ℕ → ℕ) (a b s n c : ℕ) (l : List Instruction) (plain : Each Plain l) (few : length l ≤ 4096) (fits_s : s + n ≤ 256)
    (lent : Lent (List ℕ)) (memory : Bytes lent.memory 8192) (registers : Bytes lent.registers 100)
    (stands : wrong_modes (modes_of lent.registers) ≡ false) (supplied : unfit 32 (length lent.items) ≡ false) where
  abbrev begin : State
  begin = begun lent (registers_of lent.registers)

  abbrev end : State
  end = folded (λ i. acted i lent.items) l begin

  abbrev word_end : ℕ → Word
  word_end w = ran_word l (outside_at w lent.items) (word_of w begin)

  module _ (t : ℕ → ℕ) (after : (w : ℕ) → w < 256 → After u a b s c (word_of w begin) n (word_end w))
      (total : (w : ℕ) → w < 256 → value lent.memory w a n + (digits_of (λ j. u (word_bit lent.memory w (b + j))) n + c) ≡ t w) where
    line : (w : ℕ) → w < 256 → At w end (word_end w)
    line w h = ran-at w h l lent.items begin (word_of w begin) (each_map (λ i p. p.local) plain) (at_self w begin)

    quiet : Each Quiet l
    quiet = each_map (λ i p. p.quiet) plain

    good : Good end
    good = end-good l lent memory registers lent.items

    same_regs : registers_of (bytes_of end.regs) ≡ end.regs
    same_regs = rows l lent memory registers lent.items

    field_end : (w : ℕ) → w < 256 → value end.mem w s n ≡ digits_of (λ j. (word_end w).bits (s + j)) n
    field_end w h = digits_of-ext _ _ n (λ j q. (line w h).word (s + j) (omega arith))

    small : (w : ℕ) → w < 256 → digits_of (λ j. (word_end w).bits (s + j)) n < 2 ^ n
    small w h = digits_of-lt (λ j. (word_end w).bits (s + j)) (λ j. (after w h).low (s + j)) n

    pub put-plain : Put (length l) s n t lent (run_of (encoded l) lent)
    put-plain =
        subst (Put (length l) s n t lent) (sym (ran-plain l plain few lent memory.size registers.size stands supplied))
        (record {
          done = refl;
          field = λ w h. field_end w h ∙ rest n _ (word_end w).y (t w) (small w h) ((after w h).total ∙ total w h);
          carry = λ w h. ap (λ (r : Registers). bit_of r.y w) same_regs ∙ (line w h).bit_y ∙ quotient n _ (word_end w).y (t w) (small w h) ((after w h).total ∙ total w h);
          zero_x = ap (λ (r : Registers). r.x) same_regs ∙ zero-item end.regs.x good.x-ok (λ w h. (line w h).bit_x ∙ (after w h).zero_x);
          keeps_m = ap (λ (r : Registers). r.m) same_regs ∙ bytes-ext end.regs.m begin.regs.m 32 good.m-ok (begun-good lent memory registers).m-ok (λ w h. (line w h).bit_m ∙ (after w h).keeps_m);
          keeps_modes = modes-end l lent memory registers lent.items quiet;
          others = λ w i h q o. (line w h).word i q ∙ (after w h).other i o;
          memory = good.mem_ok;
          registers = registers-end l lent memory registers lent.items quiet;
          quiet = refl;
        })

-- ---- what is left is fixed, every byte of it

module _ (steps s n : ℕ) (t t' : ℕ → ℕ) (lent : Lent (List ℕ)) (r r' : Left (List ℕ) Answer) (fits : s + n ≤ 256) (same : (w : ℕ) → w < 256 → t w ≡ t' w)
    (f : Put steps s n t lent r) (g : Put steps s n t' lent r') where
  digit-of : (x : List ℕ) (w j : ℕ) → j < n → digit (value x w s n) j ≡ word_bit x w (s + j)
  digit-of x w j h = digits_of-at (λ i. word_bit x w (s + i)) (λ i. bit_of-bit x _) n j h

  same_word : (w b : ℕ) → w < 256 → b < 256 → word_bit r.memory w b ≡ word_bit r'.memory w b
  same_word w b hw hb = go (dec_le s b) (dec_le (s + n) b)
    where
      outside : (s ≤ b → b < s + n → ⊥) → word_bit r.memory w b ≡ word_bit r'.memory w b
      outside o = f.others w b hw hb o ∙ sym (g.others w b hw hb o)

      go : Dec (s ≤ b) → Dec (s + n ≤ b) → word_bit r.memory w b ≡ word_bit r'.memory w b
      go (no l) d = outside (λ x y. l x)
      go (yes l) (yes q) = outside (λ x y. omega arith)
      go (yes l) (no q) =
          let e : s + (b - s) ≡ b = omega arith in
          ap (word_bit r.memory w) (sym e)
          ∙ sym (digit-of r.memory w (b - s) (omega arith))
          ∙ ap (λ (x : ℕ). digit x (b - s)) (f.field w hw ∙ ap (λ (x : ℕ). x % 2 ^ n) (same w hw) ∙ sym (g.field w hw))
          ∙ digit-of r'.memory w (b - s) (omega arith)
          ∙ ap (word_bit r'.memory w) e

  same-y : (registers_of r.registers).y ≡ (registers_of r'.registers).y
  same-y =
      bytes-ext (registers_of r.registers).y (registers_of r'.registers).y 32
      (part_bytes r.registers 100 64 32 (omega arith) f.registers) (part_bytes r'.registers 100 64 32 (omega arith) g.registers)
      (λ w h. f.carry w h ∙ ap (λ (x : ℕ). x / 2 ^ n) (same w h) ∙ sym (g.carry w h))

  same_rows : registers_of r.registers ≡ registers_of r'.registers
  same_rows = λ i.
      record {
        m = (f.keeps_m ∙ sym g.keeps_m) i;
        x = (f.zero_x ∙ sym g.zero_x) i;
        y = same-y i;
        modes = (f.keeps_modes ∙ sym g.keeps_modes) i;
      }

  pub put-unique : r ≡ r'
  put-unique =
      let em = memory-ext r.memory r'.memory f.memory g.memory same_word in
      let er = sym (bytes-registers r.registers f.registers.size) ∙ ap bytes_of same_rows ∙ bytes-registers r'.registers g.registers.size in
      let eo = f.quiet ∙ sym g.quiet in
      let ea = f.done ∙ sym g.done in
      λ i. record { memory = em i; registers = er i; out = eo i; answer = ea i }
