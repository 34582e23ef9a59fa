-- What each instruction of closing and spreading makes of every line of a state. Assumes nothing.
use mathlib.Core.Path.{◌≡◌, refl, sym, ap, ap₂, ◌∙◌}
use mathlib.Core.Bool.{Bool, true, false, cond, ◌&&◌}
use mathlib.Core.List.{List}
use Prim.Native.Nat.{ℕ, suc, ◌+◌, ◌-◌, ◌*◌, ◌/◌, ◌%◌, ◌^◌, ◌<◌, ◌≤◌}
use native.Mathlib.Decide.{ℕ_discrete}
use native.Mathlib.Omega.{arith}
use lib.Bits.{bit_xor, xor_zero_r, xor_lt}
use lib.Dec.{eqb}
use lib.Pow.{pow-lt}
use borrow.Author.Tests.{ne_eqb}
use Rattle.bits.specs.Bits.{bit_of}
use Rattle.bits.proofs.Binary.{Bit, off, on}
use Rattle.bits.proofs.Items.{bit_of-bit}
use Rattle.bits.proofs.Xor.{xor-mirror}
use Rattle.memory.specs.Table.{table}
use Rattle.memory.specs.Memory.{cell}
use Rattle.network.specs.Shifts.{permitted}
use Rattle.network.specs.Pass.{unshifted, source}
use Rattle.network.proofs.PassLaws.{unshifted-lt}
use Rattle.network.proofs.TableRules.{none-permitted, pair-permitted}
use Rattle.registers.specs.Logic.{function_bit, new_x, new_y}
use Rattle.judge.specs.declared.Instruction.{Instruction}
use Rattle.judge.specs.Modes.{mode_of}
use Rattle.judge.proofs.FormLaws.{formed-by, shift_passes}
use Rattle.module.specs.Act.{State, part_at, acted}
use Rattle.builders.specs.Lists.{take_y, store_at}
use Rattle.builders.specs.Searches.{clear_x}
use Rattle.closing.specs.Closing.{take_x, take_mask, take_further, store_masked, shift_masked}
use Rattle.builders.specs.Word.{Word, source_bit, after_bit}
use Rattle.fields.specs.Line.{At, word_of, outside_at, came_from}
use Rattle.fields.proofs.LineLaws.{acted-from, came-flipped, at_self}
use Rattle.fields.proofs.Runs.{Quiet}
use Rattle.fields.proofs.OrFlips.{with_x}
use Rattle.fields.proofs.Carried.{carried}

-- ---- they are accepted

shifts_by : (t : ℕ) → t < 8 → permitted (16 * 8 + t) ≡ true
shifts_by t h = pair-permitted 8 t h (omega arith)

pub quiet-take-mask : Quiet take_mask
quiet-take-mask = record { gives_none = refl; formed = λ m. formed-by m _ refl refl refl; keeps-modes = λ m. refl }

pub quiet-take-y : Quiet take_y
quiet-take-y = record { gives_none = refl; formed = λ m. formed-by m _ refl refl refl; keeps-modes = λ m. refl }

pub quiet-store-x : (g : ℕ) → Quiet (store_at 2 g)
quiet-store-x g = record { gives_none = refl; formed = λ m. formed-by m _ refl refl refl; keeps-modes = λ m. refl }

pub quiet-store-masked : (f g : ℕ) → Quiet (store_masked f g)
quiet-store-masked f g = record { gives_none = refl; formed = λ m. formed-by m _ refl refl refl; keeps-modes = λ m. refl }

pub quiet-take-further : (t g : ℕ) → t < 8 → Quiet (take_further t g)
quiet-take-further t g h =
    record { gives_none = refl; formed = λ m. formed-by m (take_further t g) (shift_passes (take_further t g) refl refl (shifts_by t h)) refl refl; keeps-modes = λ m. refl }

pub quiet-shift-masked : (t : ℕ) → t < 8 → Quiet (shift_masked t)
quiet-shift-masked t h =
    record { gives_none = refl; formed = λ m. formed-by m (shift_masked t) (shift_passes (shift_masked t) refl refl (shifts_by t h)) refl refl; keeps-modes = λ m. refl }

-- ---- where a line comes from

-- the lines before
unfoldable pub before : ℕ → ℕ → ℕ
before t p = unshifted 8 t p

-- and, between two mirrors, those further on
unfoldable pub further : ℕ → ℕ → ℕ
further t p = bit_xor (unshifted 8 t (bit_xor p 255)) 255

back_by : (t p : ℕ) → t < 8 → 2 ^ t ≤ p → p < 256 → unshifted 8 t p ≡ p - 2 ^ t
unfolding unshifted
back_by t p ht l h = omega (arith, pow-lt ht)

pub before-by : (t p : ℕ) → t < 8 → 2 ^ t ≤ p → p < 256 → before t p ≡ p - 2 ^ t
unfolding before
before-by = back_by

pub further-by : (t p : ℕ) → t < 8 → p + 2 ^ t < 256 → further t p ≡ p + 2 ^ t
unfolding further
further-by t p ht h =
    let q : 255 - (255 - p - 2 ^ t) ≡ p + 2 ^ t = omega arith in
    ap (λ (x : ℕ). bit_xor (unshifted 8 t x) 255) (xor-mirror p (omega arith))
    ∙ ap (λ (x : ℕ). bit_xor x 255) (back_by t (255 - p) ht (omega arith) (omega arith))
    ∙ xor-mirror (255 - p - 2 ^ t) (omega arith)
    ∙ q

pub further-lt : (t p : ℕ) → t < 8 → p < 256 → further t p < 256
unfolding further
further-lt t p ht hp = xor_lt 8 _ 255 (unshifted-lt 8 8 t _ (omega arith) (xor_lt 8 p 255 hp (omega arith))) (omega arith)

pub before-lt : (t p : ℕ) → t < 8 → p < 256 → before t p < 256
unfolding before
before-lt t p ht hp = unshifted-lt 8 8 t p (omega arith) hp

-- ---- one instruction, at line p

-- Bit b of word p, in a state.
abbrev pub bit_at : State → ℕ → ℕ → ℕ
bit_at s p b = table (cell s.mem) p b

-- A word with another bit g; and with an outside bit taken to M, or to Y.
abbrev pub with_bit : ℕ → ℕ → Word → Word
with_bit g x v = record { bits = λ b. cond (eqb b g) x (v.bits b); m = v.m; x = v.x; y = v.y; taken = v.taken }

abbrev pub taken_m : ℕ → Word → Word
taken_m x v = record { bits = v.bits; m = x; x = v.x; y = v.y; taken = suc v.taken }

abbrev pub taken_y : ℕ → Word → Word
taken_y x v = record { bits = v.bits; m = v.m; x = v.x; y = x; taken = suc v.taken }

-- function 10 takes the passed bit, and function 0 none
takes-over : {x f : ℕ} → Bit x → Bit f → function_bit 10 x f ≡ f
takes-over off off = refl
takes-over off on = refl
takes-over on off = refl
takes-over on on = refl

zeroed : {x f : ℕ} → Bit x → Bit f → function_bit 0 x f ≡ 0
zeroed off off = refl
zeroed off on = refl
zeroed on off = refl
zeroed on on = refl

-- what is written where a test holds and where another does
both-tests : (t u : Bool) (x y : ℕ) → cond (t && u) x y ≡ cond u (cond t x y) y
both-tests true true x y = refl
both-tests true false x y = refl
both-tests false true x y = refl
both-tests false false x y = refl

module _ (items : List ℕ) (s : State) (p : ℕ) (hp : p < 256) where
  acts : (i : Instruction) → mode_of s.regs.modes i ≡ 0 → i.addr < 256 → i.flip < 256 → permitted i.code ≡ true
      → At p (acted i items s) (after_bit i (source_bit i (outside_at (came_from i p) items) (word_of (came_from i p) s)) (word_of p s))
  acts i e hg hf h =
      acted-from p hp i items s (word_of p s) (word_of (came_from i p) s) (record { mode0 = e; inside = hg; flips = hf; shifts = h }) (at_self p s) (at_self (came_from i p) s)

  keeps_line : (i : Instruction) → i.code ≡ 0 → i.flip ≡ 0 → came_from i p ≡ p
  keeps_line i c f = came-flipped i p c ∙ ap (bit_xor p) f ∙ xor_zero_r p

  came-shifted : (i : Instruction) (t : ℕ) → t < 8 → i.code ≡ 16 * 8 + t → came_from i p ≡ bit_xor (unshifted 8 t p) i.flip
  unfolding source
  came-shifted i t h e =
      let hi : i.code / 16 ≡ 8 = omega arith in
      let lo : i.code % 16 ≡ t = omega arith in
      ap₂ (λ (x y : ℕ). bit_xor (unshifted x y p) i.flip) hi lo

  bit-x : (q : ℕ) → Bit (bit_of s.regs.x q)
  bit-x q = bit_of-bit s.regs.x q

  -- X takes bit g of every word
  pub take-x : (g : ℕ) → g < 256 → At p (acted (take_x g) items s) (with_x (bit_at s p g) (word_of p s))
  unfolding after_bit source_bit new_x new_y
  take-x g hg =
      let e = acts (take_x g) refl hg (omega arith) none-permitted in
      record {
        word = e.word;
        bit_m = e.bit_m;
        bit_x = e.bit_x ∙ takes-over (bit-x p) (bit_of-bit s.mem _) ∙ ap (λ (q : ℕ). bit_at s q g) (keeps_line (take_x g) refl refl);
        bit_y = e.bit_y;
        count = e.count;
      }

  -- or, mirrored, that of the words further on
  pub take-further : (t g : ℕ) → t < 8 → g < 256 → At p (acted (take_further t g) items s) (with_x (bit_at s (bit_xor (unshifted 8 t p) 255) g) (word_of p s))
  unfolding after_bit source_bit new_x new_y
  take-further t g ht hg =
      let e = acts (take_further t g) refl hg (omega arith) (shifts_by t ht) in
      record {
        word = e.word;
        bit_m = e.bit_m;
        bit_x = e.bit_x ∙ takes-over (bit-x p) (bit_of-bit s.mem _) ∙ ap (λ (q : ℕ). bit_at s q g) (came-shifted (take_further t g) t ht refl);
        bit_y = e.bit_y;
        count = e.count;
      }

  -- X becomes 0
  pub clear-x : At p (acted clear_x items s) (with_x 0 (word_of p s))
  unfolding after_bit source_bit new_x new_y
  clear-x =
      let e = acts clear_x refl (omega arith) (omega arith) none-permitted in
      record { word = e.word; bit_m = e.bit_m; bit_x = e.bit_x ∙ zeroed (bit-x p) (bit-x _); bit_y = e.bit_y; count = e.count }

  -- where Y is 1, X takes X of the words before
  pub shift-masked : (t : ℕ) → t < 8
      → At p (acted (shift_masked t) items s) (with_x (carried (bit_of s.regs.y) (before t) (bit_of s.regs.x) p) (word_of p s))
  unfolding after_bit source_bit new_x new_y carried before
  shift-masked t ht =
      let e = acts (shift_masked t) refl (omega arith) (omega arith) (shifts_by t ht) in
      let c = came-shifted (shift_masked t) t ht refl ∙ xor_zero_r (unshifted 8 t p) in
      record {
        word = e.word;
        bit_m = e.bit_m;
        bit_x = e.bit_x ∙ ap (λ (f : ℕ). cond (eqb (bit_of s.regs.y p) 1) f (bit_of s.regs.x p)) (takes-over (bit-x p) (bit-x _) ∙ ap (bit_of s.regs.x) c);
        bit_y = e.bit_y;
        count = e.count;
      }

  -- M takes the next item, or Y does
  pub take-mask : At p (acted take_mask items s) (taken_m (outside_at p items s.taken) (word_of p s))
  unfolding after_bit source_bit new_x new_y
  take-mask =
      let e = acts take_mask refl (omega arith) (omega arith) none-permitted in
      record {
        word = e.word;
        bit_m = e.bit_m ∙ ap (λ (q : ℕ). outside_at q items s.taken) (keeps_line take_mask refl refl);
        bit_x = e.bit_x;
        bit_y = e.bit_y;
        count = e.count;
      }

  pub take-y : At p (acted take_y items s) (taken_y (outside_at p items s.taken) (word_of p s))
  unfolding after_bit source_bit new_x new_y
  take-y =
      let e = acts take_y refl (omega arith) (omega arith) none-permitted in
      record {
        word = e.word;
        bit_m = e.bit_m;
        bit_x = e.bit_x;
        bit_y = e.bit_y ∙ takes-over (bit_of-bit s.regs.y p) (bit_of-bit (part_at items s.taken) _)
            ∙ ap (λ (q : ℕ). outside_at q items s.taken) (keeps_line take_y refl refl);
        count = e.count;
      }

  -- X to bit g of every word
  pub store-x : (g : ℕ) → g < 256 → At p (acted (store_at 2 g) items s) (with_bit g (bit_of s.regs.x p) (word_of p s))
  unfolding after_bit source_bit new_x new_y
  store-x g hg =
      let e = acts (store_at 2 g) refl hg (omega arith) none-permitted in
      record {
        word = λ b hb. e.word b hb ∙ ap (λ (q : ℕ). cond (eqb b g) (bit_of s.regs.x q) (bit_at s p b)) (keeps_line (store_at 2 g) refl refl);
        bit_m = e.bit_m;
        bit_x = e.bit_x;
        bit_y = e.bit_y;
        count = e.count;
      }

  -- or of the words that M marks, flipped
  pub store-masked : (f g : ℕ) → f < 256 → g < 256
      → At p (acted (store_masked f g) items s)
      (with_bit g (cond (eqb (bit_of s.regs.m p) 1) (bit_of s.regs.x (bit_xor p f)) (bit_at s p g)) (word_of p s))
  unfolding after_bit source_bit new_x new_y
  store-masked f g hf hg =
      let e = acts (store_masked f g) refl hg hf none-permitted in
      let t = eqb (bit_of s.regs.m p) 1 in
      record {
        word = λ b hb. e.word b hb
            ∙ ap (λ (q : ℕ). cond (t && eqb b g) (bit_of s.regs.x q) (bit_at s p b)) (came-flipped (store_masked f g) p refl)
            ∙ both-tests t (eqb b g) (bit_of s.regs.x (bit_xor p f)) (bit_at s p b)
            ∙ at_g b (ℕ_discrete b g) (λ (y : ℕ). cond t (bit_of s.regs.x (bit_xor p f)) y);
        bit_m = e.bit_m;
        bit_x = e.bit_x;
        bit_y = e.bit_y;
        count = e.count;
      }
    where
      at_g : (b : ℕ) → Dec (b ≡ g) → (h : ℕ → ℕ) → cond (eqb b g) (h (bit_at s p b)) (bit_at s p b) ≡ cond (eqb b g) (h (bit_at s p g)) (bit_at s p b)
      at_g b (yes q) h = ap (λ (z : ℕ). cond (eqb b g) (h (bit_at s p z)) (bit_at s p b)) q
      at_g b (no u) h = ap (λ (c : Bool). cond c (h (bit_at s p b)) (bit_at s p b)) (ne_eqb b g u) ∙ sym (ap (λ (c : Bool). cond c (h (bit_at s p g)) (bit_at s p b)) (ne_eqb b g u))
