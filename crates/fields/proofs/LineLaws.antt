-- The projection: for each instruction with mode 0, by byte 3 or by a mode register, line P of what it makes of a state is what the one-word machine makes of line P with the source bit of the line that its pass brings there; with no flip and no shift that is line P itself, and so for a list. Assumes nothing.
use mathlib.Core.Path.{◌≡◌, refl, sym, ap, ap₂, subst, ◌∙◌}
use mathlib.Core.Bool.{Bool, true, false, cond, ◌&&◌, ◌||◌}
use mathlib.Core.List.{List, [], ◌∷◌}
use Prim.Native.Nat.{ℕ, zero, suc, ◌+◌, ◌/◌, ◌%◌, ◌<◌}
use native.Mathlib.Nat.{add-zero}
use native.Mathlib.Numerals.{add-one}
use native.Mathlib.Decide.{ℕ_discrete}
use native.Mathlib.Omega.{arith}
use borrow.Author.Tests.{eqb-true, eq-eqb, ne_eqb}
use lib.Bits.{bit_and, bit_xor, and_comm, and_mask, xor_zero_r}
use lib.Dec.{eqb}
use Rattle.bits.specs.Bits.{bit_of, flipped}
use Rattle.bits.proofs.Binary.{Bit}
use Rattle.bits.proofs.Items.{bit_of-bit, bit_of-pack}
use Rattle.memory.specs.Access.{read_bit}
use Rattle.memory.specs.Table.{table, line_bit, line_word, Updated}
use Rattle.memory.specs.Memory.{cell, stored, every}
use Rattle.memory.proofs.AccessLaws.{read-line}
use Rattle.memory.proofs.TableDemand.{store-updates-table}
use Rattle.network.specs.Shifts.{permitted}
use Rattle.network.specs.Pass.{source, passed}
use Rattle.network.proofs.PassLaws.{unshifted-none, source-lt}
use Rattle.network.proofs.TableRules.{none-permitted, shift}
use Rattle.network.proofs.AnswerLaws.{bit_of-passed_item}
use Rattle.registers.specs.declared.Modes.{Modes}
use Rattle.registers.specs.declared.Registers.{Registers}
use Rattle.registers.specs.Logic.{new_x, new_y, logic_of}
use Rattle.registers.specs.Rows.{with_m, with_modes}
use Rattle.registers.proofs.LogicLaws.{logic-X, logic-Y}
use Rattle.judge.specs.declared.Instruction.{Instruction}
use Rattle.judge.specs.Instructions.{instruction_at, takes}
use Rattle.judge.specs.Modes.{modes_by, mode_of}
use Rattle.judge.specs.Judge.{fault_of}
use Rattle.module.specs.Act.{State, part_at, held, held_item, source_item, passed_by, regs_after, mem_after, acted}
use Rattle.module.specs.Run.{ran_by}
use Rattle.module.proofs.ActLaws.{acted-kind, masks-by-line}
use Rattle.builders.specs.Lists.{decoded, Each, none, more}
use Rattle.builders.specs.Word.{Word, held_bit, source_bit, after_bit, acted_word, folded, ran_word}
use Rattle.builders.proofs.Folds.{folded-append}
use Rattle.fields.specs.Line.{At, word_of, outside_at, came_from, Sliced, Local}

-- ---- mode 0 is a bit slice: line p meets bit g of word p

and-ones : (a : ℕ) → a < 256 → bit_and 255 a ≡ a
and-ones a h = and_comm 255 a ∙ and_mask a 8 ∙ omega arith

slice-bit : (g p : ℕ) → g < 256 → line_bit 8 0 g p ≡ g
slice-bit g p h = ap (λ (z : ℕ). bit_xor z 0) (and-ones g h) ∙ xor_zero_r g

slice-word : (g p : ℕ) → p < 256 → line_word 8 0 g p ≡ p
slice-word g p h = and-ones p h

pub read-slice : (mem : List ℕ) (g p : ℕ) → g < 256 → p < 256 → read_bit (cell mem) 0 g p ≡ table (cell mem) p g
read-slice mem g p hg hp =
    read-line 8 0 g p (omega arith) hg hp (cell mem) ∙ ap₂ (table (cell mem)) (slice-word g p hp) (slice-bit g p hg)

-- a table updated under mode 0, word by word
updated-slice : (g : ℕ) (mask f : ℕ → ℕ) (t t' : ℕ → ℕ → ℕ) → g < 256 → Updated 8 0 g mask f t t' → (w b : ℕ) → w < 256 → b < 256
    → t' w b ≡ cond (eqb (mask w) 1 && eqb b g) (f w) (t w b)
updated-slice g mask f t t' hg u w b hw hb = go (ℕ_discrete b g)
  where
    same : (c : Bool) (x y : ℕ) → cond (c && true) x y ≡ cond c x y
    same true x y = refl
    same false x y = refl

    old : (c : Bool) (x y : ℕ) → cond (c && false) x y ≡ y
    old true x y = refl
    old false x y = refl

    go : Dec (b ≡ g) → t' w b ≡ cond (eqb (mask w) 1 && eqb b g) (f w) (t w b)
    go (yes e) =
        ap (t' w) e
        ∙ sym (ap₂ t' (slice-word g w hw) (slice-bit g w hg))
        ∙ u.lines w hw
        ∙ ap (cond (eqb (mask w) 1) (f w)) (ap₂ t (slice-word g w hw) (slice-bit g w hg) ∙ ap (t w) (sym e))
        ∙ sym (ap (λ (c : Bool). cond (eqb (mask w) 1 && c) (f w) (t w b)) (eq-eqb b g e) ∙ same (eqb (mask w) 1) (f w) (t w b))
    go (no q) =
        u.others w b hw hb (λ k hk ew eb. q (eb ∙ slice-bit g k hg))
        ∙ sym (ap (λ (c : Bool). cond (eqb (mask w) 1 && c) (f w) (t w b)) (ne_eqb b g q) ∙ old (eqb (mask w) 1) (f w) (t w b))

pub store-slice : (mem : List ℕ) (g : ℕ) (mask f : ℕ → ℕ) → g < 256 → ((k : ℕ) → Bit (f k)) → (w b : ℕ) → w < 256 → b < 256
    → table (cell (stored mem 0 g mask f)) w b ≡ cond (eqb (mask w) 1 && eqb b g) (f w) (table (cell mem) w b)
store-slice mem g mask f hg bits =
    updated-slice g mask f (table (cell mem)) (table (cell (stored mem 0 g mask f))) hg (store-updates-table mem 0 g mask f (omega arith) hg bits)

-- a masked store: by the word's own M bit, from the source item's line across the flip
pub masked-slice : (i : Instruction) (items : List ℕ) (s : State) → i.kind ≡ 3 → (fault_of s.regs.modes i).number ≡ 0 → mode_of s.regs.modes i ≡ 0 → i.addr < 256
    → (w b : ℕ) → w < 256 → b < 256
    → table (cell (acted i items s).mem) w b
    ≡ cond (eqb (bit_of s.regs.m w) 1 && eqb b i.addr) (flipped (source_item i s.mem items s.regs s.taken) i.flip w) (table (cell s.mem) w b)
masked-slice i items s e good slice hg =
    let mask = bit_of s.regs.m in
    let f = flipped (source_item i s.mem items s.regs s.taken) i.flip in
    updated-slice i.addr mask f (table (cell s.mem)) (table (cell (acted i items s).mem)) hg
    (subst (λ (m : ℕ). Updated 8 m i.addr mask f (table (cell s.mem)) (table (cell (acted i items s).mem))) slice
    (masks-by-line i items s e good (omega arith) hg))

-- ---- one instruction: what it brings to a line

held_at : (p n g : ℕ) (s : State) (v : Word) → p < 256 → g < 256 → At p s v → bit_of (held n 0 g s.mem s.regs) p ≡ held_bit n (v.bits g) v.m v.x v.y
held_at p zero g s v hp hg a = bit_of-pack (read_bit (cell s.mem) 0 g) (λ k. bit_of-bit s.mem _) 32 p hp ∙ read-slice s.mem g p hg hp ∙ a.word g hg
held_at p (suc zero) g s v hp hg a = a.bit_m
held_at p (suc (suc zero)) g s v hp hg a = a.bit_x
held_at p (suc (suc (suc n))) g s v hp hg a = a.bit_y

-- line p of the source item is the source bit of the word that line p is
source-at : (p : ℕ) (i : Instruction) (items : List ℕ) (s : State) (v : Word) → p < 256 → Sliced s.regs.modes i → At p s v
    → bit_of (source_item i s.mem items s.regs s.taken) p ≡ source_bit i (outside_at p items) v
unfolding source_item held_item source_bit
source-at p i items s v hp sl a = go (takes i)
  where
    go : (t : Bool) → bit_of (cond t (part_at items s.taken) (held i.source (mode_of s.regs.modes i) i.addr s.mem s.regs)) p
        ≡ cond t (outside_at p items v.taken) (held_bit i.source (v.bits i.addr) v.m v.x v.y)
    go true = ap (outside_at p items) a.count
    go false =
        ap (λ (z : ℕ). bit_of (held i.source z i.addr s.mem s.regs) p) sl.mode0
        ∙ held_at p i.source i.addr s v hp sl.inside a

pub from-lt : (m : Modes) (i : Instruction) (p : ℕ) → Sliced m i → p < 256 → came_from i p < 256
from-lt m i p sl hp =
    source-lt 8 i.flip (i.code / 16) (i.code % 16) p (shift i.code sl.shifts).within sl.flips hp

-- line p of the passed item is that of the word from which its bit came
pub passed-from : (p : ℕ) (i : Instruction) (items : List ℕ) (s : State) (w : Word) → p < 256 → Sliced s.regs.modes i → At (came_from i p) s w
    → bit_of (passed_by i s.mem items s.regs s.taken) p ≡ source_bit i (outside_at (came_from i p) items) w
unfolding passed_by passed
passed-from p i items s w hp sl a =
    bit_of-passed_item (source_item i s.mem items s.regs s.taken) i.flip i.code p sl.shifts hp
    ∙ source-at (came_from i p) i items s w (from-lt s.regs.modes i p sl hp) sl a

-- with no shift, its bit comes from the line across the flip
pub came-flipped : (i : Instruction) (p : ℕ) → i.code ≡ 0 → came_from i p ≡ bit_xor p i.flip
unfolding source
came-flipped i p e = ap (λ (c : ℕ). source i.flip (c / 16) (c % 16) p) e ∙ ap (λ (z : ℕ). bit_xor z i.flip) (unshifted-none 0 p)

-- ---- and what it makes of the line

-- what was taken, with what it takes
count_at : (n k : ℕ) → n ≡ k → (t : Bool) → n + cond t 1 0 ≡ cond t (suc k) k
count_at n k e true = add-one n ∙ ap suc e
count_at n k e false = add-zero n ∙ e

module _ (p : ℕ) (hp : p < 256) where
  -- what the passed item f does
  module _ (i : Instruction) (f : List ℕ) (s : State) (v : Word) (sl : Sliced s.regs.modes i) (a : At p s v) where
    word_at : (b : ℕ) → b < 256 → table (cell (mem_after i (mode_of s.regs.modes i) s.mem s.regs.m f)) p b
        ≡ cond ((eqb i.kind 2 || (eqb i.kind 3 && eqb v.m 1)) && eqb b i.addr) (bit_of f p) (v.bits b)
    unfolding mem_after
    word_at b hb = go (eqb i.kind 2) (eqb i.kind 3)
      where
        slice : (mask : ℕ → ℕ) → table (cell (stored s.mem (mode_of s.regs.modes i) i.addr mask (bit_of f))) p b
            ≡ cond (eqb (mask p) 1 && eqb b i.addr) (bit_of f p) (v.bits b)
        slice mask =
            ap (λ (z : ℕ). table (cell (stored s.mem z i.addr mask (bit_of f))) p b) sl.mode0
            ∙ store-slice s.mem i.addr mask (bit_of f) sl.inside (bit_of-bit f) p b hp hb
            ∙ ap (cond (eqb (mask p) 1 && eqb b i.addr) (bit_of f p)) (a.word b hb)

        go : (two three : Bool)
            → table (cell (cond two (stored s.mem (mode_of s.regs.modes i) i.addr every (bit_of f))
            (cond three (stored s.mem (mode_of s.regs.modes i) i.addr (bit_of s.regs.m) (bit_of f)) s.mem))) p b
            ≡ cond ((two || (three && eqb v.m 1)) && eqb b i.addr) (bit_of f p) (v.bits b)
        go true three = slice every
        go false true = slice (bit_of s.regs.m) ∙ ap (λ (k : ℕ). cond (eqb k 1 && eqb b i.addr) (bit_of f p) (v.bits b)) a.bit_m
        go false false = a.word b hb

    -- the registers, where the kind is 0, 1 or 6
    abbrev regs_by : Bool → Bool → Bool → Registers
    regs_by zeroth first sixth =
        cond zeroth (logic_of s.regs f i.logic) (cond first (with_m s.regs f) (cond sixth (with_modes s.regs (modes_by i s.regs.modes)) s.regs))

    regs-at : (zeroth first sixth : Bool) → (zeroth ≡ true → first ≡ false)
        → (bit_of (regs_by zeroth first sixth).m p ≡ cond first (bit_of f p) v.m)
        × (bit_of (regs_by zeroth first sixth).x p ≡ cond zeroth (new_x i.logic v.x v.y (bit_of f p)) v.x)
        × (bit_of (regs_by zeroth first sixth).y p ≡ cond zeroth (new_y i.logic v.y (bit_of f p)) v.y)
    unfolding logic_of
    regs-at true first sixth u = (
      a.bit_m ∙ sym (ap (λ (t : Bool). cond t (bit_of f p) v.m) (u refl)),
      logic-X s.regs f i.logic p hp ∙ ap₂ (λ (x y : ℕ). new_x i.logic x y (bit_of f p)) a.bit_x a.bit_y,
      logic-Y s.regs f i.logic p hp ∙ ap (λ (y : ℕ). new_y i.logic y (bit_of f p)) a.bit_y,
    )
    regs-at false true sixth u = (refl, a.bit_x, a.bit_y)
    regs-at false false true u = (a.bit_m, a.bit_x, a.bit_y)
    regs-at false false false u = (a.bit_m, a.bit_x, a.bit_y)

    one-kind : eqb i.kind 0 ≡ true → eqb i.kind 1 ≡ false
    one-kind t = ne_eqb i.kind 1 (λ e. let z = eqb-true i.kind 0 t in omega arith)

  -- the law, for every instruction with mode 0: line p gets the source bit of the line from which its bit comes, by its own M bit
  pub acted-from : (i : Instruction) (items : List ℕ) (s : State) (v w : Word) → Sliced s.regs.modes i → At p s v → At (came_from i p) s w
      → At p (acted i items s) (after_bit i (source_bit i (outside_at (came_from i p) items) w) v)
  unfolding acted after_bit regs_after
  acted-from i items s v w sl a b =
      let f = passed_by i s.mem items s.regs s.taken in
      let r = regs-at i f s v sl a (eqb i.kind 0) (eqb i.kind 1) (eqb i.kind 6) (one-kind i f s v sl a) in
      subst (λ (z : ℕ). At p (acted i items s) (after_bit i z v)) (passed-from p i items s w hp sl b)
      (record {
        word = word_at i f s v sl a;
        bit_m = r.0;
        bit_x = r.1;
        bit_y = r.2;
        count = count_at s.taken v.taken a.count (takes i);
      })

  -- with no flip and no shift that is line p itself
  stays : (m : Modes) (i : Instruction) → Local m i → came_from i p ≡ p
  stays m i lc = came-flipped i p lc.code0 ∙ ap (bit_xor p) lc.flip0 ∙ xor_zero_r p

  sliced-of : (m : Modes) (i : Instruction) → Local m i → Sliced m i
  sliced-of m i lc =
      let f = lc.flip0 in
      let c = lc.code0 in
      record { mode0 = lc.mode0; inside = lc.inside; flips = omega arith; shifts = ap permitted c ∙ none-permitted }

  -- so each instruction that keeps to its line
  pub acted-at : (i : Instruction) (items : List ℕ) (s : State) (v : Word) → Local s.regs.modes i → At p s v → At p (acted i items s) (acted_word i (outside_at p items) v)
  unfolding acted_word
  acted-at i items s v lc a =
      let m = s.regs.modes in
      subst (λ (q : ℕ). At p (acted i items s) (after_bit i (source_bit i (outside_at q items) v) v)) (stays m i lc)
      (acted-from i items s v v (sliced-of m i lc) a (subst (λ (q : ℕ). At q s v) (sym (stays m i lc)) a))

  -- kind 6 leaves the line, whatever the mode is that its tag names
  pub set_at : (i : Instruction) (items : List ℕ) (s : State) (v : Word) → i.kind ≡ 6 → At p s v → At p (acted i items s) (acted_word i (outside_at p items) v)
  unfolding acted_word after_bit
  set_at i items s v e a =
      let f = source_bit i (outside_at p items) v in
      subst (λ (t : State). At p t (acted_word i (outside_at p items) v)) (sym (acted-kind i items s 6 e))
      (record {
        word = λ b h. a.word b h ∙ sym (ap (λ (k : ℕ). cond ((eqb k 2 || (eqb k 3 && eqb v.m 1)) && eqb b i.addr) f (v.bits b)) e);
        bit_m = a.bit_m ∙ sym (ap (λ (k : ℕ). cond (eqb k 1) f v.m) e);
        bit_x = a.bit_x ∙ sym (ap (λ (k : ℕ). cond (eqb k 0) (new_x i.logic v.x v.y f) v.x) e);
        bit_y = a.bit_y ∙ sym (ap (λ (k : ℕ). cond (eqb k 0) (new_y i.logic v.y f) v.y) e);
        count = count_at s.taken v.taken a.count (takes i);
      })

  -- and a list of such ones, whatever the mode registers hold
  pub ran-at : (l : List Instruction) (items : List ℕ) (s : State) (v : Word) → Each (λ i. (m : Modes) → Local m i) l → At p s v
      → At p (folded (λ i. acted i items) l s) (ran_word l (outside_at p items) v)
  unfolding folded
  ran-at [] items s v none a = a
  ran-at (i ∷ l) items s v (more h e) a = ran-at l items (acted i items s) (acted_word i (outside_at p items) v) e (acted-at i items s v (h s.regs.modes) a)

pub at_self : (p : ℕ) (s : State) → At p s (word_of p s)
at_self p s = record { word = λ b h. refl; bit_m = refl; bit_x = refl; bit_y = refl; count = refl }

-- a run of the first n instructions of a list's bytes
pub ran-folded : (list items : List ℕ) (s : State) (n : ℕ) → ran_by list items s n ≡ folded (λ i. acted i items) (decoded list n) s
unfolding ran_by decoded folded
ran-folded list items s zero = refl
ran-folded list items s (suc n) =
    ap (acted (instruction_at list n) items) (ran-folded list items s n)
    ∙ sym (folded-append (λ i. acted i items) (decoded list n) (instruction_at list n ∷ []) s)
