-- The run of the list for the greatest: of the words that Y marked it marks those with the greatest value, ties and all; and none if none was marked. Assumes nothing.
use mathlib.Core.Path.{◌≡◌, refl, sym, ap, subst, subst₂, fun_ext, ◌∙◌}
use mathlib.Core.Bool.{false}
use mathlib.Core.Logic.{◌↔◌}
use mathlib.Core.List.{List, [], ◌∷◌}
use Prim.Native.Nat.{ℕ, suc, ◌+◌, ◌-◌, ◌*◌, ◌/◌, ◌%◌, ◌^◌, ◌<◌, ◌≤◌}
use native.Mathlib.Nat.{div-one, div-eq_of_lt}
use native.Mathlib.Omega.{arith}
use lib.Dec.{ltb}
use lib.ListN.{length, replicate}
use lib.Pow.{shr-shr}
use Rattle.bits.specs.Bits.{Bytes, bit_of}
use Rattle.bits.proofs.Binary.{Bit, off as bit-off, on as bit-on, low_bit, digit-bit}
use Rattle.bits.proofs.Digits.{digits_of-lt, digits_of-at}
use Rattle.bits.proofs.Items.{bit_of-bit}
use Rattle.bits.proofs.ByteLaws.{zero-item}
use Rattle.registers.specs.Logic.{function_bit, new_x, new_y}
use Rattle.registers.specs.Modes.{modes_of, wrong_modes}
use Rattle.registers.specs.Rows.{registers_of}
use Rattle.judge.specs.declared.Instruction.{Instruction}
use Rattle.judge.specs.Instructions.{takes}
use Rattle.judge.specs.Judge.{unfit}
use Rattle.judge.proofs.FormLaws.{formed-by}
use Rattle.module.specs.Act.{State, acted}
use Rattle.module.specs.Run.{Lent, begun}
use Rattle.builders.specs.Lists.{logic_at, encoded, rounds, Each, none, more}
use Rattle.builders.specs.Field.{Field}
use Rattle.builders.specs.Searches.{clear_x, take_marked, or_flip, or_flipped, without, unmark, greatest_round, greatest_list, greatest_length, greatest_fault, greatest_built}
use Rattle.builders.specs.Word.{Word, source_bit, after_bit, acted_word, folded}
use Rattle.builders.proofs.Folds.{folded-append, folded-rounds, each_append, each-rounds}
use Rattle.builders.proofs.ListLaws.{length-greatest-rounds, greatest-length}
use Rattle.builders.proofs.SearchRefusals.{greatest-no-fault}
use Rattle.builders.proofs.Marks.{Mark, on, off, bit-mark, mark-iff, mark-map}
use Rattle.fields.specs.Line.{At, word_of, outside_at}
use Rattle.fields.specs.Value.{word_bit, value, list_of, run_of}
use Rattle.fields.specs.Marks.{greatest_run, Marked, Greatest, Marks}
use Rattle.fields.proofs.LineLaws.{acted-at, ran-at, at_self}
use Rattle.fields.proofs.Runs.{Quiet, taken_none}
use Rattle.fields.proofs.Kept.{end-good, marks-logic, marks-map}
use Rattle.fields.proofs.OrFlips.{with_x, any-all}
use Rattle.fields.proofs.Topmost.{Top, Some, top-more, top-there}
use Rattle.fields.proofs.Plain.{plain-from, plain_at}
use Rattle.fields.proofs.Built.{answer-built, list-built}

-- ---- the list's instructions

each-greatest : {P : Instruction → Type 0} (a n : ℕ) → P clear_x → ((g : ℕ) → g < a + n → P (take_marked g) × P (without g))
    → ((e : ℕ) → e < 8 → P (or_flip e)) → P unmark → Each P (greatest_list a n)
each-greatest a n clear at flips last =
    more clear
    (each-rounds (λ k. greatest_round (a + (n - suc k))) n
    (λ k h.
    let both = at (a + (n - suc k)) (omega arith) in
    more both.0 (each_append (each-rounds or_flipped 8 (λ e l. more (flips e l) none)) (more both.1 (more last none)))))

pub greatest-logic : (a n : ℕ) → Each (λ i. i.kind ≡ 0) (greatest_list a n)
greatest-logic a n = each-greatest a n refl (λ g h. (refl, refl)) (λ e h. refl) refl

greatest-idle : (a n : ℕ) → Each (λ i. takes i ≡ false) (greatest_list a n)
greatest-idle a n = each-greatest a n refl (λ g h. (refl, refl)) (λ e h. refl) refl

quiet-flip : (e : ℕ) → Quiet (or_flip e)
quiet-flip e = record { gives_none = refl; formed = λ m. formed-by m _ refl refl refl; keeps-modes = λ m. refl }

greatest-quiet : (a n : ℕ) → a + n ≤ 256 → Each Quiet (greatest_list a n)
greatest-quiet a n fit =
    each-greatest a n (plain-from clear_x.logic refl).quiet
    (λ g h. (at g (take_marked g).logic refl (omega arith), at g (without g).logic refl (omega arith)))
    (λ e h. quiet-flip e)
    (plain-from unmark.logic refl).quiet
  where
    at : (g t : ℕ) → ltb 4 (t / 16) ≡ false → g < 256 → Quiet (logic_at g t)
    at g t choice h = (plain_at t choice g h).quiet

-- ---- a round: of the greatest by the bits so far, those that have bit g; or all of them, if none has it

-- A word with X 0 and this Y.
abbrev with_y : ℕ → Word → Word
with_y y v = record { bits = v.bits; m = v.m; x = 0; y = y; taken = v.taken }

-- X takes the bit where Y is 1
take-mark : {y b : ℕ} → Bit y → Bit b → Mark ((y ≡ 1) × (b ≡ 1)) (new_x (take_marked 0).logic 0 y b)
unfolding new_x
take-mark bit-on bit-on = on (refl, refl)
take-mark bit-on bit-off = off (λ z. omega (arith, z.1))
take-mark bit-off bit-on = off (λ z. omega (arith, z.0))
take-mark bit-off bit-off = off (λ z. omega (arith, z.0))

-- X without X, and X cleared
without-itself : {x : ℕ} → Bit x → function_bit 4 x x ≡ 0
without-itself bit-off = refl
without-itself bit-on = refl

cleared : {x : ℕ} → Bit x → function_bit 0 x x ≡ 0
cleared bit-off = refl
cleared bit-on = refl

-- v has bit g of word p of s₀ as its lowest, and s is s₀ with X 0 and a Y of its own
module _ (items : List ℕ) (s₀ : State) (g : ℕ) (hg : g < 256) (v : ℕ → ℕ) (low : (p : ℕ) → word_bit s₀.mem p g ≡ v p % 2)
    (s : State) (line : (p : ℕ) → p < 256 → At p s (with_y (bit_of s.regs.y p) (word_of p s₀))) where
  abbrev s₁ : State
  s₁ = acted (take_marked g) items s

  abbrev s₂ : State
  s₂ = folded (λ i. acted i items) (rounds or_flipped 8) s₁

  abbrev s₃ : State
  s₃ = folded (λ i. acted i items) (without g ∷ unmark ∷ []) s₂

  -- where b is its bit
  abbrev taken : ℕ → ℕ → Word
  taken p b = with_x (new_x (take_marked g).logic 0 (bit_of s.regs.y p) b) (with_y (bit_of s.regs.y p) (word_of p s₀))

  taken_at : (p : ℕ) → p < 256 → At p s₁ (taken p (v p % 2))
  unfolding acted_word after_bit source_bit new_y
  taken_at p hp =
      subst (λ (b : ℕ). At p s₁ (taken p b)) (low p)
      (acted-at p hp (take_marked g) items s _ ((plain_at (take_marked g).logic refl g hg).local s.regs.modes) (line p hp))

  -- X is 1 on every line if some marked word has the bit
  some : (p : ℕ) → p < 256 → Mark (Some (bit_of s.regs.y) v) (bit_of s₂.regs.x p)
  some p hp =
      mark-map (
        λ z. let e = (has z.0).0 (sym (taken_at z.0 z.1).bit_x ∙ z.2) in (z.0, z.1, e.0, e.1),
        λ z. (z.0, z.1, (taken_at z.0 z.1).bit_x ∙ (has z.0).1 (z.2, z.3)),
      )
      ((any-all items s₁).marks p hp)
    where
      has : (q : ℕ) → (new_x (take_marked g).logic 0 (bit_of s.regs.y q) (v q % 2) ≡ 1) ↔ ((bit_of s.regs.y q ≡ 1) × (v q % 2 ≡ 1))
      has q = mark-iff (take-mark (bit_of-bit s.regs.y q) (low_bit (v q)))

  -- where l is 1 if it loses: some marked word has the bit, and this one has not
  abbrev unmarked : ℕ → ℕ → Word
  unmarked p l = with_x (function_bit 4 l l) (with_y (function_bit 4 (bit_of s.regs.y p) l) (word_of p s₀))

  unmarked-at : (p : ℕ) → p < 256 → At p s₃ (unmarked p (function_bit 4 (bit_of s₂.regs.x p) (v p % 2)))
  unfolding folded acted_word after_bit source_bit new_x new_y
  unmarked-at p hp =
      subst (λ (b : ℕ). At p s₃ (unmarked p (function_bit 4 (bit_of s₂.regs.x p) b))) (low p)
      (ran-at p hp (without g ∷ unmark ∷ []) items s₂ _
      (more (plain_at (without g).logic refl g hg).local (more (plain-from unmark.logic refl).local none))
      ((any-all items s₁).same p _ hp (taken_at p hp)))

  round-line : (p : ℕ) → p < 256 → At p s₃ (with_y (bit_of s₃.regs.y p) (word_of p s₀))
  round-line p hp =
      let e = unmarked-at p hp in
      record { word = e.word; bit_m = e.bit_m; bit_x = e.bit_x ∙ without-itself (digit-bit 4 _); bit_y = refl; count = e.count }

  round-tops : (y : ℕ → ℕ) → ((p : ℕ) → p < 256 → Mark (Top y (λ q. v q / 2) p) (bit_of s.regs.y p))
      → (p : ℕ) → p < 256 → Mark (Top y v p) (bit_of s₃.regs.y p)
  round-tops y tops p hp =
      subst (Mark (Top y v p)) (sym (unmarked-at p hp).bit_y) (top-more y (bit_of s.regs.y) v tops p hp (some p hp) (bit-mark (low_bit (v p))))

-- ---- all rounds

-- what k rounds leave: Y marks the greatest by the k highest bits
record After (s₀ : State) (a n k : ℕ) (s : State) : Type 0 where
  line : (p : ℕ) → p < 256 → At p s (with_y (bit_of s.regs.y p) (word_of p s₀))
  tops : (p : ℕ) → p < 256 → Mark (Top (bit_of s₀.regs.y) (λ q. value s₀.mem q a n / 2 ^ (n - k)) p) (bit_of s.regs.y p)

module _ (a n : ℕ) (fit : a + n ≤ 256) (items : List ℕ) (s₀ : State) where
  start : After s₀ a n 0 (acted clear_x items s₀)
  unfolding acted_word after_bit source_bit new_x new_y
  start = record {
    line = λ p hp.
        let e = at p hp in
        record { word = e.word; bit_m = e.bit_m; bit_x = e.bit_x ∙ cleared (bit_of-bit s₀.regs.x p); bit_y = refl; count = e.count };
    tops = λ p hp.
        subst (Mark (Top (bit_of s₀.regs.y) (λ q. value s₀.mem q a n / 2 ^ (n - 0)) p)) (sym (at p hp).bit_y)
        (mark-map (λ e. (e, λ q hq m. omega (arith, no_bits p, no_bits q)), λ t. t.0) (bit-mark (bit_of-bit s₀.regs.y p)));
  }
    where
      at : (p : ℕ) → p < 256 → At p (acted clear_x items s₀) (acted_word clear_x (outside_at p items) (word_of p s₀))
      at p hp = acted-at p hp clear_x items s₀ (word_of p s₀) ((plain-from clear_x.logic refl).local s₀.regs.modes) (at_self p s₀)

      no_bits : (q : ℕ) → value s₀.mem q a n / 2 ^ (n - 0) ≡ 0
      no_bits q =
          let e : n - 0 ≡ n = omega arith in
          ap (λ (z : ℕ). value s₀.mem q a n / 2 ^ z) e ∙ div-eq_of_lt (digits_of-lt (λ j. word_bit s₀.mem q (a + j)) (λ j. bit_of-bit s₀.mem _) n)

  round : (k : ℕ) (s : State) → k < n → After s₀ a n k s → After s₀ a n (suc k) (folded (λ i. acted i items) (greatest_round (a + (n - suc k))) s)
  unfolding folded
  round k s h i =
      subst (After s₀ a n (suc k)) (sym (folded-append (λ i. acted i items) (rounds or_flipped 8) (without g ∷ unmark ∷ []) (acted (take_marked g) items s)))
      (record {
        line = round-line items s₀ g (omega arith) v low s i.line;
        tops = round-tops items s₀ g (omega arith) v low s i.line (bit_of s₀.regs.y)
            (λ p hp. subst (λ (f : ℕ → ℕ). Mark (Top (bit_of s₀.regs.y) f p) (bit_of s.regs.y p)) (fun_ext half) (i.tops p hp));
      })
    where
      j : ℕ
      j = n - suc k

      g : ℕ
      g = a + j

      v : ℕ → ℕ
      v q = value s₀.mem q a n / 2 ^ j

      low : (p : ℕ) → word_bit s₀.mem p g ≡ v p % 2
      low p = sym (digits_of-at (λ i. word_bit s₀.mem p (a + i)) (λ i. bit_of-bit s₀.mem _) n j (omega arith))

      half : (q : ℕ) → value s₀.mem q a n / 2 ^ (n - k) ≡ v q / 2
      half q =
          let e : n - k ≡ j + 1 = omega arith in
          ap (λ (z : ℕ). value s₀.mem q a n / 2 ^ z) e ∙ sym (shr-shr (value s₀.mem q a n) j 1)

  greatest-after : After s₀ a n n (folded (λ i. acted i items) (greatest_list a n) s₀)
  unfolding folded
  greatest-after =
      folded-rounds (λ i. acted i items) (λ k. greatest_round (a + (n - suc k))) n (After s₀ a n) round n (acted clear_x items s₀) (omega arith) start

  greatest-tops : (p : ℕ) → p < 256
      → Mark (Top (bit_of s₀.regs.y) (λ q. value s₀.mem q a n) p) (bit_of (folded (λ i. acted i items) (greatest_list a n) s₀).regs.y p)
  greatest-tops p hp =
      subst (λ (f : ℕ → ℕ). Mark (Top (bit_of s₀.regs.y) f p) (bit_of (folded (λ i. acted i items) (greatest_list a n) s₀).regs.y p)) (fun_ext all)
      (greatest-after.tops p hp)
    where
      all : (q : ℕ) → value s₀.mem q a n / 2 ^ (n - n) ≡ value s₀.mem q a n
      all q = let e : n - n ≡ 0 = omega arith in ap (λ (z : ℕ). value s₀.mem q a n / 2 ^ z) e ∙ div-one (value s₀.mem q a n)

-- ---- the run of the list that the builder wrote

-- what the rounds mark is what the page says of a word: it was marked, and no marked word has more
top-greatest : (a n : ℕ) (lent : Lent (List ℕ)) (w : ℕ)
    → Top (bit_of (registers_of lent.registers).y) (λ q. value lent.memory q a n) w ↔ Greatest a n lent w
top-greatest a n lent w = (λ t. (t.0, λ v h m. t.1 v h m), λ g. (g.0, λ v h m. g.1 v h m))

module _ (a n : ℕ) (field : Field a n) (list : List ℕ) (room : greatest_length n ≤ length list) where
  greatest-fault : greatest_fault a n (length list) ≡ 0
  greatest-fault = greatest-no-fault a n (length list) field room

  pub greatest-written : (greatest_built a n list).answer ≡ record { number = 0; count = greatest_length n }
  unfolding greatest_built
  greatest-written =
      answer-built (greatest_fault a n (length list)) (encoded (greatest_list a n)) list (greatest_length n) greatest-fault (greatest-length a n)

  pub greatest-listed : list_of (greatest_built a n list) ≡ encoded (greatest_list a n)
  unfolding greatest_built
  greatest-listed = list-built (greatest_fault a n (length list)) (encoded (greatest_list a n)) list greatest-fault

  module _ (lent : Lent (List ℕ)) (memory : Bytes lent.memory 8192) (registers : Bytes lent.registers 100)
      (stands : wrong_modes (modes_of lent.registers) ≡ false) (supplied : unfit 32 (length lent.items) ≡ false) where
    pub greatest-marks : Marks (1 + 11 * n) 0 (Greatest a n lent) (λ y. replicate 32 0) lent (greatest_run a n list lent)
    greatest-marks =
        let steps : length (greatest_list a n) ≡ 1 + 11 * n = omega (arith, length-greatest-rounds a n n) in
        let idle = taken_none (greatest-idle a n) in
        let s₀ = begun lent (registers_of lent.registers) in
        subst (λ (l : List ℕ). Marks (1 + 11 * n) 0 (Greatest a n lent) (λ y. replicate 32 0) lent (run_of l lent)) (sym greatest-listed)
        (subst₂ (λ (k t : ℕ). Marks k t (Greatest a n lent) (λ y. replicate 32 0) lent (run_of (encoded (greatest_list a n)) lent)) steps idle
        (marks-logic (greatest_list a n) lent memory registers lent.items stands
        (greatest-quiet a n field.fits) (greatest-logic a n) (omega arith) supplied (omega arith) (Greatest a n lent) (λ y. replicate 32 0)
        (λ p hp. mark-iff (mark-map (top-greatest a n lent p) (greatest-tops a n field.fits lent.items s₀ p hp)))
        (zero-item _ (end-good (greatest_list a n) lent memory registers lent.items).x-ok
        (λ p hp. ((greatest-after a n field.fits lent.items s₀).line p hp).bit_x))))

    -- the same where Y marks the words with P, and the memory is this one: as after another search
    pub greatest-of : (P : ℕ → Type 0) (mem : List ℕ) → ((w : ℕ) → w < 256 → Marked lent.registers w ↔ P w) → lent.memory ≡ mem
        → Marks (1 + 11 * n) 0 (λ w. P w × ((v : ℕ) → v < 256 → P v → value mem v a n ≤ value mem w a n)) (λ y. replicate 32 0) lent (greatest_run a n list lent)
    greatest-of P mem marks e =
        marks-map (λ w h. (
          λ g. ((marks w h).0 g.0, λ v q p. subst (λ (m : List ℕ). value m v a n ≤ value m w a n) e (g.1 v q ((marks v q).1 p))),
          λ g. ((marks w h).1 g.0, λ v q p. subst (λ (m : List ℕ). value m v a n ≤ value m w a n) (sym e) (g.1 v q ((marks v q).0 p))),
        )) greatest-marks

    -- "If none is marked, none is at the end"
    pub greatest-none : ((w : ℕ) → w < 256 → Marked lent.registers w → ⊥) → (w : ℕ) → w < 256 → Marked (greatest_run a n list lent).registers w → ⊥
    greatest-none u w h m = u w h ((greatest-marks.marks w h).0 m).0

    -- and if one is, one is
    pub greatest-some : (w : ℕ) → w < 256 → Marked lent.registers w → (v : ℕ) × (v < 256) × Marked (greatest_run a n list lent).registers v
    greatest-some w h m =
        let t = top-there (bit_of (registers_of lent.registers).y) (λ q. value lent.memory q a n) w h m in
        (t.0, t.1, (greatest-marks.marks t.0 t.1).1 t.2)
