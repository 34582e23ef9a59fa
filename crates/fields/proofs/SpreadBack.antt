-- The list that spreads: a slice of S at a time goes through the eight rounds in X, and then into A of the marked words; where each value is after every round. Assumes nothing.
use mathlib.Core.Path.{◌≡◌, sym, ap, ap₂, subst, ◌∙◌}
use mathlib.Core.Bool.{cond}
use mathlib.Core.List.{List, [], ◌∷◌, ◌++◌}
use Prim.Native.Nat.{ℕ, suc, ◌+◌, ◌-◌, ◌*◌, ◌%◌, ◌<◌, ◌≤◌}
use native.Mathlib.Omega.{arith}
use lib.Bits.{xor_zero_r}
use lib.Dec.{eqb}
use Rattle.bits.specs.Bits.{bit_of}
use Rattle.judge.specs.declared.Instruction.{Instruction}
use Rattle.module.specs.Act.{State, acted}
use Rattle.builders.specs.Lists.{take_y, rounds}
use Rattle.closing.specs.Closing.{marked, arrivals, take_x, take_mask, store_masked, spread_round, spread_slice, spreading_list, spreading_item, FieldsApart}
use Rattle.builders.specs.Word.{folded}
use Rattle.builders.proofs.Folds.{folded-append, folded-rounds}
use Rattle.fields.specs.Line.{outside_at}
use Rattle.fields.proofs.Carried.{carried_same, spread_by}
use Rattle.fields.proofs.MoveSteps.{bit_at, before, before-lt, take-x, take-mask, take-y, shift-masked, store-masked}
use Rattle.fields.proofs.Closing.{Slices, slices-more, slices-same, outside, apart-turned}

module _ (marks : List ℕ) (a s n : ℕ) (f : FieldsApart a s n) (items : List ℕ)
    (items-are : (k p : ℕ) → k < 1 + 8 * n → p < 256 → outside_at p items k ≡ spreading_item marks k p) (r₀ : State) (none-taken : r₀.taken ≡ 0) where
  -- the old memory, and slice j of S after k rounds
  abbrev T : ℕ → ℕ → ℕ
  T = bit_at r₀

  abbrev pub spread : ℕ → ℕ → ℕ → ℕ
  spread k j = spread_by (marked marks) before k (λ q. T q (s + j))

  -- slice j of A, before and after
  abbrev pub old : ℕ → ℕ → ℕ
  old j p = T p (a + j)

  abbrev pub new : ℕ → ℕ → ℕ
  new j p = cond (eqb (bit_of marks p) 1) (spread 8 j p) (T p (a + j))

  abbrev run : List Instruction → State → State
  run l r = folded (λ i. acted i items) l r

  -- k slices are done
  record SlicesDone (k : ℕ) (r : State) : Type 0 where
    slices : Slices T a n k new old r
    taken : r.taken ≡ 1 + 8 * k
    mask : (p : ℕ) → p < 256 → bit_of r.regs.m p ≡ bit_of marks p

  -- and so many rounds of the next, which X holds
  record Within (k c : ℕ) (r : State) : Type 0 where
    slices : Slices T a n k new old r
    taken : r.taken ≡ 1 + 8 * k + c
    mask : (p : ℕ) → p < 256 → bit_of r.regs.m p ≡ bit_of marks p
    value : (p : ℕ) → p < 256 → bit_of r.regs.x p ≡ spread c k p

  round-more : (k : ℕ) → k < n → (c : ℕ) (r : State) → c < 8 → Within k c r → Within k (suc c) (run (spread_round c) r)
  unfolding folded spread_by
  round-more k hk c r hc i =
      let t = 7 - c in
      let ht : 7 - c < 8 = omega arith in
      let r₁ = acted take_y items r in
      let y : (p : ℕ) → p < 256 → bit_of r₁.regs.y p ≡ arrivals (marked marks) t t p =
      λ p hp. (take-y items r p hp).bit_y ∙ ap (outside_at p items) (i.taken ∙ next) ∙ items-are (suc (8 * k + c)) p (omega arith) hp
      ∙ ap (λ (x : ℕ). arrivals (marked marks) (7 - x) (7 - x) p) turn in
      let x : (p : ℕ) → p < 256 → bit_of r₁.regs.x p ≡ spread c k p = λ p hp. (take-y items r p hp).bit_x ∙ i.value p hp in
      record {
        slices = slices-same (run (spread_round c) r) f.fits_a (omega arith)
            (λ p b hp hb. (shift-masked items r₁ p hp t ht).word b hb ∙ (take-y items r p hp).word b hb) i.slices;
        taken = (shift-masked items r₁ 0 (omega arith) t ht).count ∙ (take-y items r 0 (omega arith)).count ∙ ap suc i.taken ∙ omega arith;
        mask = λ p hp. (shift-masked items r₁ p hp t ht).bit_m ∙ (take-y items r p hp).bit_m ∙ i.mask p hp;
        value = λ p hp. (shift-masked items r₁ p hp t ht).bit_x
            ∙ carried_same (bit_of r₁.regs.y) (arrivals (marked marks) t t) (before t) (bit_of r₁.regs.x) (spread c k) p (y p hp)
            (x (before t p) (before-lt t p ht hp)) (x p hp);
      }
    where
      next : 1 + 8 * k + c ≡ suc (8 * k + c)
      next = omega arith

      turn : (8 * k + c) % 8 ≡ c
      turn = omega arith

  -- a slice is in X, and no round is done yet
  loaded : (k : ℕ) (r : State) → k < n → SlicesDone k r → Within k 0 (acted (take_x (s + k)) items r)
  unfolding spread_by
  loaded k r h i =
      let hh : s + k < 256 = omega (arith, f.fits_s) in
      record {
        slices = slices-same (acted (take_x (s + k)) items r) f.fits_a (omega arith) (λ p b hp hb. (take-x items r p hp (s + k) hh).word b hb) i.slices;
        taken = (take-x items r 0 (omega arith) (s + k) hh).count ∙ i.taken ∙ omega arith;
        mask = λ p hp. (take-x items r p hp (s + k) hh).bit_m ∙ i.mask p hp;
        value = λ p hp. (take-x items r p hp (s + k) hh).bit_x ∙ i.slices.rest p (s + k) hp hh (outside a s n k (apart-turned s a n f.clear) h);
      }

  -- where the values are after c rounds
  within : (k : ℕ) (r : State) → k < n → SlicesDone k r → (c : ℕ) → c ≤ 8 → Within k c (run (rounds spread_round c) (acted (take_x (s + k)) items r))
  within k r h i c hc = folded-rounds (λ i. acted i items) spread_round 8 (Within k) (round-more k h) c (acted (take_x (s + k)) items r) hc (loaded k r h i)

  slice-more : (k : ℕ) (r : State) → k < n → SlicesDone k r → SlicesDone (suc k) (run (spread_slice a s k) r)
  unfolding folded
  slice-more k r h i =
      let g = a + k in
      let hg : a + k < 256 = omega (arith, f.fits_a) in
      let r₁ = acted (take_x (s + k)) items r in
      let r₂ = run (rounds spread_round 8) r₁ in
      let w = within k r h i 8 (omega arith) in
      subst (SlicesDone (suc k)) (sym (folded-append (λ i. acted i items) (rounds spread_round 8) (store_masked 0 g ∷ []) r₁))
      (record {
        slices = slices-more f.fits_a (acted (store_masked 0 g) items r₂) h w.slices
            (λ p b hp hb. (store-masked items r₂ p hp 0 g (omega arith) hg).word b hb
            ∙ ap₂ (λ (x y : ℕ). cond (eqb b g) (cond (eqb x 1) y (bit_at r₂ p g)) (bit_at r₂ p b)) (w.mask p hp) (ap (bit_of r₂.regs.x) (xor_zero_r p) ∙ w.value p hp)
            ∙ ap (λ (x : ℕ). cond (eqb b g) (cond (eqb (bit_of marks p) 1) (spread 8 k p) x) (bit_at r₂ p b)) (w.slices.todo k p (omega arith) h hp));
        taken = (store-masked items r₂ 0 (omega arith) 0 g (omega arith) hg).count ∙ w.taken ∙ omega arith;
        mask = λ p hp. (store-masked items r₂ p hp 0 g (omega arith) hg).bit_m ∙ w.mask p hp;
      })

  begun-slices : SlicesDone 0 (acted take_mask items r₀)
  begun-slices =
      record {
        slices = record {
          done = λ j p l hp. absurd (omega arith);
          todo = λ j p l q hp. (take-mask items r₀ p hp).word (a + j) (omega (arith, f.fits_a));
          rest = λ p b hp hb u. (take-mask items r₀ p hp).word b hb;
        };
        taken = (take-mask items r₀ 0 (omega arith)).count ∙ ap suc none-taken;
        mask = λ p hp. (take-mask items r₀ p hp).bit_m ∙ ap (outside_at p items) none-taken ∙ items-are 0 p (omega arith) hp;
      }

  sliced : (k : ℕ) → k ≤ n → SlicesDone k (run (rounds (spread_slice a s) k) (acted take_mask items r₀))
  sliced k h = folded-rounds (λ i. acted i items) (spread_slice a s) n SlicesDone slice-more k (acted take_mask items r₀) h begun-slices

  pub all-spread : Slices T a n n new old (run (spreading_list a s n) r₀)
  unfolding folded
  all-spread = (sliced n (omega arith)).slices

  -- X, after k slices and c rounds of the next
  pub on-the-way : (k c p : ℕ) → k < n → c ≤ 8 → p < 256
      → bit_of (run (take_mask ∷ (rounds (spread_slice a s) k ++ (take_x (s + k) ∷ rounds spread_round c))) r₀).regs.x p ≡ spread c k p
  unfolding folded
  on-the-way k c p h hc hp =
      ap (λ (r : State). bit_of r.regs.x p) (folded-append (λ i. acted i items) (rounds (spread_slice a s) k) (take_x (s + k) ∷ rounds spread_round c) (acted take_mask items r₀))
      ∙ (within k _ h (sliced k (omega arith)) c hc).value p hp
