-- The list that closes up: slice by slice S is copied, closed up by the eight rounds, and cleared behind the last value; where each value is after every round. Assumes nothing.
use mathlib.Core.Path.{◌≡◌, refl, sym, ap, ap₂, subst, ◌∙◌}
use mathlib.Core.Bool.{Bool, cond}
use mathlib.Core.Logic.{inl, inr}
use mathlib.Core.List.{List, ◌++◌}
use Prim.Native.Nat.{ℕ, suc, ◌+◌, ◌<◌, ◌≤◌}
use native.Mathlib.Decide.{ℕ_discrete}
use native.Mathlib.Omega.{arith}
use lib.Bits.{bit_xor, xor_zero_r, xor_lt}
use lib.Dec.{eqb}
use borrow.Author.Tests.{eq-eqb, ne_eqb, lt-ltb}
use Rattle.bits.specs.Bits.{bit_of}
use Rattle.network.specs.Pass.{unshifted}
use Rattle.judge.specs.declared.Instruction.{Instruction}
use Rattle.module.specs.Act.{State, acted}
use Rattle.builders.specs.Lists.{store_at, rounds}
use Rattle.builders.specs.Sums.{Apart}
use Rattle.builders.specs.Searches.{clear_x}
use Rattle.closing.specs.Closing.{arrivals, take_x, take_mask, take_further, store_masked, copy_slice, close_slice, close_round, clear_slice, closing_list, beyond_marks, closing_item, FieldsApart}
use Rattle.builders.specs.Word.{folded}
use Rattle.builders.proofs.Folds.{folded-append, folded-rounds}
use Rattle.fields.specs.Line.{outside_at}
use Rattle.fields.proofs.Carried.{carried, carried_same, closed_by}
use Rattle.fields.proofs.MoveSteps.{bit_at, further, further-lt, take-x, take-further, take-mask, clear-x, store-x, store-masked}

-- ---- a field that is worked on slice by slice

-- Of the n slices from s on the first k are new and the others old, and every other bit of the words is T's.
pub record Slices (T : ℕ → ℕ → ℕ) (s n k : ℕ) (new old : ℕ → ℕ → ℕ) (r : State) : Type 0 where
  pub done : (j p : ℕ) → j < k → p < 256 → bit_at r p (s + j) ≡ new j p
  pub todo : (j p : ℕ) → k ≤ j → j < n → p < 256 → bit_at r p (s + j) ≡ old j p
  pub rest : (p b : ℕ) → p < 256 → b < 256 → (s ≤ b → b < s + n → ⊥) → bit_at r p b ≡ T p b

module _ {T : ℕ → ℕ → ℕ} {s n : ℕ} {new old : ℕ → ℕ → ℕ} (fits : s + n ≤ 256) where
  -- one slice more
  pub slices-more : {k : ℕ} {r : State} (r' : State) → k < n → Slices T s n k new old r
      → ((p b : ℕ) → p < 256 → b < 256 → bit_at r' p b ≡ cond (eqb b (s + k)) (new k p) (bit_at r p b)) → Slices T s n (suc k) new old r'
  slices-more {k} {r} r' h i put =
      record {
        done = λ j p l hp. put p (s + j) hp (omega arith) ∙ own j p l hp (ℕ_discrete j k);
        todo = λ j p l q hp. put p (s + j) hp (omega arith) ∙ other p (s + j) (λ e. omega arith) ∙ i.todo j p (omega arith) q hp;
        rest = λ p b hp hb u. put p b hp hb ∙ other p b (λ e. u (omega arith) (omega arith)) ∙ i.rest p b hp hb u;
      }
    where
      other : (p b : ℕ) → (b ≡ s + k → ⊥) → cond (eqb b (s + k)) (new k p) (bit_at r p b) ≡ bit_at r p b
      other p b u = ap (λ (c : Bool). cond c (new k p) (bit_at r p b)) (ne_eqb b (s + k) u)

      own : (j p : ℕ) → j < suc k → p < 256 → Dec (j ≡ k) → cond (eqb (s + j) (s + k)) (new k p) (bit_at r p (s + j)) ≡ new j p
      own j p l hp (yes e) = ap (λ (c : Bool). cond c (new k p) (bit_at r p (s + j))) (eq-eqb (s + j) (s + k) (ap (λ (x : ℕ). s + x) e)) ∙ ap (λ (x : ℕ). new x p) (sym e)
      own j p l hp (no u) = other p (s + j) (λ e. u (omega arith)) ∙ i.done j p (omega arith) hp

-- all slices are new: the old ones of what comes next
pub slices-next : {T : ℕ → ℕ → ℕ} {s n : ℕ} {new old next : ℕ → ℕ → ℕ} {r : State} → Slices T s n n new old r → Slices T s n 0 next new r
slices-next i = record { done = λ j p l hp. absurd (omega arith); todo = λ j p l q hp. i.done j p q hp; rest = i.rest }

-- where none is new yet, anything may come next
pub slices-anew : {T : ℕ → ℕ → ℕ} {s n : ℕ} {new old next : ℕ → ℕ → ℕ} {r : State} → Slices T s n 0 new old r → Slices T s n 0 next old r
slices-anew i = record { done = λ j p l hp. absurd (omega arith); todo = i.todo; rest = i.rest }

-- a state with the same memory
pub slices-same : {T : ℕ → ℕ → ℕ} {s n k : ℕ} {new old : ℕ → ℕ → ℕ} {r : State} (r' : State) → s + n ≤ 256 → k ≤ n
    → ((p b : ℕ) → p < 256 → b < 256 → bit_at r' p b ≡ bit_at r p b) → Slices T s n k new old r → Slices T s n k new old r'
slices-same {T} {s} r' fits le same i =
    record {
      done = λ j p l hp. same p (s + j) hp (omega arith) ∙ i.done j p l hp;
      todo = λ j p l q hp. same p (s + j) hp (omega arith) ∙ i.todo j p l q hp;
      rest = λ p b hp hb u. same p b hp hb ∙ i.rest p b hp hb u;
    }

-- no bit of a field lies in one that is apart from it
pub outside : (s a n k : ℕ) → Apart s a n → k < n → s ≤ a + k → a + k < s + n → ⊥
outside s a n k (inl q) h l u = omega arith
outside s a n k (inr q) h l u = omega arith

pub apart-turned : (s a n : ℕ) → Apart s a n → Apart a s n
apart-turned s a n (inl q) = inr q
apart-turned s a n (inr q) = inl q

-- ---- what is put into a slice

module _ (items : List ℕ) (r : State) (p b : ℕ) (hp : p < 256) (hb : b < 256) where
  copy-put : (g h : ℕ) → g < 256 → h < 256
      → bit_at (acted (store_at 2 h) items (acted (take_x g) items r)) p b ≡ cond (eqb b h) (bit_at r p g) (bit_at r p b)
  copy-put g h hg hh =
      (store-x items (acted (take_x g) items r) p hp h hh).word b hb
      ∙ ap₂ (λ (x y : ℕ). cond (eqb b h) x y) (take-x items r p hp g hg).bit_x ((take-x items r p hp g hg).word b hb)

  close-put : (t g : ℕ) → t < 8 → g < 256
      → bit_at (acted (store_masked 255 g) items (acted (take_further t g) items r)) p b
      ≡ cond (eqb b g) (carried (bit_of r.regs.m) (further t) (λ q. bit_at r q g) p) (bit_at r p b)
  unfolding carried further
  close-put t g ht hg =
      let q = bit_xor p 255 in
      let hq = xor_lt 8 p 255 hp (omega arith) in
      let e = take-further items r p hp t g ht hg in
      (store-masked items (acted (take_further t g) items r) p hp 255 g (omega arith) hg).word b hb
      ∙ ap₂ (λ (x y : ℕ). cond (eqb b g) (cond (eqb x 1) y (bit_at (acted (take_further t g) items r) p g)) (bit_at (acted (take_further t g) items r) p b))
      e.bit_m (take-further items r q hq t g ht hg).bit_x
      ∙ ap₂ (λ (x y : ℕ). cond (eqb b g) (cond (eqb (bit_of r.regs.m p) 1) (bit_at r (bit_xor (unshifted 8 t q) 255) g) x) y) (e.word g hg) (e.word b hb)

  clear-put : (g : ℕ) → g < 256 → bit_of r.regs.x p ≡ 0
      → bit_at (acted (store_masked 0 g) items r) p b ≡ cond (eqb b g) (cond (eqb (bit_of r.regs.m p) 1) 0 (bit_at r p g)) (bit_at r p b)
  clear-put g hg e =
      (store-masked items r p hp 0 g (omega arith) hg).word b hb
      ∙ ap (λ (x : ℕ). cond (eqb b g) (cond (eqb (bit_of r.regs.m p) 1) x (bit_at r p g)) (bit_at r p b)) (ap (bit_of r.regs.x) (xor_zero_r p) ∙ e)

-- ---- the whole list

module _ (m : ℕ → Bool) (a s n : ℕ) (f : FieldsApart a s n) (items : List ℕ) (items-are : (k p : ℕ) → k < 9 → p < 256 → outside_at p items k ≡ closing_item m k p)
    (r₀ : State) (none-taken : r₀.taken ≡ 0) where
  -- the old memory, and slice j of A after t rounds
  abbrev T : ℕ → ℕ → ℕ
  T = bit_at r₀

  abbrev pub closed : ℕ → ℕ → ℕ → ℕ
  closed t j = closed_by m further t (λ q. T q (a + j))

  abbrev run : List Instruction → State → State
  run l r = folded (λ i. acted i items) l r

  -- ---- A is copied

  record Copied (k : ℕ) (r : State) : Type 0 where
    slices : Slices T s n k (closed 0) (λ j p. T p (s + j)) r
    taken : r.taken ≡ 0

  copy_more : (k : ℕ) (r : State) → k < n → Copied k r → Copied (suc k) (run (copy_slice a s k) r)
  unfolding folded closed_by
  copy_more k r h i =
      let hg : a + k < 256 = omega (arith, f.fits_a) in
      let hh : s + k < 256 = omega (arith, f.fits_s) in
      record {
        slices = slices-more f.fits_s (run (copy_slice a s k) r) h i.slices
            (λ p b hp hb. copy-put items r p b hp hb (a + k) (s + k) hg hh
            ∙ ap (λ (x : ℕ). cond (eqb b (s + k)) x (bit_at r p b)) (i.slices.rest p (a + k) hp hg (outside s a n k f.clear h)));
        taken = (store-x items (acted (take_x (a + k)) items r) 0 (omega arith) (s + k) hh).count ∙ (take-x items r 0 (omega arith) (a + k) hg).count ∙ i.taken;
      }

  -- ---- the rounds

  -- t rounds are done
  record Rounds (t : ℕ) (r : State) : Type 0 where
    slices : Slices T s n 0 (closed (suc t)) (closed t) r
    taken : r.taken ≡ t

  -- and k slices of the next
  record Within (t k : ℕ) (r : State) : Type 0 where
    slices : Slices T s n k (closed (suc t)) (closed t) r
    taken : r.taken ≡ suc t
    mask : (p : ℕ) → p < 256 → bit_of r.regs.m p ≡ arrivals m t (suc t) p

  slice-more : (t k : ℕ) (r : State) → t < 8 → k < n → Within t k r → Within t (suc k) (run (close_slice t s k) r)
  unfolding folded closed_by
  slice-more t k r ht h i =
      let g = s + k in
      let hg : g < 256 = omega (arith, f.fits_s) in
      let r₁ = acted (take_further t g) items r in
      record {
        slices = slices-more f.fits_s (run (close_slice t s k) r) h i.slices
            (λ p b hp hb. close-put items r p b hp hb t g ht hg
            ∙ ap (λ (x : ℕ). cond (eqb b g) x (bit_at r p b))
            (carried_same (bit_of r.regs.m) (arrivals m t (suc t)) (further t) (λ q. bit_at r q g) (closed t k) p (i.mask p hp)
            (i.slices.todo k (further t p) (omega arith) h (further-lt t p ht hp)) (i.slices.todo k p (omega arith) h hp)));
        taken = (store-masked items r₁ 0 (omega arith) 255 g (omega arith) hg).count ∙ (take-further items r 0 (omega arith) t g ht hg).count ∙ i.taken;
        mask = λ p hp. (store-masked items r₁ p hp 255 g (omega arith) hg).bit_m ∙ (take-further items r p hp t g ht hg).bit_m ∙ i.mask p hp;
      }

  round-more : (t : ℕ) (r : State) → t < 8 → Rounds t r → Rounds (suc t) (run (close_round s n t) r)
  unfolding folded
  round-more t r ht i =
      let r₁ = acted take_mask items r in
      let start : Within t 0 r₁ =
      record {
        slices = slices-same r₁ f.fits_s (omega arith) (λ p b hp hb. (take-mask items r p hp).word b hb) i.slices;
        taken = (take-mask items r 0 (omega arith)).count ∙ ap suc i.taken;
        mask = λ p hp. (take-mask items r p hp).bit_m ∙ ap (outside_at p items) i.taken ∙ items-are t p (omega arith) hp
            ∙ ap (λ (c : Bool). cond c (arrivals m t (suc t) p) (beyond_marks m p)) (lt-ltb t 8 ht);
      } in
      let e = folded-rounds (λ i. acted i items) (close_slice t s) n (Within t) (λ k r h. slice-more t k r ht h) n r₁ (omega arith) start in
      record { slices = slices-next e.slices; taken = e.taken }

  all-copied : Copied n (run (rounds (copy_slice a s) n) r₀)
  all-copied =
      folded-rounds (λ i. acted i items) (copy_slice a s) n Copied copy_more n r₀ (omega arith)
      (record {
        slices = record { done = λ j p l hp. absurd (omega arith); todo = λ j p l q hp. refl; rest = λ p b hp hb u. refl };
        taken = none-taken;
      })

  all-rounds : (t : ℕ) → t ≤ 8 → Rounds t (run (rounds (close_round s n) t) (run (rounds (copy_slice a s) n) r₀))
  all-rounds t h =
      folded-rounds (λ i. acted i items) (close_round s n) 8 Rounds round-more t (run (rounds (copy_slice a s) n) r₀) h
      (record { slices = slices-next all-copied.slices; taken = all-copied.taken })

  -- where the values are after t rounds
  pub rounds-done : (t : ℕ) → t ≤ 8 → Slices T s n 0 (closed (suc t)) (closed t) (run (rounds (copy_slice a s) n ++ rounds (close_round s n) t) r₀)
  rounds-done t h =
      subst (Slices T s n 0 (closed (suc t)) (closed t)) (sym (folded-append (λ i. acted i items) (rounds (copy_slice a s) n) (rounds (close_round s n) t) r₀))
      (all-rounds t h).slices

  -- ---- what is behind the last value is cleared

  abbrev pub cleared : ℕ → ℕ → ℕ
  cleared j p = cond (eqb (beyond_marks m p) 1) 0 (closed 8 j p)

  record Cleared (k : ℕ) (r : State) : Type 0 where
    slices : Slices T s n k cleared (closed 8) r
    mask : (p : ℕ) → p < 256 → bit_of r.regs.m p ≡ beyond_marks m p
    zero-x : (p : ℕ) → p < 256 → bit_of r.regs.x p ≡ 0

  clear-more : (k : ℕ) (r : State) → k < n → Cleared k r → Cleared (suc k) (run (clear_slice s k) r)
  unfolding folded
  clear-more k r h i =
      let g = s + k in
      let hg : g < 256 = omega (arith, f.fits_s) in
      record {
        slices = slices-more f.fits_s (run (clear_slice s k) r) h i.slices
            (λ p b hp hb. clear-put items r p b hp hb g hg (i.zero-x p hp)
            ∙ ap₂ (λ (x y : ℕ). cond (eqb b g) (cond (eqb x 1) 0 y) (bit_at r p b)) (i.mask p hp) (i.slices.todo k p (omega arith) h hp));
        mask = λ p hp. (store-masked items r p hp 0 g (omega arith) hg).bit_m ∙ i.mask p hp;
        zero-x = λ p hp. (store-masked items r p hp 0 g (omega arith) hg).bit_x ∙ i.zero-x p hp;
      }

  pub all_closed : Slices T s n n cleared (closed 8) (run (closing_list a s n) r₀)
  unfolding folded
  all_closed =
      let r₁ = run (rounds (copy_slice a s) n) r₀ in
      let r₂ = run (rounds (close_round s n) 8) r₁ in
      let r₃ = acted take_mask items r₂ in
      let r₄ = acted clear_x items r₃ in
      let i = all-rounds 8 (omega arith) in
      let same : (p b : ℕ) → p < 256 → b < 256 → bit_at r₄ p b ≡ bit_at r₂ p b =
      λ p b hp hb. (clear-x items r₃ p hp).word b hb ∙ (take-mask items r₂ p hp).word b hb in
      let start : Cleared 0 r₄ =
      record {
        slices = slices-same r₄ f.fits_s (omega arith) same (slices-anew i.slices);
        mask = λ p hp. (clear-x items r₃ p hp).bit_m ∙ (take-mask items r₂ p hp).bit_m ∙ ap (outside_at p items) i.taken ∙ items-are 8 p (omega arith) hp;
        zero-x = λ p hp. (clear-x items r₃ p hp).bit_x;
      } in
      let e = folded-rounds (λ i. acted i items) (clear_slice s) n Cleared clear-more n r₄ (omega arith) start in
      subst (Slices T s n n cleared (closed 8))
      (sym (folded-append (λ i. acted i items) (rounds (copy_slice a s) n) _ r₀ ∙ folded-append (λ i. acted i items) (rounds (close_round s n) 8) _ r₁))
      e.slices
