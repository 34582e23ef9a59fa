-- Is there any? After X was or'ed with itself flipped by 1, 2, 4 and so on to 128, it is 1 on every line if it was on any, and else 0 on every line. Assumes nothing.
use mathlib.Core.Path.{◌≡◌, refl, sym, ap, subst, ◌∙◌}
use mathlib.Core.Logic.{◌↔◌, ◌⊎◌, inl, inr}
use mathlib.Core.List.{List}
use Prim.Native.Nat.{ℕ, suc, ◌+◌, ◌-◌, ◌*◌, ◌^◌, ◌<◌}
use native.Mathlib.Nat.{pow-suc}
use native.Mathlib.Decide.{dec_lt}
use native.Mathlib.Omega.{arith}
use lib.Bits.{bit_xor, xor_lt, xor_shifted, xor_zero_r}
use lib.Pow.{pow-lt}
use Rattle.bits.specs.Bits.{bit_of}
use Rattle.bits.proofs.Items.{bit_of-bit}
use Rattle.bits.proofs.Xor.{xor_assoc, xor-twice}
use Rattle.network.proofs.TableRules.{none-permitted}
use Rattle.registers.specs.declared.Modes.{Modes}
use Rattle.registers.specs.Logic.{function_bit, new_x, new_y}
use Rattle.module.specs.Act.{State, acted}
use Rattle.builders.specs.Lists.{rounds}
use Rattle.builders.specs.Searches.{or_flip, or_flipped}
use Rattle.builders.specs.Word.{Word, source_bit, after_bit, folded}
use Rattle.builders.proofs.Folds.{folded-rounds}
use Rattle.builders.proofs.Marks.{Mark, bit-mark, mark-map, mark-or}
use Rattle.fields.specs.Line.{At, word_of, came_from, Sliced}
use Rattle.fields.proofs.LineLaws.{acted-from, came-flipped, at_self}

-- ---- lines that differ in low digits alone

-- x is 1 on a line that differs from p in the e lowest digits at most.
abbrev Near : (ℕ → ℕ) → ℕ → ℕ → Type 0
Near x p e = (r : ℕ) × (r < 2 ^ e) × (x (bit_xor p r) ≡ 1)

module _ (x : ℕ → ℕ) (p : ℕ) where
  -- no digit: line p itself
  near_none : (x p ≡ 1) ↔ Near x p 0
  near_none = (λ e. (0, omega arith, ap x (xor_zero_r p) ∙ e), λ z. own z.0 z.1 z.2)
    where
      own : (r : ℕ) → r < 2 ^ 0 → x (bit_xor p r) ≡ 1 → x p ≡ 1
      own r h e =
          let z : r ≡ 0 = omega arith in
          sym (ap x (xor_zero_r p)) ∙ ap (λ (k : ℕ). x (bit_xor p k)) (sym z) ∙ e

  -- digit k is one more
  further : (k r : ℕ) → r < 2 ^ k → bit_xor (bit_xor p (2 ^ k)) r ≡ bit_xor p (2 ^ k + r)
  further k r h =
      let one : 2 ^ k ≡ 1 * 2 ^ k = omega arith in
      let sum : 1 * 2 ^ k + r ≡ 2 ^ k + r = omega arith in
      xor_assoc p (2 ^ k) r ∙ ap (bit_xor p) (ap (λ (z : ℕ). bit_xor z r) one ∙ xor_shifted 1 k r h ∙ sum)

  near-more : (k : ℕ) → (Near x p k ⊎ Near x (bit_xor p (2 ^ k)) k) ↔ Near x p (suc k)
  near-more k = (wider, λ z. apart z.0 z.1 z.2 (dec_lt z.0 (2 ^ k)))
    where
      wider : Near x p k ⊎ Near x (bit_xor p (2 ^ k)) k → Near x p (suc k)
      wider (inl (r, h, e)) = let d = pow-suc 2 k in (r, omega arith, e)
      wider (inr (r, h, e)) = let d = pow-suc 2 k in (2 ^ k + r, omega arith, sym (ap x (further k r h)) ∙ e)

      apart : (r : ℕ) → r < 2 ^ suc k → x (bit_xor p r) ≡ 1 → Dec (r < 2 ^ k) → Near x p k ⊎ Near x (bit_xor p (2 ^ k)) k
      apart r h e (yes l) = inl (r, l, e)
      apart r h e (no l) =
          let d = pow-suc 2 k in
          let q : r - 2 ^ k < 2 ^ k = omega arith in
          let back : 2 ^ k + (r - 2 ^ k) ≡ r = omega arith in
          inr (r - 2 ^ k, q, ap x (further k (r - 2 ^ k) q ∙ ap (bit_xor p) back) ∙ e)

  -- all eight digits: any line
  near-all : p < 256 → Near x p 8 ↔ ((q : ℕ) × (q < 256) × (x q ≡ 1))
  near-all hp = (
    λ z. (bit_xor p z.0, xor_lt 8 p z.0 hp z.1, z.2),
    λ z. (bit_xor p z.0, xor_lt 8 p z.0 hp z.1, ap x (xor-twice p z.0) ∙ z.2),
  )

-- ---- the flips

-- A word with another bit of X.
abbrev pub with_x : ℕ → Word → Word
with_x x v = record { bits = v.bits; m = v.m; x = x; y = v.y; taken = v.taken }

-- State t is s but for X, and its X is marked by what P says of each line.
pub record AnyAt (P : ℕ → Type 0) (s t : State) : Type 0 where
  pub same : (p : ℕ) (v : Word) → p < 256 → At p s v → At p t (with_x (bit_of t.regs.x p) v)
  pub marks : (p : ℕ) → p < 256 → Mark (P p) (bit_of t.regs.x p)

sliced : (k : ℕ) → k < 8 → (m : Modes) → Sliced m (or_flip k)
sliced k h m = record { mode0 = refl; inside = omega arith; flips = pow-lt h; shifts = none-permitted }

flip-at : (k : ℕ) → k < 8 → (items : List ℕ) (s : State) (p : ℕ) (v : Word) → p < 256 → At p s v
    → At p (acted (or_flip k) items s) (with_x (function_bit 14 v.x (bit_of s.regs.x (bit_xor p (2 ^ k)))) v)
unfolding after_bit source_bit new_x new_y
flip-at k h items s p v hp a =
    subst (λ (q : ℕ). At p (acted (or_flip k) items s) (with_x (function_bit 14 v.x (bit_of s.regs.x q)) v)) (came-flipped (or_flip k) p refl)
    (acted-from p hp (or_flip k) items s v (word_of (came_from (or_flip k) p) s) (sliced k h s.regs.modes) a (at_self (came_from (or_flip k) p) s))

module _ (items : List ℕ) (s : State) where
  any-more : (k : ℕ) (t : State) → k < 8 → AnyAt (λ p. Near (bit_of s.regs.x) p k) s t
      → AnyAt (λ p. Near (bit_of s.regs.x) p (suc k)) s (folded (λ i. acted i items) (or_flipped k) t)
  unfolding folded
  any-more k t h a =
      record {
        same = λ p v hp l. let e = flip-at k h items t p _ hp (a.same p v hp l) in
            record { word = e.word; bit_m = e.bit_m; bit_x = refl; bit_y = e.bit_y; count = e.count };
        marks = λ p hp.
            let q = bit_xor p (2 ^ k) in
            subst (Mark (Near (bit_of s.regs.x) p (suc k))) (sym (flip-at k h items t p _ hp (at_self p t)).bit_x)
            (mark-map (near-more (bit_of s.regs.x) p k) (mark-or (a.marks p hp) (a.marks q (xor_lt 8 p (2 ^ k) hp (pow-lt h)))));
      }

  pub any-all : AnyAt (λ p. (q : ℕ) × (q < 256) × (bit_of s.regs.x q ≡ 1)) s (folded (λ i. acted i items) (rounds or_flipped 8) s)
  any-all =
      let e = folded-rounds (λ i. acted i items) or_flipped 8 (λ k. AnyAt (λ p. Near (bit_of s.regs.x) p k) s) any-more 8 s (omega arith)
      (record {
        same = λ p v hp l. record { word = l.word; bit_m = l.bit_m; bit_x = refl; bit_y = l.bit_y; count = l.count };
        marks = λ p hp. mark-map (near_none (bit_of s.regs.x) p) (bit-mark (bit_of-bit s.regs.x p));
      }) in
      record { same = e.same; marks = λ p hp. mark-map (near-all (bit_of s.regs.x) p hp) (e.marks p hp) }
