-- The lists that close up and that spread, their marks, and their first instructions by themselves: they are accepted, what they take, how many shifts they have, and how the marked words are numbered. Assumes nothing.
use mathlib.Core.Path.{◌≡◌, refl, sym, ap, ap₂, ◌∙◌}
use mathlib.Core.Bool.{Bool, true, cond}
use mathlib.Core.List.{List, [], ◌∷◌, ◌++◌}
use Prim.Native.Nat.{ℕ, zero, suc, ◌+◌, ◌-◌, ◌*◌, ◌<◌, ◌≤◌}
use native.Mathlib.Omega.{arith}
use lib.Dec.{eqb}
use lib.ListN.{length}
use borrow.Author.Tests.{eqb-true, eq-eqb, ne_eqb}
use Rattle.bits.specs.Bits.{bit_of}
use Rattle.bits.specs.Search.{Numbered}
use Rattle.bits.proofs.Search.{count_none, count-numbers, numbered-once, numbered-before}
use Rattle.judge.specs.declared.Instruction.{Instruction}
use Rattle.module.specs.Act.{State, acted}
use Rattle.module.specs.Run.{ran_by}
use Rattle.builders.specs.Lists.{encoded, rounds, decoded, Each, none, more}
use Rattle.builders.specs.Searches.{clear_x}
use Rattle.closing.specs.Closing.{marked, rank, take_x, take_mask, store_masked, copy_slice, close_slice, close_round, clear_slice, closing_list}
use Rattle.closing.specs.Closing.{spread_round, spread_slice, spreading_list}
use Rattle.builders.specs.Word.{folded, taken_by}
use Rattle.builders.proofs.Folds.{each_append, each-rounds}
use Rattle.builders.proofs.Takes.{taken-append, taken-rounds}
use Rattle.builders.proofs.ListLaws.{encoded-append, decoded-encoded}
use Rattle.fields.specs.Marks.{MarkedBy}
use Rattle.fields.specs.Closing.{shifts_in}
use Rattle.fields.proofs.LineLaws.{ran-folded}
use Rattle.fields.proofs.Runs.{Quiet}
use Rattle.fields.proofs.Plain.{plain-from, plain_at}
use Rattle.fields.proofs.MoveSteps.{quiet-take-mask, quiet-take-y, quiet-store-x, quiet-store-masked, quiet-take-further, quiet-shift-masked}

-- ---- the lists are accepted

quiet-take-x : (g : ℕ) → g < 256 → Quiet (take_x g)
quiet-take-x g h = (plain_at 10 refl g h).quiet

pub closing-quiet : (a s n : ℕ) → a + n ≤ 256 → s + n ≤ 256 → Each Quiet (closing_list a s n)
closing-quiet a s n fa fs =
    each_append (each-rounds (copy_slice a s) n (λ k h. more (quiet-take-x (a + k) (omega arith)) (more (quiet-store-x (s + k)) none)))
    (each_append (each-rounds (close_round s n) 8
    (λ t ht. more quiet-take-mask (each-rounds (close_slice t s) n (λ k h. more (quiet-take-further t (s + k) ht) (more (quiet-store-masked 255 (s + k)) none)))))
    (more quiet-take-mask (more (plain-from 0 refl).quiet (each-rounds (clear_slice s) n (λ k h. more (quiet-store-masked 0 (s + k)) none)))))

pub spreading-quiet : (a s n : ℕ) → a + n ≤ 256 → s + n ≤ 256 → Each Quiet (spreading_list a s n)
spreading-quiet a s n fa fs =
    more quiet-take-mask
    (each-rounds (spread_slice a s) n
    (λ k h. more (quiet-take-x (s + k) (omega arith))
    (each_append (each-rounds spread_round 8 (λ c hc. more quiet-take-y (more (quiet-shift-masked (7 - c) (omega arith)) none))) (more (quiet-store-masked 0 (a + k)) none))))

-- ---- what they take, and their shifts

pub closing-taken : (a s n : ℕ) → taken_by (closing_list a s n) ≡ 9
unfolding taken_by
closing-taken a s n =
    let clears = take_mask ∷ clear_x ∷ rounds (clear_slice s) n in
    taken-append (rounds (copy_slice a s) n) (rounds (close_round s n) 8 ++ clears)
    ∙ omega (
      arith,
      taken-append (rounds (close_round s n) 8) clears,
      taken-rounds (copy_slice a s) 0 n (λ k. refl),
      taken-rounds (close_round s n) 1 8 (λ t. omega (arith, taken-rounds (close_slice t s) 0 n (λ k. refl))),
      taken-rounds (clear_slice s) 0 n (λ k. refl),
    )

pub spreading-taken : (a s n : ℕ) → taken_by (spreading_list a s n) ≡ 1 + 8 * n
unfolding taken_by
spreading-taken a s n = omega (arith, taken-rounds (spread_slice a s) 8 n (λ k. let e = slice (a + k) in omega arith))
  where
    slice : (g : ℕ) → taken_by (rounds spread_round 8 ++ (store_masked 0 g ∷ [])) ≡ 8
    slice g = taken-append (rounds spread_round 8) (store_masked 0 g ∷ []) ∙ omega (arith, taken-rounds spread_round 1 8 (λ c. refl))

shifts-append : (l r : List Instruction) → shifts_in (l ++ r) ≡ shifts_in l + shifts_in r
unfolding shifts_in
shifts-append [] r = omega arith
shifts-append (i ∷ l) r = omega (arith, shifts-append l r)

-- every round has c
shifts-rounds : (g : ℕ → List Instruction) (c n : ℕ) → ((k : ℕ) → k < n → shifts_in (g k) ≡ c) → shifts_in (rounds g n) ≡ c * n
unfolding shifts_in rounds
shifts-rounds g c zero h = omega arith
shifts-rounds g c (suc n) h = shifts-append (rounds g n) (g n) ∙ omega (arith, shifts-rounds g c n (λ k l. h k (omega arith)), h n (omega arith))

-- byte 6 of a shift is not 0
shifting : (t : ℕ) → cond {A = ℕ} (eqb (16 * 8 + t) 0) 0 1 ≡ 1
shifting t = ap (λ (b : Bool). cond {A = ℕ} b 0 1) (ne_eqb (16 * 8 + t) 0 (λ e. omega arith))

-- "at most eight rounds of shifts per slice": of a slice's instructions in a round of a closing one, and of those of a slice of a spreading eight
pub closing-shift : (t s k : ℕ) → shifts_in (close_slice t s k) ≡ 1
unfolding shifts_in
closing-shift t s k = omega (arith, shifting t)

pub spreading-shift : (a s k : ℕ) → shifts_in (spread_slice a s k) ≡ 8
unfolding shifts_in
spreading-shift a s k =
    let l = shifts-append (rounds spread_round 8) (store_masked 0 (a + k) ∷ []) in
    omega (arith, l, shifts-rounds spread_round 1 8 (λ c hc. omega (arith, shifting (7 - c))))

-- so of each whole list eight for each of its n slices
pub closing-shifts : (a s n : ℕ) → shifts_in (closing_list a s n) ≡ 8 * n
unfolding shifts_in
closing-shifts a s n =
    let clears = take_mask ∷ clear_x ∷ rounds (clear_slice s) n in
    shifts-append (rounds (copy_slice a s) n) (rounds (close_round s n) 8 ++ clears)
    ∙ omega (
      arith,
      shifts-append (rounds (close_round s n) 8) clears,
      shifts-rounds (copy_slice a s) 0 n (λ k h. refl),
      shifts-rounds (close_round s n) n 8 (λ t ht. omega (arith, shifts-rounds (close_slice t s) 1 n (λ k h. closing-shift t s k))),
      shifts-rounds (clear_slice s) 0 n (λ k h. refl),
    )

pub spreading-shifts : (a s n : ℕ) → shifts_in (spreading_list a s n) ≡ 8 * n
unfolding shifts_in
spreading-shifts a s n = omega (arith, shifts-rounds (spread_slice a s) 8 n (λ k h. spreading-shift a s k))

-- ---- the marks

module _ (marks : List ℕ) where
  abbrev m : ℕ → Bool
  m = marked marks

  pub marked-of : (w : ℕ) → MarkedBy marks w → m w ≡ true
  marked-of w e = eq-eqb (bit_of marks w) 1 e

  of-marked : (w : ℕ) → m w ≡ true → MarkedBy marks w
  of-marked w e = eqb-true (bit_of marks w) 1 e

  -- the marked words can be numbered, as many as are counted
  pub marks-numbered : Numbered (MarkedBy marks) 256 (rank m 256)
  marks-numbered = count-numbers (MarkedBy marks) m of-marked marked-of 256

  module _ (c : ℕ) (which : Numbered (MarkedBy marks) 256 c) where
    pub all-counted : c ≡ rank m 256
    all-counted = numbered-once (MarkedBy marks) 256 c (rank m 256) which marks-numbered

    -- number k has the rank k
    pub rank-of : (k : ℕ) → k < c → rank m (which.nth k) ≡ k
    rank-of k h = numbered-before (MarkedBy marks) m of-marked marked-of 256 c which k h

  pub none-counted : ((w : ℕ) → w < 256 → MarkedBy marks w → ⊥) → rank m 256 ≡ 0
  none-counted u = count_none m 256 (λ j h. ne_eqb (bit_of marks j) 1 (u j h))

-- ---- parts of a list

pub last-round : (g : ℕ → List Instruction) (k : ℕ) → rounds g (suc k) ≡ rounds g k ++ g k
unfolding rounds
last-round g k = refl

-- the first instructions of a list's bytes, run by themselves
pub prefix-ran : (l r : List Instruction) (given : List ℕ) (s₀ : State) (k : ℕ) → length l ≡ k
    → ran_by (encoded (l ++ r)) given s₀ k ≡ folded (λ i. acted i given) l s₀
prefix-ran l r given s₀ k e =
    ran-folded (encoded (l ++ r)) given s₀ k
    ∙ ap (λ (z : List Instruction). folded (λ i. acted i given) z s₀) (ap₂ decoded (encoded-append l r) (sym e) ∙ decoded-encoded l (encoded r))
