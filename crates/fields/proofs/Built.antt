-- What a builder wrote, for whoever runs it: where its number is 0, its answer has the lengths, and the bytes that it counts are its list's, and its items'. Assumes nothing.
use mathlib.Core.Path.{◌≡◌, refl, ap, ap₂, ◌∙◌}
use mathlib.Core.Bool.{false}
use mathlib.Core.List.{List, ◌++◌}
use Prim.Native.Nat.{ℕ, ◌+◌, ◌*◌, ◌≤◌}
use native.Mathlib.Omega.{arith}
use lib.ListN.{length, drop, length-append}
use lib.Seq.{take_at}
use Rattle.registers.specs.Modes.{modes_of, wrong_modes}
use Rattle.registers.specs.Rows.{registers_of}
use Rattle.judge.specs.declared.Instruction.{Instruction}
use Rattle.judge.specs.Judge.{unfit}
use Rattle.module.specs.Act.{acted}
use Rattle.module.specs.Run.{Lent, begun, ran_by}
use Rattle.builders.specs.Lists.{encoded, Each}
use Rattle.builders.specs.Word.{folded, taken_by}
use Rattle.builders.specs.Building.{Built}
use Rattle.builders.specs.Building.{BuiltTwo}
use Rattle.builders.specs.Building.{built_with, BuiltTwoLeft, built_two}
use Rattle.fields.specs.Value.{list_of, run_of}
use Rattle.fields.specs.Marks.{list_of_two, items_of_two, lent_with, run_of_two}
use Rattle.fields.specs.Closing.{state_after}
use Rattle.fields.proofs.Runs.{Quiet, left_by, ran-quiet}

-- ---- a list

pub answer-built : (fault : ℕ) (bytes buffer : List ℕ) (k : ℕ) → fault ≡ 0 → length bytes ≡ k → (built_with fault bytes buffer).answer ≡ record { number = 0; count = k }
answer-built fault bytes buffer k e l =
    ap (λ (x : ℕ). (built_with x bytes buffer).answer) e ∙ ap (λ (x : ℕ). answered x) l
  where
    answered : ℕ → Built
    answered x = record { number = 0; count = x }

pub list-built : (fault : ℕ) (bytes buffer : List ℕ) → fault ≡ 0 → list_of (built_with fault bytes buffer) ≡ bytes
list-built fault bytes buffer e = ap (λ (x : ℕ). list_of (built_with x bytes buffer)) e ∙ take_at bytes (drop (length bytes) buffer) (length bytes) refl

-- ---- a list with its items

module _ (bytes item_bytes list items : List ℕ) where
  abbrev built : ℕ → BuiltTwoLeft
  built fault = built_two fault bytes item_bytes list items

  pub two-written : (fault n k : ℕ) → fault ≡ 0 → length bytes ≡ n → length item_bytes ≡ k → (built fault).answer ≡ record { number = 0; list = n; items = k }
  unfolding built_two
  two-written fault n k e l i = ap (λ (x : ℕ). (built x).answer) e ∙ ap₂ answered l i
    where
      answered : ℕ → ℕ → BuiltTwo
      answered x y = record { number = 0; list = x; items = y }

  pub two-listed : (fault : ℕ) → fault ≡ 0 → list_of_two (built fault) ≡ bytes
  unfolding built_two
  two-listed fault e = ap (λ (x : ℕ). list_of_two (built x)) e ∙ take_at bytes (drop (length bytes) list) (length bytes) refl

  two_items : (fault : ℕ) → fault ≡ 0 → items_of_two (built fault) ≡ item_bytes
  unfolding built_two
  two_items fault e = ap (λ (x : ℕ). items_of_two (built x)) e ∙ take_at item_bytes (drop (length item_bytes) items) (length item_bytes) refl

  pub two_run : (fault : ℕ) → fault ≡ 0 → (lent : Lent (List ℕ)) → run_of_two (built fault) lent ≡ run_of bytes (lent_with (item_bytes ++ lent.items) lent)
  two_run fault e lent = ap₂ (λ (l i : List ℕ). run_of l (lent_with (i ++ lent.items) lent)) (two-listed fault e) (two_items fault e)

  -- and after its first k instructions
  pub two-after : (fault : ℕ) → fault ≡ 0 → (lent : Lent (List ℕ)) (k : ℕ)
      → state_after (built fault) lent k ≡ ran_by bytes (item_bytes ++ lent.items) (begun lent (registers_of lent.registers)) k
  two-after fault e lent k =
      ap₂ (λ (l i : List ℕ). ran_by l (i ++ lent.items) (begun lent (registers_of lent.registers)) k) (two-listed fault e) (two_items fault e)

-- a run of quiet instructions, to its end: the fold of the list, on its items and those behind them
pub two-ran : (l : List Instruction) → Each Quiet l → length l ≤ 4096 → (item_bytes list items : List ℕ) (fault : ℕ) → fault ≡ 0 → (lent : Lent (List ℕ))
    → length lent.memory ≡ 8192 → length lent.registers ≡ 100 → wrong_modes (modes_of lent.registers) ≡ false
    → unfit 32 (length item_bytes + length lent.items) ≡ false → 32 * taken_by l ≤ length item_bytes
    → run_of_two (built_two fault (encoded l) item_bytes list items) lent
    ≡ left_by lent (folded (λ i. acted i (item_bytes ++ lent.items)) l (begun lent (registers_of lent.registers))) (length l) (taken_by l)
two-ran l quiet few item_bytes list items fault e lent memory registers stands supplied enough =
    let together = length-append item_bytes lent.items in
    two_run (encoded l) item_bytes list items fault e lent
    ∙ ran-quiet l quiet few (lent_with (item_bytes ++ lent.items) lent) memory registers stands (ap (unfit 32) together ∙ supplied) (omega (arith, together))
