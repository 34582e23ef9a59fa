-- The instructions that lists on fields are made of are plain: logic from X, logic with a bit of every word, and the store of Y. Assumes nothing.
use mathlib.Core.Path.{◌≡◌, refl, ap}
use mathlib.Core.Bool.{false, not}
use Prim.Native.Nat.{ℕ, ◌/◌, ◌<◌}
use native.Mathlib.Omega.{arith}
use lib.Dec.{ltb}
use Rattle.judge.proofs.FormLaws.{formed-by}
use Rattle.builders.specs.Lists.{logic_from, logic_at, store_at}
use Rattle.fields.proofs.Runs.{Plain}

module _ (t : ℕ) (choice : ltb 4 (t / 16) ≡ false) where
  pub plain-from : Plain (logic_from 2 t)
  plain-from =
      record {
        local = λ m. record { mode0 = refl; flip0 = refl; code0 = refl; inside = omega arith };
        takes_none = refl;
        quiet = record { gives_none = refl; formed = λ m. formed-by m _ refl (ap not choice) refl; keeps-modes = λ m. refl };
      }

  pub plain_at : (g : ℕ) → g < 256 → Plain (logic_at g t)
  plain_at g h =
      record {
        local = λ m. record { mode0 = refl; flip0 = refl; code0 = refl; inside = h };
        takes_none = refl;
        quiet = record { gives_none = refl; formed = λ m. formed-by m _ refl (ap not choice) refl; keeps-modes = λ m. refl };
      }

pub plain-store : (g : ℕ) → g < 256 → Plain (store_at 3 g)
plain-store g h =
    record {
      local = λ m. record { mode0 = refl; flip0 = refl; code0 = refl; inside = h };
      takes_none = refl;
      quiet = record { gives_none = refl; formed = λ m. formed-by m _ refl refl refl; keeps-modes = λ m. refl };
    }
