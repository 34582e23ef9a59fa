-- Laws of a word's characters. Assumes nothing.
use mathlib.Core.Path.{◌≡◌, ap}
use mathlib.Core.Bool.{Bool, cond}
use mathlib.Core.List.{[], ◌∷◌, ◌++◌}
use Prim.Native.Nat.{ℕ, suc, ◌+◌, ◌-◌, ◌*◌, ◌/◌, ◌%◌, ◌<◌}
use native.Mathlib.Omega.{arith}
use borrow.Author.Tests.{eq-eqb, ne_eqb}
use Rattle.spelling.specs.Words.{top_place, visible, spelled_in}

-- one turn: what stands at the highest place, and the rest moved up
pub spell-more : (j w : ℕ) → j < 8 → spelled_in (8 - j) w ≡ visible (w / top_place) ++ spelled_in (8 - (j + 1)) (w % top_place * 256)
unfolding spelled_in
spell-more j w h =
    let e : 8 - j ≡ suc (8 - (j + 1)) = omega arith in
    ap (λ (k : ℕ). spelled_in k w) e

pub visible-none : (c : ℕ) → c ≡ 0 → visible c ≡ []
unfolding visible
visible-none c h = ap (λ (b : Bool). cond b [] (c ∷ [])) (eq-eqb c 0 h)

pub visible-some : (c : ℕ) → (c ≡ 0 → ⊥) → visible c ≡ c ∷ []
unfolding visible
visible-some c h = ap (λ (b : Bool). cond b [] (c ∷ [])) (ne_eqb c 0 h)
