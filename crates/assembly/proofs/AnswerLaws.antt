-- What assembling gives back, one law for each outcome. Assumes nothing.
use mathlib.Core.Path.{◌≡◌, refl, sym, ap, ◌∙◌}
use mathlib.Core.Bool.{Bool, true, false, cond}
use mathlib.Core.List.{List, ◌++◌}
use Prim.Native.Nat.{ℕ, ◌<◌, ◌≤◌}
use native.Mathlib.Decide.{ℕ_discrete}
use native.Mathlib.Omega.{arith}
use lib.Dec.{eqb, ltb}
use lib.ListN.{length, drop}
use borrow.Author.Tests.{lt-ltb, le-ltb, eq-eqb, ne_eqb}
use Rattle.judge.specs.Kinds.{most_bytes}
use Rattle.assembly.specs.Assembly.{Assembled}
use Rattle.assembly.specs.Assembly.{outcome_of, made_list, made_items, answer, too_short, assembled_answer, assembled_list, assembled_items}

-- a text that is assembled has no line that is refused
pub stands : (text : List ℕ) (room room_items : ℕ) → (assembled_answer text room room_items).number ≡ 0 → (outcome_of text).number ≡ 0
unfolding assembled_answer
stands text room room_items z = go (ℕ_discrete (outcome_of text).number 0) (ltb 1048576 (length text)) refl
  where
    go : Dec ((outcome_of text).number ≡ 0) → (b : Bool) → ltb 1048576 (length text) ≡ b → (outcome_of text).number ≡ 0
    go (yes e) b t = e
    go (no v) true t =
        let q : assembled_answer text room room_items ≡ answer 50 0 0 0 0 = simp t in
        absurd (omega (arith, ap (λ (x : Assembled). x.number) q, z))
    go (no v) false t =
        let q : assembled_answer text room room_items ≡ answer (outcome_of text).number (outcome_of text).line (outcome_of text).column 0 0 = simp (t, ne_eqb (outcome_of text).number 0 v) in
        ap (λ (x : Assembled). x.number) (sym q) ∙ z

module _ (text list items : List ℕ) where
  -- the answer, and both buffers as they were
  abbrev pub Refused : Assembled → Type 0
  Refused r = (assembled_answer text (length list) (length items) ≡ r) × (assembled_list text list items ≡ list) × (assembled_items text list items ≡ items)

  kept : (r : Assembled) → assembled_answer text (length list) (length items) ≡ r → (r.number ≡ 0 → ⊥) → Refused r
  unfolding assembled_list assembled_items
  kept r e n =
      let z = ap (λ (x : Assembled). eqb x.number 0) e ∙ ne_eqb r.number 0 n in (
        e,
        ap (λ (b : Bool). cond b (made_list text ++ drop (length (made_list text)) list) list) z,
        ap (λ (b : Bool). cond b (made_items text ++ drop (length (made_items text)) items) items) z,
      )

  pub too_long : 1048576 < length text → Refused (answer 50 0 0 0 0)
  unfolding assembled_answer
  too_long h = kept (answer 50 0 0 0 0) (simp (lt-ltb 1048576 (length text) h)) (λ z. omega (arith, z))

  module _ (h : length text ≤ 1048576) where
    pub bad : ((outcome_of text).number ≡ 0 → ⊥) → Refused (answer (outcome_of text).number (outcome_of text).line (outcome_of text).column 0 0)
    unfolding assembled_answer
    bad n =
        kept (answer (outcome_of text).number (outcome_of text).line (outcome_of text).column 0 0)
        (simp (le-ltb 1048576 (length text) h, ne_eqb (outcome_of text).number 0 n)) n

    module _ (n : (outcome_of text).number ≡ 0) where
      pub too_many : most_bytes < length (made_list text) → Refused (answer 3 0 0 0 0)
      unfolding assembled_answer
      too_many f =
          kept (answer 3 0 0 0 0) (simp (le-ltb 1048576 (length text) h, eq-eqb (outcome_of text).number 0 n, lt-ltb most_bytes (length (made_list text)) f))
          (λ z. omega (arith, z))

      module _ (f : length (made_list text) ≤ most_bytes) where
        pub too-many-items : most_bytes < length (made_items text) → Refused (answer 4 0 0 0 0)
        unfolding assembled_answer
        too-many-items g =
            kept (answer 4 0 0 0 0)
            (simp (le-ltb 1048576 (length text) h, eq-eqb (outcome_of text).number 0 n, le-ltb most_bytes (length (made_list text)) f, lt-ltb most_bytes (length (made_items text)) g))
            (λ z. omega (arith, z))

        module _ (g : length (made_items text) ≤ most_bytes) where
          abbrev short : Bool
          short = too_short (length (made_list text)) (length list) (length (made_items text)) (length items)

          answered : (b : Bool) → short ≡ b
              → assembled_answer text (length list) (length items) ≡ cond b (answer 33 0 0 0 0) (answer 0 0 0 (length (made_list text)) (length (made_items text)))
          unfolding assembled_answer
          answered b s =
              simp (le-ltb 1048576 (length text) h, eq-eqb (outcome_of text).number 0 n, le-ltb most_bytes (length (made_list text)) f, le-ltb most_bytes (length (made_items text)) g, s)

          pub too-short : short ≡ true → Refused (answer 33 0 0 0 0)
          too-short s = kept (answer 33 0 0 0 0) (answered true s) (λ z. omega (arith, z))

          pub done : short ≡ false
              → (assembled_answer text (length list) (length items) ≡ answer 0 0 0 (length (made_list text)) (length (made_items text)))
              × (assembled_list text list items ≡ made_list text ++ drop (length (made_list text)) list)
              × (assembled_items text list items ≡ made_items text ++ drop (length (made_items text)) items)
          unfolding assembled_list assembled_items
          done s =
              let e = answered false s in (
                e,
                ap (λ (x : Assembled). cond (eqb x.number 0) (made_list text ++ drop (length (made_list text)) list) list) e,
                ap (λ (x : Assembled). cond (eqb x.number 0) (made_items text ++ drop (length (made_items text)) items) items) e,
              )
