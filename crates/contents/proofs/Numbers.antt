-- Document 01, Blocks on disk: each number of reading, 20 to 25 and those of the rows behind them, and of a table alone, is given at its place exactly when the tables say so. Assumes nothing.
use mathlib.Core.Path.{◌≡◌, refl, sym, ap, subst, ◌∙◌}
use mathlib.Core.Bool.{true}
use mathlib.Core.List.{List}
use mathlib.Core.Logic.{◌↔◌}
use Prim.Native.Nat.{ℕ, ◌/◌}
use native.Mathlib.Decide.{ℕ_discrete}
use native.Mathlib.Omega.{arith}
use lib.ListN.{length}
use Rattle.bits.specs.Rows.{Row, number_of, NoRow, FirstRow}
use Rattle.bits.proofs.Rows.{numbered, none_number, number-none, number-first}
use Rattle.blocks.specs.Block.{fault}
use Rattle.blocks.proofs.Numbers.{fault-first, first-fault}
use Rattle.contents.specs.Moved.{Moved}
use Rattle.contents.specs.File.{done, refused, block_at, content_of, size_fits}
use Rattle.contents.specs.Content.{answered, read_answer}
use Rattle.contents.specs.Numbers.{Answers, Sound, ReadRefused, by_kind, by_length, by-block, by_size, by_row}
use Rattle.contents.proofs.AnswerLaws.{answered-none, answered-first, answered-0}
use Rattle.contents.proofs.Outcomes.{Read, wrong-kind, wrong-length, wrong-block, wrong_size, wrong_row, all_read, read, read_is}

-- an answer that is a refusal has its number and its place
gives : (a : Moved) (n p k : ℕ) → refused n p ≡ a → k ≡ p → Answers a n k
gives a n p k e h = (sym (ap (λ (x : Moved). x.number) e), sym (ap (λ (x : Moved). x.place) e) ∙ sym h)

-- ---- a table alone, at place 0

module _ (rows : List Row) (put : ℕ) where
  abbrev answering : Moved
  answering = answered rows put

  -- the answer is that of the first row that holds
  row-given : (number_of rows ≡ 0 → ⊥) → refused (number_of rows) 0 ≡ answering
  row-given u = answered-first rows put (number_of rows) u (number-first rows (number_of rows) u refl)

  pub answered-refusals : (n k : ℕ) → (n ≡ 0 → ⊥) → Answers answering n k ↔ (k ≡ 0) × FirstRow rows n
  answered-refusals n k v = (given (ℕ_discrete (number_of rows) 0), λ f. gives answering n 0 k (answered-first rows put n v f.1) f.0)
    where
      given : Dec (number_of rows ≡ 0) → Answers answering n k → (k ≡ 0) × FirstRow rows n
      given (yes z) g = absurd (v (sym g.0 ∙ sym (ap (λ (a : Moved). a.number) (answered-none rows put z))))
      given (no u) g =
          let w = row-given u in (
            sym g.1 ∙ sym (ap (λ (a : Moved). a.place) w),
            number-first rows n v (ap (λ (a : Moved). a.number) w ∙ g.0),
          )

  pub answered-done : answering.number ≡ 0 → answering ≡ done put
  answered-done z = sym (answered-none rows put (answered-0 rows put z))

  pub answered-row-0 : numbered rows ≡ true → (answering.number ≡ 0) ↔ NoRow rows
  answered-row-0 t = (
    λ z. number-none rows t (answered-0 rows put z),
    λ f. sym (ap (λ (a : Moved). a.number) (answered-none rows put (none_number rows f))),
  )

  -- "A refusal gives 0 bytes."
  pub answered-no-bytes : (answering.number ≡ 0 → ⊥) → answering.bytes ≡ 0
  answered-no-bytes v =
      sym (ap (λ (a : Moved). a.bytes) (row-given (λ z. v (sym (ap (λ (a : Moved). a.number) (answered-none rows put z))))))

-- ---- reading

module _ (kind : ℕ) (bytes : List ℕ) (rows : List Row) (put : ℕ) where
  abbrev reading : Moved
  reading = read_answer kind bytes rows put

  -- why a number was given
  reason : (a : Moved) → Read kind bytes rows put a → (a.number ≡ 0 → ⊥) → ReadRefused kind bytes rows a.number a.place
  reason a (wrong-kind k) v = by_kind k
  reason a (wrong-length k l) v = by_length k l
  reason a (wrong-block k l i h g u) v =
      by-block (fault (block_at bytes i) kind i (length bytes / 512)) i (k, l) h g (fault-first (block_at bytes i) kind i (length bytes / 512) u)
  reason a (wrong_size k l g s) v = by_size ((k, l), g) s
  reason a (wrong_row k l g s m u f) v = by_row m ((k, l), g) s f
  reason a (all_read k l g s f) v = absurd (v refl)

  given : (n k : ℕ) → (n ≡ 0 → ⊥) → ReadRefused kind bytes rows n k → Answers reading n k
  given n k v (by_kind x) = gives _ 22 0 0 (read_is kind bytes rows put _ (wrong-kind x)) refl
  given n k v (by_length x l) = gives _ 20 0 0 (read_is kind bytes rows put _ (wrong-length x l)) refl
  given n k v (by-block m i a h g r) =
      let e = first-fault (block_at bytes i) kind i (length bytes / 512) m r in
      let w = gives _ _ i i (read_is kind bytes rows put _ (wrong-block a.0 a.1 i h g (λ z. v (sym e ∙ z)))) refl in
      (w.0 ∙ e, w.1)
  given n k v (by_size s f) = gives _ 25 0 0 (read_is kind bytes rows put _ (wrong_size s.0.0 s.0.1 s.1 f)) refl
  given n k v (by_row m s f t) = gives _ m 0 0 (read_is kind bytes rows put _ (wrong_row s.0.0 s.0.1 s.1 f m v t)) refl

  -- number n is given at place k exactly where the tables say so
  pub read-refusals : (n k : ℕ) → (n ≡ 0 → ⊥) → Answers reading n k ↔ ReadRefused kind bytes rows n k
  read-refusals n k v = (
    λ g. subst (λ (x : ℕ). ReadRefused kind bytes rows x k) g.0
        (subst (ReadRefused kind bytes rows reading.number) g.1 (reason reading (read kind bytes rows put) (λ z. v (sym g.0 ∙ z)))),
    given n k v,
  )

  -- The file stands, and none of the rows holds.
  abbrev Unrefused : Type 0
  Unrefused = Sound kind bytes × (size_fits kind (length (content_of bytes)) ≡ true) × NoRow rows

  done-given : numbered rows ≡ true → (a : Moved) → Read kind bytes rows put a → a.number ≡ 0 → Unrefused
  done-given t a (wrong-kind k) e = absurd (omega arith)
  done-given t a (wrong-length k l) e = absurd (omega arith)
  done-given t a (wrong-block k l i h g u) e = absurd (u e)
  done-given t a (wrong_size k l g s) e = absurd (omega arith)
  done-given t a (wrong_row k l g s m u f) e = absurd (u e)
  done-given t a (all_read k l g s z) e = (((k, l), g), s, number-none rows t z)

  -- "Success gives 0, place 0 and the number of bytes put out."
  pub read_all : Unrefused → reading ≡ done put
  read_all r = sym (read_is kind bytes rows put _ (all_read r.0.0.0 r.0.0.1 r.0.1 r.1 (none_number rows r.2)))

  pub read-0 : numbered rows ≡ true → (reading.number ≡ 0) ↔ Unrefused
  read-0 t = (done-given t _ (read kind bytes rows put), λ r. ap (λ (a : Moved). a.number) (read_all r))

  -- "A refusal gives 0 bytes."
  refused-bytes : (a : Moved) → Read kind bytes rows put a → (a.number ≡ 0 → ⊥) → a.bytes ≡ 0
  refused-bytes a (wrong-kind k) v = refl
  refused-bytes a (wrong-length k l) v = refl
  refused-bytes a (wrong-block k l i h g u) v = refl
  refused-bytes a (wrong_size k l g s) v = refl
  refused-bytes a (wrong_row k l g s m u f) v = refl
  refused-bytes a (all_read k l g s z) v = absurd (v refl)

  pub read-no-bytes : (reading.number ≡ 0 → ⊥) → reading.bytes ≡ 0
  read-no-bytes = refused-bytes _ (read kind bytes rows put)
