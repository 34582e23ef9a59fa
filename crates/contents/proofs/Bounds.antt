-- How large the numbers in an answer can be, for whoever hands them on in fewer bits. Assumes nothing.
use mathlib.Core.Path.{◌≡◌, refl, ap, subst}
use mathlib.Core.Bool.{true, not, ◌&&◌}
use mathlib.Core.List.{List, []}
use Prim.Native.Nat.{ℕ, ◌*◌, ◌/◌, ◌%◌, ◌≤◌}
use native.Mathlib.Decide.{ℕ_discrete}
use native.Mathlib.Omega.{arith}
use lib.Dec.{eqb, leb, ltb}
use lib.ListN.{length}
use borrow.Author.Tests.{leb-true, not-false}
use Rattle.bits.specs.Rows.{Row, number_of}
use Rattle.bits.proofs.Rows.{up_to, and_right, first-number, number-first, number-none, number-high}
use Rattle.blocks.proofs.Numbers.{fault-le}
use Rattle.contents.specs.Moved.{Moved}
use Rattle.contents.specs.File.{is_picture, block_at, content_of, length_right, size_fits, file_judged, block_count}
use Rattle.contents.specs.Content.{answered, read_answer, target_fits, content_fits, read_rows, write_rows}
use Rattle.contents.proofs.FileLaws.{file-stands, size-le}
use Rattle.contents.proofs.AnswerLaws.{answered-none, answered-first, read-refused}
use Rattle.contents.proofs.Outcomes.{Read, wrong-kind, wrong-length, wrong-block, wrong_size, wrong_row, all_read, read}

-- 28 is the last number, 67 the most blocks, 34,304 their bytes
pub record Bounded (a : Moved) : Type 0 where
  pub number : a.number ≤ 28
  pub place : a.place ≤ 67
  pub bytes : a.bytes ≤ 34304

length-le : (n : ℕ) → length_right n ≡ true → n ≤ 34304
unfolding length_right
length-le n e = leb-true n 34304 (and_right (ltb 0 n && eqb (n % 512) 0) (leb n 34304) e)

-- of a table at place 0, and of the rows behind a file
module _ (rows : List Row) (n : ℕ) (high : up_to 28 rows ≡ true) where
  pub answered-bounds : (number_of rows ≡ 0 → n ≤ 34304) → Bounded (answered rows n)
  answered-bounds small = go (ℕ_discrete (number_of rows) 0)
    where
      go : Dec (number_of rows ≡ 0) → Bounded (answered rows n)
      go (yes z) = subst Bounded (answered-none rows n z) (record { number = omega arith; place = omega arith; bytes = small z })
      go (no u) =
          subst Bounded (answered-first rows n (number_of rows) u (number-first rows (number_of rows) u refl))
          (record { number = number-high 28 rows high; place = omega arith; bytes = omega arith })

  pub read-bounds : (kind : ℕ) (bytes : List ℕ) → (size_fits kind (length (content_of bytes)) ≡ true → n ≤ 34304) → Bounded (read_answer kind bytes rows n)
  read-bounds kind bytes small = go (read_answer kind bytes rows n) (read kind bytes rows n)
    where
      go : (a : Moved) → Read kind bytes rows n a → Bounded a
      go a (wrong-kind k) = record { number = omega arith; place = omega arith; bytes = omega arith }
      go a (wrong-length k l) = record { number = omega arith; place = omega arith; bytes = omega arith }
      go a (wrong-block k l i h g u) =
          record {
            number = omega (arith, fault-le (block_at bytes i) kind i (length bytes / 512));
            place = omega (arith, length-le (length bytes) l);
            bytes = omega arith;
          }
      go a (wrong_size k l g s) = record { number = omega arith; place = omega arith; bytes = omega arith }
      go a (wrong_row k l g s m u f) =
          record { number = omega (arith, first-number rows m f, number-high 28 rows high); place = omega arith; bytes = omega arith }
      go a (all_read k l g s z) = record { number = omega arith; place = omega arith; bytes = small s }

-- "Place is the block for 21 to 24, else 0"
pub read-place : (kind : ℕ) (bytes : List ℕ) (rows : List Row) (n : ℕ) → (read_answer kind bytes rows n).place ≤ length bytes / 512
read-place kind bytes rows n = go (read_answer kind bytes rows n) (read kind bytes rows n)
  where
    go : (a : Moved) → Read kind bytes rows n a → a.place ≤ length bytes / 512
    go a (wrong-kind k) = omega arith
    go a (wrong-length k l) = omega arith
    go a (wrong-block k l i h g u) = omega arith
    go a (wrong_size k l g s) = omega arith
    go a (wrong_row k l g s m u f) = omega arith
    go a (all_read k l g s z) = omega arith

pub judged-place : (kind : ℕ) (bytes : List ℕ) → (file_judged kind bytes).place ≤ length bytes / 512
judged-place kind bytes =
    elim (ℕ_discrete (file_judged kind bytes).number 0) [
      | yes z ↦ omega (arith, ap (λ (a : Moved). a.place) (file-stands kind bytes z).answer)
      | no u ↦ omega (arith, ap (λ (a : Moved). a.place) (read-refused kind bytes [] 0 (file_judged kind bytes) refl u), read-place kind bytes [] 0)
    ]

-- a content that stands is no longer than a file may be
pub size_small : (kind : ℕ) (bytes : List ℕ) → size_fits kind (length (content_of bytes)) ≡ true → length (content_of bytes) ≤ 34304
size_small kind bytes s = omega (arith, size-le kind (length (content_of bytes)) s)

pub read-content-bounds : (kind : ℕ) (bytes target : List ℕ)
    → Bounded (read_answer kind bytes (read_rows (target_fits kind bytes target)) (length (content_of bytes)))
read-content-bounds kind bytes target = read-bounds (read_rows (target_fits kind bytes target)) (length (content_of bytes)) refl kind bytes (size_small kind bytes)

pub write-content-bounds : (kind : ℕ) (content : List ℕ) (room : ℕ)
    → (let need = 512 * block_count (length content) in Bounded (answered (write_rows kind (content_fits kind content) need room) need))
write-content-bounds kind content room =
    let need = 512 * block_count (length content) in
    let rows = write_rows kind (content_fits kind content) need room in
    answered-bounds rows need refl
    (λ z.
    let f = not-false (content_fits kind content) (number-none rows refl z).1.0 in
    omega (arith, size-le kind (length content) (and_right (not (is_picture kind)) (size_fits kind (length content)) f)))
