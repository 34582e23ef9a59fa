-- The outcomes of reading, each with what leads to it: one whose conditions hold is the answer, and every answer is one of them. Assumes nothing.
use mathlib.Core.Path.{◌≡◌, refl, sym, ap, subst, ◌∙◌}
use mathlib.Core.Bool.{Bool, true, false, cond}
use mathlib.Core.List.{List}
use Prim.Native.Nat.{ℕ, zero, suc, ◌/◌, ◌<◌}
use native.Mathlib.Numerals.{add-one}
use native.Mathlib.Decide.{ℕ_discrete}
use native.Mathlib.Omega.{arith}
use lib.Dec.{eqb}
use lib.ListN.{length}
use Rattle.bits.specs.Rows.{Row, number_of, FirstRow}
use Rattle.bits.proofs.Rows.{number-first}
use Rattle.blocks.specs.Block.{fault}
use Rattle.contents.specs.Moved.{Moved}
use Rattle.contents.specs.File.{done, refused, block_at, content_of, Verdict, good, bad, verdict, next, blocks_judged, kind_right, length_right, size_fits, file_judged}
use Rattle.contents.specs.Content.{answered, read_answer}
use Rattle.contents.specs.Numbers.{GoodBelow}
use Rattle.contents.proofs.FileLaws.{blocks-good, blocks-each, blocks-number, file-22, file-20, file-bad, file-good}
use Rattle.contents.proofs.AnswerLaws.{answered-none, answered-first, read-refused, read-rows}

-- ---- blocks in turn

module _ (kind : ℕ) (bytes : List ℕ) (count : ℕ) where
  all-good : (n : ℕ) → GoodBelow kind bytes count n → blocks_judged kind bytes count n ≡ good
  unfolding blocks_judged
  all-good zero g = refl
  all-good (suc n) g =
      sym (ap (blocks_judged kind bytes count) (add-one n)) ∙ blocks-good kind bytes count n (all-good n (λ j h. g j (omega arith))) (g n (omega arith))

  -- the block that is bad is the first that has a number
  first-bad : (n c p : ℕ) → blocks_judged kind bytes count n ≡ bad c p → (p < n) × GoodBelow kind bytes count p × (fault (block_at bytes p) kind p count ≡ c)
  unfolding blocks_judged
  first-bad zero c p e = absurd (let z : ◌≡◌ {A = ℕ} 0 1 = cc in omega arith)
  first-bad (suc n) c p e = go (blocks_judged kind bytes count n) refl e (first-bad n c p)
    where
      here : (x : ℕ) (t : Bool) → cond t good (bad x n) ≡ bad c p → (x ≡ c) × (n ≡ p)
      here x true f = absurd (let z : ◌≡◌ {A = ℕ} 0 1 = cc in omega arith)
      here x false f = (cc, cc)

      go : (v : Verdict) → blocks_judged kind bytes count n ≡ v → next v (verdict (fault (block_at bytes n) kind n count) n) ≡ bad c p
          → (blocks_judged kind bytes count n ≡ bad c p → (p < n) × GoodBelow kind bytes count p × (fault (block_at bytes p) kind p count ≡ c))
          → (p < suc n) × GoodBelow kind bytes count p × (fault (block_at bytes p) kind p count ≡ c)
      go good q f ih =
          let h = here (fault (block_at bytes n) kind n count) (eqb (fault (block_at bytes n) kind n count) 0) f in
          let e : p ≡ n = sym h.1 in (
            omega arith,
            λ j l. blocks-each kind bytes count n j (omega arith) q,
            ap (λ (k : ℕ). fault (block_at bytes k) kind k count) e ∙ h.0,
          )
      go (bad x y) q f ih = let r = ih (q ∙ f) in (omega (arith, r.0), r.1, r.2)

-- ---- reading

pub data Read (kind : ℕ) (bytes : List ℕ) (rows : List Row) (n : ℕ) : Moved → Type 0 where
  -- 22, for the kind asked
  wrong-kind : kind_right kind ≡ false → Read kind bytes rows n (refused 22 0)
  -- 20
  wrong-length : kind_right kind ≡ true → length_right (length bytes) ≡ false → Read kind bytes rows n (refused 20 0)
  -- 21 to 24: block i, the first that has a number
  wrong-block : kind_right kind ≡ true → length_right (length bytes) ≡ true
      → (i : ℕ) → i < length bytes / 512 → GoodBelow kind bytes (length bytes / 512) i → (fault (block_at bytes i) kind i (length bytes / 512) ≡ 0 → ⊥)
      → Read kind bytes rows n (refused (fault (block_at bytes i) kind i (length bytes / 512)) i)
  -- 25
  wrong_size : kind_right kind ≡ true → length_right (length bytes) ≡ true → GoodBelow kind bytes (length bytes / 512) (length bytes / 512)
      → size_fits kind (length (content_of bytes)) ≡ false → Read kind bytes rows n (refused 25 0)
  -- a row of what else is asked
  wrong_row : kind_right kind ≡ true → length_right (length bytes) ≡ true → GoodBelow kind bytes (length bytes / 512) (length bytes / 512)
      → size_fits kind (length (content_of bytes)) ≡ true → (m : ℕ) → (m ≡ 0 → ⊥) → FirstRow rows m → Read kind bytes rows n (refused m 0)
  -- 0
  all_read : kind_right kind ≡ true → length_right (length bytes) ≡ true → GoodBelow kind bytes (length bytes / 512) (length bytes / 512)
      → size_fits kind (length (content_of bytes)) ≡ true → number_of rows ≡ 0 → Read kind bytes rows n (done n)

module _ (kind : ℕ) (bytes : List ℕ) where
  abbrev count : ℕ
  count = length bytes / 512

  -- the file judged by itself, where every block is good
  sized : kind_right kind ≡ true → length_right (length bytes) ≡ true → GoodBelow kind bytes count count → (t : Bool) → size_fits kind (length (content_of bytes)) ≡ t
      → cond t (done (length (content_of bytes))) (refused 25 0) ≡ file_judged kind bytes
  sized k l g t s =
      sym (file-good kind bytes k l (length (content_of bytes)) (all-good kind bytes count count g) refl
      ∙ ap (λ (x : Bool). cond x (done (length (content_of bytes))) (refused 25 0)) s)

  module _ (rows : List Row) (n : ℕ) where
    -- what the rows answer, where the file stands
    stood : kind_right kind ≡ true → length_right (length bytes) ≡ true → GoodBelow kind bytes count count → size_fits kind (length (content_of bytes)) ≡ true
        → answered rows n ≡ read_answer kind bytes rows n
    stood k l g s = read-rows kind bytes rows n (done (length (content_of bytes))) (sized k l g true s) refl

    pub read_is : (a : Moved) → Read kind bytes rows n a → a ≡ read_answer kind bytes rows n
    read_is a (wrong-kind k) = read-refused kind bytes rows n (refused 22 0) (file-22 kind bytes k) (λ z. omega arith)
    read_is a (wrong-length k l) = read-refused kind bytes rows n (refused 20 0) (file-20 kind bytes k l) (λ z. omega arith)
    read_is a (wrong-block k l i h g u) =
        let c = fault (block_at bytes i) kind i count in
        read-refused kind bytes rows n (refused c i) (file-bad kind bytes k l i c h (all-good kind bytes count i g) refl u) u
    read_is a (wrong_size k l g s) = read-refused kind bytes rows n (refused 25 0) (sized k l g false s) (λ z. omega arith)
    read_is a (wrong_row k l g s m u f) = answered-first rows n m u f ∙ stood k l g s
    read_is a (all_read k l g s z) = answered-none rows n z ∙ stood k l g s

    pub read : Read kind bytes rows n (read_answer kind bytes rows n)
    read = go (kind_right kind) (length_right (length bytes)) (blocks_judged kind bytes count count) (size_fits kind (length (content_of bytes))) (ℕ_discrete (number_of rows) 0) refl refl refl refl
      where
        is : (a : Moved) → Read kind bytes rows n a → Read kind bytes rows n (read_answer kind bytes rows n)
        is a r = subst (Read kind bytes rows n) (read_is a r) r

        go : (k l : Bool) (v : Verdict) (s : Bool) → Dec (number_of rows ≡ 0) → kind_right kind ≡ k → length_right (length bytes) ≡ l → blocks_judged kind bytes count count ≡ v
            → size_fits kind (length (content_of bytes)) ≡ s → Read kind bytes rows n (read_answer kind bytes rows n)
        go false l v s d ek el ev es = is _ (wrong-kind ek)
        go true false v s d ek el ev es = is _ (wrong-length ek el)
        go true true (bad c p) s d ek el ev es =
            let b = first-bad kind bytes count count c p ev in
            is _ (wrong-block ek el p b.0 b.1 (λ z. blocks-number kind bytes count count c p ev (sym b.2 ∙ z)))
        go true true good false d ek el ev es = is _ (wrong_size ek el (λ j h. blocks-each kind bytes count count j h ev) es)
        go true true good true (no u) ek el ev es =
            is _ (wrong_row ek el (λ j h. blocks-each kind bytes count count j h ev) es (number_of rows) u (number-first rows (number_of rows) u refl))
        go true true good true (yes z) ek el ev es = is _ (all_read ek el (λ j h. blocks-each kind bytes count count j h ev) es z)
