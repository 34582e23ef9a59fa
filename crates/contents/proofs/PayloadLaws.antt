-- Laws of where a content stands: a piece of it within one payload, read and written; a content laid part by part, and the blocks made around it; the payloads of a file that stands. Assumes nothing.
use mathlib.Core.Path.{◌≡◌, refl, sym, ap, ap₂, ◌∙◌}
use mathlib.Core.List.{List, ◌++◌}
use Prim.Native.Nat.{ℕ, ◌+◌, ◌-◌, ◌*◌, ◌/◌, ◌%◌, ◌<◌, ◌≤◌, min}
use native.Mathlib.Nat.{zero-add}
use native.Mathlib.Omega.{arith}
use lib.ListN.{length, take, drop, get_or, length-append, length-drop, length-take, get_or-append}
use lib.Seq.{drop_at, take_all, length-take-le, get_or-take, get_or-drop, get_or-append-add, ext_get_or}
use borrow.Rule.Slice.PartMut.{put_mid}
use Rattle.bits.specs.Bits.{listed}
use Rattle.bits.specs.Steps.{written}
use Rattle.bits.proofs.Items.{length-listed, get_d-listed, listed-ext, listed-is, part-more}
use Rattle.bits.proofs.Puts.{part-put, put_written}
use Rattle.bits.proofs.Writes.{length-written, written_same, written_at, written-off, written-ext, written_then}
use Rattle.contents.specs.File.{block_at, content_of, block_count, first_blocks, blocks_of}
use Rattle.contents.specs.Content.{over}
use Rattle.contents.specs.Payloads.{payload_at, payloads, laid}
use Rattle.contents.proofs.FileLaws.{Stands, block-part, block-len}
use Rattle.contents.proofs.OneForm.{size_is, count-is, content-at}
use Rattle.contents.proofs.RoundTrip.{all-length}
use Rattle.contents.proofs.WriteLaws.{length-blocks}

-- ---- a piece within one payload

-- the numbers from q on, up to the payload's end, stand one behind the other
piece-at : (q piece j : ℕ) → piece ≤ 496 - q % 496 → j < piece → payload_at q + j ≡ payload_at (q + j)
piece-at q piece j h l =
    let hi : (q + j) / 496 ≡ q / 496 = omega arith in
    let lo : (q + j) % 496 ≡ q % 496 + j = omega arith in
    omega arith

-- the piece from number k on of a part of n bytes, which goes from number `at` of its content on
module _ (at k n start piece : ℕ) (es : start ≡ payload_at (at + k)) (el : piece ≤ 496 - (at + k) % 496) where
  -- where number k + j of the part stands
  place_at : (j : ℕ) → j < piece → start + j ≡ payload_at (at + (k + j))
  place_at j l =
      let e : at + k + j ≡ at + (k + j) = omega arith in
      ap (λ (x : ℕ). x + j) es ∙ piece-at (at + k) piece j el l ∙ ap payload_at e

  -- it stands in the blocks that hold the part
  pub piece_inside : k + piece ≤ n → 496 * ((at + k) / 496) < at + n → start + piece ≤ 512 * block_count (at + n)
  piece_inside l m = omega (arith, es, el)

  -- read
  pub part-read : (bytes part ys : List ℕ) → start + piece ≤ length bytes → k + piece ≤ length part → take k part ≡ payloads bytes at k
      → ys ≡ take (start + piece - start) (drop start bytes)
      → take (k + piece) (put_mid k (k + piece - k) part ys) ≡ payloads bytes at (k + piece)
  part-read bytes part ys hb hp e ey =
      let read : start + piece - start ≡ piece = omega arith in
      let size : piece ≡ k + piece - k = omega arith in
      let φ : ℕ → ℕ = λ j. get_or bytes (payload_at (at + j)) 0 in
      part-more φ part k (k + piece) ys (omega arith) hp e
      (ey
      ∙ ap (λ (x : ℕ). take x (drop start bytes)) read
      ∙ listed-is (λ j. φ (k + j)) piece (take piece (drop start bytes)) (length-take-le piece (drop start bytes) (omega (arith, length-drop start bytes)))
      (λ j h. get_or-take piece (drop start bytes) j 0 h ∙ get_or-drop start bytes j 0 ∙ ap (λ (x : ℕ). get_or bytes x 0) (place_at j h))
      ∙ ap (listed (λ j. φ (k + j))) size)

  -- written
  pub part-laid : (part out old ys : List ℕ) → start + piece ≤ length out → k + piece ≤ length part
      → out ≡ written (λ j. payload_at (at + j)) (λ j o. get_or part j 0) old k
      → ys ≡ take (k + piece - k) (drop k part)
      → put_mid start (start + piece - start) out ys ≡ written (λ j. payload_at (at + j)) (λ j o. get_or part j 0) old (k + piece)
  part-laid part out old ys ho hp e ey =
      let read : k + piece - k ≡ piece = omega arith in
      let part-size : piece ≡ start + piece - start = omega arith in
      let ez : ys ≡ take piece (drop k part) = ey ∙ ap (λ (x : ℕ). take x (drop k part)) read in
      let size : length ys ≡ piece = ap length ez ∙ length-take-le piece (drop k part) (omega (arith, length-drop k part)) in
      part-put start (start + piece) out ys (size ∙ part-size)
      ∙ put_written start ys out (omega arith)
      ∙ ap (written (λ j. start + j) (λ j o. get_or ys j 0) out) size
      ∙ written_then (λ j. payload_at (at + j)) (λ j o. get_or part j 0) old (λ j. start + j) (λ j o. get_or ys j 0) out k piece (k + piece) e refl place_at
      (λ j o h. ap (λ (l : List ℕ). get_or l j 0) ez ∙ get_or-take piece (drop k part) j 0 h ∙ get_or-drop k part j 0)

-- ---- a content laid part by part

pub laid_more : (xs ys out : List ℕ) (q : ℕ) → q ≡ length xs → laid ys q (laid xs 0 out) ≡ laid (xs ++ ys) 0 out
laid_more xs ys out q e =
    written_then (λ j. payload_at (0 + j)) (λ j o. get_or (xs ++ ys) j 0) out (λ j. payload_at (q + j)) (λ j o. get_or ys j 0) (laid xs 0 out) (length xs) (length ys) (length (xs ++ ys))
    (written-ext out (λ j. payload_at (0 + j)) (λ j o. get_or xs j 0) (λ j. payload_at (0 + j)) (λ j o. get_or (xs ++ ys) j 0) (length xs) (λ j h. refl) (λ j o h. sym (get_or-append xs ys 0 j h)))
    (sym (length-append xs ys))
    (λ j h. ap (λ (x : ℕ). payload_at (x + j)) e ∙ ap payload_at (sym (zero-add (length xs + j))))
    (λ j o h. sym (get_or-append-add xs ys j 0))

payload-inj : (q p : ℕ) → payload_at q ≡ payload_at p → q ≡ p
payload-inj q p e =
    let hi : q / 496 ≡ p / 496 = omega arith in
    let lo : q % 496 ≡ p % 496 = omega arith in
    omega arith

module _ (content out : List ℕ) (room : 512 * block_count (length content) ≤ length out) where
  place : ℕ → ℕ
  place k = payload_at (0 + k)

  value : ℕ → ℕ → ℕ
  value k o = get_or content k 0

  -- what was laid stands there
  laid-back : payloads (laid content 0 out) 0 (length content) ≡ content
  unfolding place value
  laid-back =
      sym (listed-is (λ k. get_or (laid content 0 out) (place k) 0) (length content) content refl
      (λ k h. sym (written_at place value out (length content) k (λ j l e. omega (arith, payload-inj (0 + k) (0 + j) e)) h (omega arith))))

  -- what stands behind the blocks stays
  laid-rest : drop (512 * block_count (length content)) (laid content 0 out) ≡ drop (512 * block_count (length content)) out
  unfolding place value
  laid-rest =
      let n = 512 * block_count (length content) in
      ext_get_or 0 (drop n (laid content 0 out)) (drop n out)
      (length-drop n (laid content 0 out) ∙ ap (λ (k : ℕ). k - n) (length-written place value out (length content)) ∙ sym (length-drop n out))
      (λ i h.
      get_or-drop n (laid content 0 out) i 0
      ∙ written-off place value out (length content) (n + i) (λ k l e. omega arith)
      ∙ sym (get_or-drop n out i 0))

  -- so blocks made around it are those of the content
  pub laid-sealed : (kind : ℕ) → over (blocks_of kind (payloads (laid content 0 out) 0 (length content))) (laid content 0 out) ≡ over (blocks_of kind content) out
  laid-sealed kind =
      ap (λ (l : List ℕ). over (blocks_of kind l) (laid content 0 out)) laid-back
      ∙ ap (λ (k : ℕ). blocks_of kind content ++ drop k (laid content 0 out)) (all-length kind content)
      ∙ ap (λ (l : List ℕ). blocks_of kind content ++ l) laid-rest
      ∙ sym (ap (λ (k : ℕ). blocks_of kind content ++ drop k out) (all-length kind content))

-- ---- the payload that a block is made around

module _ (kind size count i used : ℕ) (out old : List ℕ) (eu : used ≡ min 496 (size - 496 * i)) (room : 512 * i + 512 ≤ length old)
    (e : out ≡ first_blocks kind (payloads old 0 size) count i ++ drop (512 * i) old) where
  pub sealed-part : take used (drop 12 (take (512 * i + 512 - 512 * i) (drop (512 * i) out))) ≡ take 496 (drop (496 * i) (payloads old 0 size))
  sealed-part =
      ap (λ (l : List ℕ). take used (drop 12 l)) (block-part out i ∙ ap (take 512) rest)
      ∙ ext_get_or 0 (take used (drop 12 (block_at old i))) (take 496 (drop (496 * i) content)) (lu ∙ eu ∙ sym lp) (λ j h. same j (omega (arith, lu)))
    where
      φ : ℕ → ℕ
      φ = λ k. get_or old (payload_at (0 + k)) 0

      content : List ℕ
      content = listed φ size

      -- the block has not been touched yet
      rest : drop (512 * i) out ≡ drop (512 * i) old
      rest = ap (drop (512 * i)) e ∙ drop_at (first_blocks kind content count i) (drop (512 * i) old) (512 * i) (length-blocks kind content count i)

      lu : length (take used (drop 12 (block_at old i))) ≡ used
      lu = length-take-le used (drop 12 (block_at old i)) (omega (arith, length-drop 12 (block_at old i), block-len old i room))

      lp : length (take 496 (drop (496 * i) content)) ≡ min 496 (size - 496 * i)
      lp = length-take 496 (drop (496 * i) content) ∙ ap (min 496) (length-drop (496 * i) content ∙ ap (λ (k : ℕ). k - 496 * i) (length-listed φ size))

      same : (j : ℕ) → j < used → get_or (take used (drop 12 (block_at old i))) j 0 ≡ get_or (take 496 (drop (496 * i) content)) j 0
      same j h =
          let hi : (0 + (496 * i + j)) / 496 ≡ i = omega arith in
          let lo : (0 + (496 * i + j)) % 496 ≡ j = omega arith in
          get_or-take used (drop 12 (block_at old i)) j 0 h
          ∙ get_or-drop 12 (block_at old i) j 0
          ∙ get_or-take 512 (drop (512 * i) old) (12 + j) 0 (omega arith)
          ∙ get_or-drop (512 * i) old (12 + j) 0
          ∙ sym (get_or-take 496 (drop (496 * i) content) j 0 (omega arith)
          ∙ get_or-drop (496 * i) content j 0
          ∙ get_d-listed φ size (496 * i + j) (omega arith)
          ∙ ap₂ (λ (a b : ℕ). get_or old (512 * a + (12 + b)) 0) hi lo)

-- ---- a file that stands

-- what stands in its payloads is its content
pub payloads-content : (kind : ℕ) (bytes : List ℕ) → Stands kind bytes → (q n : ℕ) → q + n ≤ length (content_of bytes) → payloads bytes q n ≡ take n (drop q (content_of bytes))
payloads-content kind bytes s q n h =
    sym (listed-is (λ k. get_or bytes (payload_at (q + k)) 0) n (take n (drop q (content_of bytes)))
    (length-take-le n (drop q (content_of bytes)) (omega (arith, length-drop q (content_of bytes))))
    (λ k l. get_or-take n (drop q (content_of bytes)) k 0 l ∙ get_or-drop q (content_of bytes) k 0 ∙ content-at kind bytes s (q + k) (omega arith)))

-- the blocks of a part of it are there
pub payloads-room : (kind : ℕ) (bytes : List ℕ) → Stands kind bytes → (n : ℕ) → n ≤ length (content_of bytes) → 512 * block_count n ≤ length bytes
payloads-room kind bytes s n h = omega (arith, size_is kind bytes s, count-is kind bytes s)

-- its payloads read into a lent part put the content over a target
pub content-read : (kind : ℕ) (bytes : List ℕ) → Stands kind bytes → (target ys : List ℕ) (size : ℕ) → size ≡ length (content_of bytes) → size ≤ length target
    → ys ≡ payloads bytes 0 (length (take size target)) → ys ++ drop size target ≡ over (content_of bytes) target
content-read kind bytes s target ys size es h e =
    let content = content_of bytes in
    ap₂ (λ (l : List ℕ) (k : ℕ). l ++ drop k target)
    (e ∙ ap (payloads bytes 0) (length-take-le size target h) ∙ payloads-content kind bytes s 0 size (omega arith) ∙ take_all size content (omega arith)) es

-- ---- a file that stands, copied over an output

-- its blocks are all of its bytes
pub file-size : (kind : ℕ) (bytes : List ℕ) → Stands kind bytes → length bytes ≡ 512 * block_count (length (content_of bytes))
file-size kind bytes s = size_is kind bytes s ∙ ap (λ (n : ℕ). 512 * n) (sym (count-is kind bytes s))

-- to lay a content where it stands already changes nothing
laid_same : (content out : List ℕ) → payloads out 0 (length content) ≡ content → laid content 0 out ≡ out
laid_same content out e =
    written_same (λ k. payload_at (0 + k)) (λ k o. get_or content k 0) out (length content)
    (λ k h. ap (λ (l : List ℕ). get_or l k 0) (sym e) ∙ get_d-listed (λ j. get_or out (payload_at (0 + j)) 0) (length content) k h)

-- the payloads of the first blocks are the file's
payloads-over : (bytes out : List ℕ) (n : ℕ) → 512 * block_count n ≤ length bytes → payloads (over bytes out) 0 n ≡ payloads bytes 0 n
payloads-over bytes out n room =
    listed-ext (λ k. get_or (over bytes out) (payload_at (0 + k)) 0) (λ k. get_or bytes (payload_at (0 + k)) 0) n
    (λ k h. get_or-append bytes (drop (length bytes) out) 0 (payload_at (0 + k)) (omega arith))

over-over : (a b out : List ℕ) → length a ≡ length b → over a (over b out) ≡ over a out
over-over a b out e =
    ap (λ (l : List ℕ). a ++ l) (drop_at b (drop (length b) out) (length a) (sym e) ∙ ap (λ (n : ℕ). drop n out) (sym e))

-- with more laid behind the first n bytes of its content, and sealed as another kind of as many blocks
pub copied-sealed : (kind kind' : ℕ) (bytes out more : List ℕ) (n : ℕ) → Stands kind bytes → n ≤ length (content_of bytes)
    → 512 * block_count (n + length more) ≡ length bytes
    → (let o = laid more n (over bytes out) in over (blocks_of kind' (payloads o 0 (n + length more))) o)
    ≡ over (blocks_of kind' (take n (content_of bytes) ++ more)) out
copied-sealed kind kind' bytes out more n s h room =
    ap₂ (λ (o : List ℕ) (m : ℕ). over (blocks_of kind' (payloads o 0 m)) o) laid-all (sym size)
    ∙ laid-sealed all copy (omega (arith, size, length-append bytes (drop (length bytes) out))) kind'
    ∙ over-over (blocks_of kind' all) bytes out (all-length kind' all ∙ ap (λ (m : ℕ). 512 * block_count m) size ∙ room)
  where
    copy : List ℕ
    copy = over bytes out

    front : List ℕ
    front = take n (content_of bytes)

    all : List ℕ
    all = front ++ more

    front_length : length front ≡ n
    front_length = length-take-le n (content_of bytes) h

    size : length all ≡ n + length more
    size = length-append front more ∙ ap (λ (k : ℕ). k + length more) front_length

    stands-there : payloads copy 0 (length front) ≡ front
    stands-there =
        ap (payloads copy 0) front_length
        ∙ payloads-over bytes out n (payloads-room kind bytes s n h)
        ∙ payloads-content kind bytes s 0 n (omega arith)

    laid-all : laid more n copy ≡ laid all 0 copy
    laid-all = ap (laid more n) (sym (laid_same front copy stands-there)) ∙ laid_more front more copy n (sym front_length)
