-- The two conversions, on a page: either way and back gives the same bytes where it is allowed, from "a good file has one form"; and what is made reads as what it was made of, with both mode registers unset or without them. Assumes nothing.
use mathlib.Core.Path.{◌≡◌, refl, sym, ap, ◌∙◌}
use mathlib.Core.Bool.{true}
use mathlib.Core.List.{List, ◌++◌}
use Prim.Native.Nat.{ℕ, ◌+◌, ◌*◌, ◌<◌, ◌≤◌}
use native.Mathlib.Omega.{arith}
use lib.ListN.{length, take, drop, length-append, length-drop, take-append-drop}
use lib.Seq.{take_at, drop_at, drop-drop, drop-append-le, take-append-le, take-take, length-take-le}
use borrow.Author.Tests.{le-ltb}
use Rattle.bits.proofs.Rows.{number-none}
use Rattle.registers.specs.Modes.{modes_of, mode_bytes, none_set, wrong_modes, any_set}
use Rattle.registers.proofs.ModeLaws.{modes-behind, modes-last, modes-none, unset-zeros}
use Rattle.blocks.specs.Sums.{at}
use Rattle.contents.specs.Moved.{Moved}
use Rattle.contents.specs.File.{is_picture, done, content_of, block_count, blocks_of}
use Rattle.contents.specs.Content.{over}
use Rattle.contents.proofs.FileLaws.{Stands, file-stands}
use Rattle.contents.proofs.AnswerLaws.{left-changed, read_done, read-stands}
use Rattle.contents.proofs.RoundTrip.{all-content}
use Rattle.contents.proofs.OneForm.{one_form}
use Rattle.pictures.specs.Picture.{picture_registers, content_modes, scrambled, picture_read}
use Rattle.pictures.specs.Conversion.{new_content, old_content, to_new_rows, to_old_rows, to_new, to_old}
use Rattle.pictures.proofs.PictureLaws.{written-judged, words-front}
use Rattle.pictures.proofs.ConversionLaws.{picture-bytes}
use Rattle.pictures.proofs.RoundTripDemand.{file-is, written_read}

-- ---- a content made new

module _ (content : List ℕ) (n : length content ≡ 8288) where
  new-size : length (new_content content) ≡ 8292
  new-size = length-append content (mode_bytes none_set) ∙ ap (λ (k : ℕ). k + 4) n

  -- its registers are the old ones, and both mode registers unset
  new-registers : drop 8192 (new_content content) ≡ drop 8192 content ++ mode_bytes none_set
  new-registers = drop-append-le 8192 content (mode_bytes none_set) (omega arith)

  new-modes : content_modes (new_content content) ≡ none_set
  new-modes =
      ap (λ (l : List ℕ). modes_of l) new-registers
      ∙ modes-behind (drop 8192 content ++ mode_bytes none_set) (mode_bytes none_set)
      (drop_at (drop 8192 content) (mode_bytes none_set) 96 (length-drop 8192 content ∙ omega arith))

  new-old : old_content (new_content content) ≡ content
  new-old = take_at content (mode_bytes none_set) 8288 n

-- and one made old, where neither is set
old-new : (content : List ℕ) → length content ≡ 8292 → content_modes content ≡ none_set → new_content (old_content content) ≡ content
old-new content n m =
    let last : mode_bytes none_set ≡ drop 8288 content =
    sym (ap (λ x. mode_bytes x) m) ∙ modes-last (drop 8192 content) (length-drop 8192 content ∙ omega arith) ∙ drop-drop 96 8192 content in
    ap (λ (l : List ℕ). take 8288 content ++ l) last ∙ take-append-drop 8288 content

-- ---- what a conversion leaves of a file that it takes

module _ (bytes out : List ℕ) (s : Stands 1 bytes) (room : 8704 ≤ length out) where
  made-new : to_new bytes out ≡ record { answer = done 8704; buffer = over (blocks_of 4 (new_content (content_of bytes))) out }
  unfolding to_new
  made-new =
      sym (left-changed (done 8704) _ (over (blocks_of 4 (new_content (content_of bytes))) out) out
      (read_done 1 bytes (to_new_rows (length out)) 8704 s.answer (le-ltb (length out) 8704 room, tt)) _ refl refl)

module _ (bytes out : List ℕ) (s : Stands 4 bytes) (m : content_modes (content_of bytes) ≡ none_set) (room : 8704 ≤ length out) where
  made-old : to_old bytes out ≡ record { answer = done 8704; buffer = over (blocks_of 1 (old_content (content_of bytes))) out }
  unfolding to_old wrong_modes
  made-old =
      let rows = to_old_rows (content_modes (content_of bytes)) (length out) in
      sym (left-changed (done 8704) _ (over (blocks_of 1 (old_content (content_of bytes))) out) out
      (read_done 4 bytes rows 8704 s.answer (ap (λ x. wrong_modes x) m, (ap (λ x. any_set x) m, (le-ltb (length out) 8704 room, tt)))) _ refl refl)

-- a file that is written stands
written_stands : (kind : ℕ) (content : List ℕ) → is_picture kind ≡ true → length content ≡ 8192 + picture_registers kind → Stands kind (blocks_of kind content)
written_stands kind content p n = file-stands kind (blocks_of kind content) (ap (λ (a : Moved). a.number) (written-judged kind content p n))

-- ---- there and back

-- the file that old to new puts out
module _ (bytes out : List ℕ) (z : (to_new bytes out).answer.number ≡ 0) where
  taken-old : Stands 1 bytes
  unfolding to_new
  taken-old = file-stands 1 bytes (read-stands 1 bytes (to_new_rows (length out)) 8704 z).0

  new-file : (let r = to_new bytes out in take r.answer.bytes r.buffer) ≡ blocks_of 4 (new_content (content_of bytes))
  unfolding to_new
  new-file =
      let n = new-size (content_of bytes) (picture-bytes 1 bytes refl taken-old) in
      file-is 4 (new_content (content_of bytes)) out _ ((read-stands 1 bytes (to_new_rows (length out)) 8704 z).2 ∙ ap (λ (k : ℕ). done (512 * block_count k)) (sym n))

  pub new-back : (out' : List ℕ) → ((k : ℕ) → at bytes k < 256) → 8704 ≤ length out'
      → (let r = to_new bytes out in to_old (take r.answer.bytes r.buffer) out') ≡ record { answer = done 8704; buffer = over bytes out' }
  new-back out' small room =
      let c = content_of bytes in
      let n = picture-bytes 1 bytes refl taken-old in
      let f = blocks_of 4 (new_content c) in
      let e : content_of f ≡ new_content c = all-content 4 (new_content c) in
      ap (λ (l : List ℕ). to_old l out') new-file
      ∙ made-old f out' (written_stands 4 (new_content c) refl (new-size c n)) (ap content_modes e ∙ new-modes c n) room
      ∙ ap (λ (l : List ℕ). record { answer = done 8704; buffer = over l out' }) (ap (λ (l : List ℕ). blocks_of 1 (old_content l)) e ∙ ap (blocks_of 1) (new-old c n) ∙ one_form 1 bytes taken-old small)

  -- it reads as the old one does, with both mode registers unset
  pub new-reads : (memory registers : List ℕ) → length memory ≡ 8192 → length registers ≡ 100
      → (let r = to_new bytes out in picture_read 4 (take r.answer.bytes r.buffer) memory registers)
      ≡ record { answer = done 8292; memory = scrambled (content_of bytes); registers = drop 8192 (content_of bytes) ++ mode_bytes none_set }
  unfolding wrong_modes
  new-reads memory registers lm lr =
      let c = content_of bytes in
      let n = picture-bytes 1 bytes refl taken-old in
      ap (λ (l : List ℕ). picture_read 4 l memory registers) new-file
      ∙ written_read 4 (new_content c) memory registers refl (new-size c n) (ap (λ x. wrong_modes x) (new-modes c n)) lm lr
      ∙ (λ i. record { answer = done (new-size c n i); memory = longer i; registers = new-registers c n i })
    where
      longer : scrambled (new_content (content_of bytes)) ≡ scrambled (content_of bytes)
      longer =
          let c = content_of bytes in
          let n = picture-bytes 1 bytes refl taken-old in
          sym (words-front (new_content c) (omega (arith, new-size c n))) ∙ ap scrambled (take-append-le 8192 c (mode_bytes none_set) (omega arith)) ∙ words-front c (omega arith)

-- the file that new to old puts out
module _ (bytes out : List ℕ) (z : (to_old bytes out).answer.number ≡ 0) where
  taken-new : Stands 4 bytes
  unfolding to_old
  taken-new = file-stands 4 bytes (read-stands 4 bytes (to_old_rows (content_modes (content_of bytes)) (length out)) 8704 z).0

  -- neither register is set
  none-set : content_modes (content_of bytes) ≡ none_set
  unfolding to_old
  none-set =
      let rows = to_old_rows (content_modes (content_of bytes)) (length out) in
      let none = number-none rows refl (read-stands 4 bytes rows 8704 z).1 in
      unset-zeros (content_modes (content_of bytes)) none.0 none.1.0

  old-size : length (old_content (content_of bytes)) ≡ 8288
  old-size = length-take-le 8288 (content_of bytes) (omega (arith, picture-bytes 4 bytes refl taken-new))

  old-file : (let r = to_old bytes out in take r.answer.bytes r.buffer) ≡ blocks_of 1 (old_content (content_of bytes))
  unfolding to_old
  old-file =
      file-is 1 (old_content (content_of bytes)) out _
      ((read-stands 4 bytes (to_old_rows (content_modes (content_of bytes)) (length out)) 8704 z).2 ∙ ap (λ (k : ℕ). done (512 * block_count k)) (sym old-size))

  pub old-back : (out' : List ℕ) → ((k : ℕ) → at bytes k < 256) → 8704 ≤ length out'
      → (let r = to_old bytes out in to_new (take r.answer.bytes r.buffer) out') ≡ record { answer = done 8704; buffer = over bytes out' }
  old-back out' small room =
      let c = content_of bytes in
      let f = blocks_of 1 (old_content c) in
      let e : content_of f ≡ old_content c = all-content 1 (old_content c) in
      ap (λ (l : List ℕ). to_new l out') old-file
      ∙ made-new f out' (written_stands 1 (old_content c) refl old-size) room
      ∙ ap (λ (l : List ℕ). record { answer = done 8704; buffer = over l out' })
      (ap (λ (l : List ℕ). blocks_of 4 (new_content l)) e ∙ ap (blocks_of 4) (old-new c (picture-bytes 4 bytes refl taken-new) none-set) ∙ one_form 4 bytes taken-new small)

  -- it reads as the new one does, without the mode registers
  pub old-reads : (memory registers : List ℕ) → length memory ≡ 8192 → length registers ≡ 96
      → (let r = to_old bytes out in picture_read 1 (take r.answer.bytes r.buffer) memory registers)
      ≡ record { answer = done 8288; memory = scrambled (content_of bytes); registers = drop 8192 (old_content (content_of bytes)) }
  unfolding wrong_modes
  old-reads memory registers lm lr =
      let c = old_content (content_of bytes) in
      let unset = modes-none (drop 8192 c) (omega (arith, old-size, length-drop 8192 c)) in
      ap (λ (l : List ℕ). picture_read 1 l memory registers) old-file
      ∙ written_read 1 c memory registers refl old-size (ap (λ x. wrong_modes x) unset) lm lr
      ∙ (λ i. record { answer = done (old-size i); memory = shorter i; registers = drop 8192 c })
    where
      shorter : scrambled (old_content (content_of bytes)) ≡ scrambled (content_of bytes)
      shorter =
          let c = content_of bytes in
          sym (words-front (old_content c) (omega (arith, old-size)))
          ∙ ap scrambled (take-take 8192 8288 c (omega arith))
          ∙ words-front c (omega (arith, picture-bytes 4 bytes refl taken-new))
