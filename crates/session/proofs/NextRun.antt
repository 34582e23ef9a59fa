-- What a run leaves is where the next begins: with its after.pic for before.pic, the program runs from the same memory and registers, mode registers too, and takes the kind that was written. Assumes nothing.
use mathlib.Core.Path.{◌≡◌, refl, sym, ap, ap₂, ◌∙◌}
use mathlib.Core.Bool.{true, false}
use mathlib.Core.List.{List, ◌++◌, append-nil}
use mathlib.Core.Logic.{◌⊎◌, inl, inr}
use Prim.Native.Nat.{ℕ, ◌+◌, ◌*◌, ◌/◌, ◌<◌}
use native.Mathlib.Omega.{arith}
use lib.ListN.{length, take, drop, take-append-drop}
use lib.Seq.{take_all, get_or-take}
use Rattle.registers.specs.Modes.{modes_of, mode_bytes, none_set, wrong_modes}
use Rattle.registers.proofs.ModeLaws.{modes-last, unset-zeros}
use Rattle.module.specs.Run.{Lent, ran}
use Rattle.module.proofs.RunLaws.{modes-right}
use Rattle.module.proofs.Good.{memory-left, registers-left}
use Rattle.blocks.specs.Sums.{at}
use Rattle.blocks.specs.Block.{two_at}
use Rattle.blocks.proofs.BlockLaws.{fault-good}
use Rattle.contents.specs.Moved.{Moved}
use Rattle.contents.specs.File.{is_picture, done, block_at, content_of, file_judged, blocks_of}
use Rattle.contents.specs.Content.{read_answer, over}
use Rattle.contents.proofs.FileLaws.{Stands, file-stands, blocks-each}
use Rattle.contents.proofs.AnswerLaws.{read_done}
use Rattle.contents.proofs.RoundTrip.{all-content}
use Rattle.pictures.specs.Picture.{picture_registers, picture_of, scrambled, content_modes, picture_read_rows}
use Rattle.pictures.proofs.PictureLaws.{picture-kinds, written-judged, length-picture, picture-rest, picture-scrambled}
use Rattle.session.specs.Session.{File, bytes, kind_of, picture_judged, picture_answer, kind_written, after_of, finished, blank_registers, with_list, outcome}
use Rattle.session.proofs.FileLaws.{read_short, kind-four, kind-other}
use Rattle.session.proofs.SessionLaws.{stands-first, after-done, after-size, front_length, front-right, written-picture}
use Rattle.session.proofs.SessionDemand.{none-lost}

module _ (took : ℕ) (m g : List ℕ) (lm : length m ≡ 8192) (small : (k : ℕ) → at m k < 256) (lg : length g ≡ 100) (right : wrong_modes (modes_of g) ≡ false) where
  abbrev kind : ℕ
  kind = kind_written took g

  abbrev x : List ℕ
  x = take (picture_registers kind) g

  abbrev file : List ℕ
  file = blocks_of kind (picture_of m x)

  is : is_picture kind ≡ true
  is = written-picture took g

  lx : length x ≡ picture_registers kind
  lx = front_length kind g lg

  size : length file ≡ 8704
  size = after-size kind m x lx

  -- it stands, as a picture of its kind
  judged : file_judged kind file ≡ done (length (picture_of m x))
  judged = written-judged kind (picture_of m x) is (length-picture m x ∙ ap (λ (n : ℕ). 8192 + n) lx)

  stands : Stands kind file
  stands = file-stands kind file (ap (λ (a : Moved). a.number) judged)

  content : content_of file ≡ picture_of m x
  content = all-content kind (picture_of m x)

  -- its first two bytes are its kind
  first : two_at file 0 ≡ kind
  first =
      let n = length file / 512 in
      let h : 0 < n = omega (arith, size) in
      sym (ap₂ (λ (a b : ℕ). a + 256 * b) (get_or-take 512 file 0 0 (omega arith)) (get_or-take 512 file 1 0 (omega arith)))
      ∙ (fault-good (block_at file 0) kind 0 n (blocks-each kind file n n 0 h stands.blocks)).kind-is

  taken-again : kind_of file ≡ kind
  taken-again = go (picture-kinds kind is)
    where
      go : (kind ≡ 1) ⊎ (kind ≡ 4) → kind_of file ≡ kind
      go (inl k) = sym (kind-other file (omega (arith, size)) (λ e. omega (arith, first))) ∙ sym k
      go (inr k) = sym (kind-four file (omega (arith, size)) (first ∙ k)) ∙ sym k

  -- its registers are those of the run
  rest : drop 8192 (content_of file) ≡ x
  rest = ap (drop 8192) content ∙ picture-rest m x

  same-registers : over x blank_registers ≡ g
  same-registers = go (picture-kinds kind is)
    where
      go : (kind ≡ 1) ⊎ (kind ≡ 4) → over x blank_registers ≡ g
      go (inl k) =
          let short : take (picture_registers kind) g ≡ take 96 g = ap (λ (n : ℕ). take (picture_registers n) g) k in
          let modes : modes_of g ≡ none_set = unset-zeros (modes_of g) right (none-lost took g k) in
          let last : drop 96 blank_registers ≡ drop 96 g = sym (ap mode_bytes modes) ∙ modes-last g lg in
          ap₂ (λ (l : List ℕ) (n : ℕ). l ++ drop n blank_registers) short (lx ∙ ap picture_registers k) ∙ ap (λ (l : List ℕ). take 96 g ++ l) last ∙ take-append-drop 96 g
      go (inr k) =
          let long : take (picture_registers kind) g ≡ g = ap (λ (n : ℕ). take (picture_registers n) g) k ∙ take_all 100 g (omega arith) in
          ap₂ (λ (l : List ℕ) (n : ℕ). l ++ drop n blank_registers) long (lx ∙ ap picture_registers k) ∙ append-nil g

  -- and 15 does not refuse them
  answered : picture_answer (bytes file) ≡ done (length (content_of file))
  answered =
      let n = length (content_of file) in
      let rows = picture_read_rows true (content_modes (content_of file)) in
      sym (read_short 8704 picture_judged file (omega (arith, size)))
      ∙ ap (λ (k : ℕ). read_answer k file rows n) taken-again
      ∙ sym (read_done kind file rows n judged (refl, (ap (λ (l : List ℕ). wrong_modes (modes_of l)) rest ∙ front-right kind g is lg right, tt)))

  next-after : (list items : File) → outcome (bytes (after_of took 0 m g)) list items ≡ with_list kind m g list items
  unfolding outcome
  next-after list items =
      ap (λ (b : List ℕ). outcome (bytes b) list items) (after-done took 0 m g refl)
      ∙ stands-first 112 (done (length (content_of file))) (picture_answer (bytes file)) _ (sym answered) refl
      ∙ ap₂ (λ (k : ℕ) (l : List ℕ). with_list k (scrambled (content_of file)) (over l blank_registers) list items) taken-again rest
      ∙ ap₂ (λ (memory registers : List ℕ). with_list kind memory registers list items) (ap scrambled content ∙ picture-scrambled m x lm small) same-registers

-- of a run that is done, of a memory of bytes, by the picture that it has written
pub next-run : (took : ℕ) (l : Lent (List ℕ)) → (ran l).answer.number ≡ 0 → ((k : ℕ) → at l.memory k < 256)
    → (list items : File) → outcome (bytes (finished took (ran l)).after) list items ≡ with_list (kind_written took (ran l).registers) (ran l).memory (ran l).registers list items
unfolding finished
next-run took l z low list items =
    let m = (ran l).memory in
    let g = (ran l).registers in
    let memory = memory-left l z low in
    let size = registers-left l z in
    ap (λ (n : ℕ). outcome (bytes (after_of took n m g)) list items) z ∙ next-after took m g memory.size memory.low size (modes-right l z size) list items
