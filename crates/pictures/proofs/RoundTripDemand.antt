-- The round trips of the public entries, on a page: what is written is read back as it was, and what is read and written again is the same bytes. What is left is what the contracts say; the laws cited are in RoundTrip, OneForm and PictureLaws. Assumes nothing.
use mathlib.Core.Path.{◌≡◌, refl, sym, ap, ap₂, ◌∙◌}
use mathlib.Core.Bool.{Bool, true, false, not, ◌&&◌}
use mathlib.Core.List.{List, ◌++◌}
use Prim.Native.Nat.{ℕ, ◌+◌, ◌*◌, ◌<◌, ◌≤◌}
use native.Mathlib.Omega.{arith}
use lib.Dec.{leb}
use lib.ListN.{length, take, drop, length-drop, take-append-drop}
use lib.Seq.{take_at}
use borrow.Author.Tests.{le-leb, le-ltb, not-true, not-false}
use Rattle.bits.specs.Rows.{number_of}
use Rattle.bits.proofs.Rows.{and_left, and_right, number-none}
use Rattle.registers.specs.Modes.{modes_of, wrong_modes}
use Rattle.words.proofs.PlainLaws.{length-scrambled}
use Rattle.blocks.specs.Sums.{at}
use Rattle.contents.specs.Moved.{Moved}
use Rattle.contents.specs.File.{is_picture, done, content_of, kind_right, size_fits, file_judged, block_count, blocks_of}
use Rattle.contents.specs.Content.{answered, read_answer, changed, over, target_fits, content_fits, read_rows, write_rows, content_read, content_written}
use Rattle.pictures.specs.Picture.{plain_words, picture_registers, picture_of, scrambled, content_modes, picture_fits, picture_read_rows, picture_read, picture_write_rows, picture_written}
use Rattle.contents.proofs.FileLaws.{file-stands, Stands}
use Rattle.contents.proofs.AnswerLaws.{changed-done, left-changed, answered-none, answered-no-row, answered-0, read-rows, read_done, read-stands}
use Rattle.contents.proofs.RoundTrip.{all-length, all-content, trip}
use Rattle.contents.proofs.OneForm.{content-bytes, one_form}
use Rattle.pictures.proofs.PictureLaws.{length-picture, picture-rest, fits-are, are-fits, picture-judged, picture-right, written-judged, picture-size, picture-stands, picture-blocks, content-plain, picture-scrambled, both-changed}

-- ---- the bytes put out are the blocks

pub file-is : (kind : ℕ) (content out : List ℕ) (a : Moved) → a ≡ done (512 * block_count (length content))
    → take a.bytes (changed a (over (blocks_of kind content) out) out) ≡ blocks_of kind content
file-is kind content out a e =
    let b = blocks_of kind content in
    ap₂ (λ (n : ℕ) (l : List ℕ). take n l) (ap (λ (x : Moved). x.bytes) e) (sym (changed-done a (over b out) out (ap (λ (x : Moved). x.number) e)))
    ∙ take_at b (drop (length b) out) (512 * block_count (length content)) (all-length kind content)

-- ---- what is written is read back: every content that `write_content` takes, into any target that has room

content-read : (kind : ℕ) (content target bytes : List ℕ) → kind_right kind ≡ true → content_fits kind content ≡ true → length content ≤ length target
    → bytes ≡ blocks_of kind content → content_read kind bytes target ≡ record { answer = done (length content); buffer = over content target }
unfolding content_read
content-read kind content target bytes k f h e =
    let q : file_judged kind bytes ≡ done (length content) = ap (file_judged kind) e ∙ trip kind content k (and_right (not (is_picture kind)) (size_fits kind (length content)) f) in
    let c : content_of bytes ≡ content = ap content_of e ∙ all-content kind content in
    let t : target_fits kind bytes target ≡ true =
    ap₂ ◌&&◌ (and_left (not (is_picture kind)) (size_fits kind (length content)) f)
    (ap (λ (l : List ℕ). leb (length l) (length target)) c ∙ le-leb (length content) (length target) h) in
    let rows = read_rows (target_fits kind bytes target) in
    sym (left-changed (done (length content)) _ (over (content_of bytes) target) target
    (ap (λ (l : List ℕ). done (length l)) (sym c)
    ∙ answered-none rows (length (content_of bytes)) (ap (λ (x : Bool). number_of (read_rows x)) t)
    ∙ read-rows kind bytes rows (length (content_of bytes)) (done (length content)) (sym q) refl)
    (over content target) (ap (λ (l : List ℕ). over l target) (sym c)) refl)

pub content-back : (kind : ℕ) (content out target : List ℕ) → (content_written kind content out).answer.number ≡ 0 → length content ≤ length target
    → (let w = content_written kind content out in
    content_read kind (take w.answer.bytes w.buffer) target ≡ record { answer = done (length content); buffer = over content target })
unfolding content_written
content-back kind content out target z h =
    let need = 512 * block_count (length content) in
    let rows = write_rows kind (content_fits kind content) need (length out) in
    let a = answered rows need in
    let none = answered-0 rows need z in
    let w = number-none rows refl none in
    content-read kind content target (take a.bytes (changed a (over (blocks_of kind content) out) out)) (not-false (kind_right kind) w.0) (not-false (content_fits kind content) w.1.0) h
    (file-is kind content out a (sym (answered-none rows need none)))

-- ---- what is read and written again is the same bytes, for lists and items

content-rewritten : (kind : ℕ) (bytes out content : List ℕ) → Stands kind bytes → ((k : ℕ) → at bytes k < 256) → content ≡ content_of bytes → is_picture kind ≡ false
    → length bytes ≤ length out → content_written kind content out ≡ record { answer = done (length bytes); buffer = over bytes out }
unfolding content_written
content-rewritten kind bytes out content s small c k h =
    let b : blocks_of kind content ≡ bytes = ap (blocks_of kind) c ∙ one_form kind bytes s small in
    let need = 512 * block_count (length content) in
    let n : need ≡ length bytes = sym (all-length kind content) ∙ ap length b in
    let f : content_fits kind content ≡ true = ap₂ (λ (x y : Bool). not x && y) k (ap (λ (l : List ℕ). size_fits kind (length l)) c ∙ s.sizes) in
    let rows = write_rows kind (content_fits kind content) need (length out) in
    sym (left-changed (done (length bytes)) _ (over (blocks_of kind content) out) out
    (ap done (sym n) ∙ answered-no-row rows need (ap not s.kinds, (ap not f, (le-ltb (length out) need (omega (arith, n)), tt))))
    (over bytes out) (ap (λ (l : List ℕ). over l out) (sym b)) refl)

pub content-again : (kind : ℕ) (bytes target out : List ℕ) → ((k : ℕ) → at bytes k < 256) → (content_read kind bytes target).answer.number ≡ 0 → length bytes ≤ length out
    → (let r = content_read kind bytes target in
    content_written kind (take r.answer.bytes r.buffer) out ≡ record { answer = done (length bytes); buffer = over bytes out })
unfolding content_read
content-again kind bytes target out small z h =
    let content = content_of bytes in
    let rows = read_rows (target_fits kind bytes target) in
    let a = read_answer kind bytes rows (length content) in
    let w = read-stands kind bytes rows (length content) z in
    let t = not-false (target_fits kind bytes target) (number-none rows refl w.1).0 in
    let c : take a.bytes (changed a (over content target) target) ≡ content =
    ap₂ (λ (n : ℕ) (l : List ℕ). take n l) (ap (λ (x : Moved). x.bytes) w.2) (sym (changed-done a (over content target) target z))
    ∙ take_at content (drop (length content) target) (length content) refl in
    content-rewritten kind bytes out (take a.bytes (changed a (over content target) target)) (file-stands kind bytes w.0) small c
    (not-true (is_picture kind) (and_left (not (is_picture kind)) (leb (length content) (length target)) t)) h

-- ---- the same for pictures, of either kind

-- the blocks of a picture's content read as that content
pub written_read : (kind : ℕ) (content memory registers : List ℕ) → is_picture kind ≡ true → length content ≡ 8192 + picture_registers kind
    → wrong_modes (content_modes content) ≡ false → length memory ≡ 8192 → length registers ≡ picture_registers kind
    → picture_read kind (blocks_of kind content) memory registers ≡ record { answer = done (length content); memory = scrambled content; registers = drop 8192 content }
unfolding picture_read
written_read kind content memory registers p n right lm lr =
    let bytes = blocks_of kind content in
    let c : content_of bytes ≡ content = all-content kind content in
    let fits = are-fits kind (length memory) (length registers) p lm lr in
    let rows = picture_read_rows (picture_fits kind (length memory) (length registers)) (content_modes (content_of bytes)) in
    sym (both-changed (done (length content)) _ (scrambled (content_of bytes)) memory (drop 8192 (content_of bytes)) registers
    (ap done (ap length (sym c))
    ∙ read_done kind bytes rows (length (content_of bytes)) (written-judged kind content p n) (ap not fits, (ap (λ (l : List ℕ). wrong_modes (content_modes l)) c ∙ right, tt)))
    (scrambled content) (drop 8192 content) (ap scrambled (sym c)) (ap (drop 8192) (sym c)) refl)

pub picture-back : (kind : ℕ) (memory registers out memory' registers' : List ℕ) → ((k : ℕ) → at memory k < 256)
    → (picture_written kind memory registers out).answer.number ≡ 0 → length memory' ≡ 8192 → length registers' ≡ length registers
    → (let w = picture_written kind memory registers out in
    picture_read kind (take w.answer.bytes w.buffer) memory' registers' ≡ record { answer = done (8192 + length registers); memory = memory; registers = registers })
unfolding picture_written
picture-back kind memory registers out memory' registers' small z lm' lr' =
    let content = picture_of memory registers in
    let rows = picture_write_rows kind (picture_fits kind (length memory) (length registers)) (modes_of registers) (length out) in
    let a = answered rows 8704 in
    let none = answered-0 rows 8704 z in
    let w = number-none rows refl none in
    let fits = not-false (picture_fits kind (length memory) (length registers)) w.1.0 in
    let l = fits-are kind (length memory) (length registers) fits in
    let size : length content ≡ 8192 + picture_registers kind = length-picture memory registers ∙ ap (λ (k : ℕ). 8192 + k) l.2 in
    let n : 8704 ≡ 512 * block_count (length content) = sym (picture-blocks kind (length content) size) in
    let rest = picture-rest memory registers in
    ap (λ (l : List ℕ). picture_read kind l memory' registers') (file-is kind content out a (sym (answered-none rows 8704 none) ∙ ap done n))
    ∙ written_read kind content memory' registers' l.0 size (ap (λ (x : List ℕ). wrong_modes (modes_of x)) rest ∙ w.1.1.0) lm' (lr' ∙ l.2)
    ∙ (λ j. record { answer = done (length-picture memory registers j); memory = picture-scrambled memory registers l.1 small j; registers = rest j })

picture-rewritten : (kind : ℕ) (bytes memory registers out : List ℕ) → is_picture kind ≡ true → file_judged kind bytes ≡ done (8192 + picture_registers kind)
    → ((k : ℕ) → at bytes k < 256) → memory ≡ scrambled (content_of bytes) → registers ≡ drop 8192 (content_of bytes) → wrong_modes (content_modes (content_of bytes)) ≡ false
    → length bytes ≤ length out → picture_written kind memory registers out ≡ record { answer = done (length bytes); buffer = over bytes out }
unfolding picture_written
picture-rewritten kind bytes memory registers out p q small em er right h =
    let c = content_of bytes in
    let s = picture-stands kind bytes _ q in
    let n = picture-size kind bytes _ q in
    let o : picture_of memory registers ≡ c =
    ap₂ (λ (x y : List ℕ). plain_words x ++ y) em er
    ∙ ap (λ (x : List ℕ). x ++ drop 8192 c) (content-plain c (omega arith) (content-bytes kind bytes s small))
    ∙ take-append-drop 8192 c in
    let b : blocks_of kind (picture_of memory registers) ≡ bytes = ap (blocks_of kind) o ∙ one_form kind bytes s small in
    let m : 8704 ≡ length bytes =
    sym (all-length kind (picture_of memory registers) ∙ picture-blocks kind (length (picture_of memory registers)) (ap length o ∙ n)) ∙ ap length b in
    let lr : length registers ≡ picture_registers kind = ap length er ∙ length-drop 8192 c ∙ omega arith in
    let f : picture_fits kind (length memory) (length registers) ≡ true = are-fits kind (length memory) (length registers) p (ap length em ∙ length-scrambled c) lr in
    let rows = picture_write_rows kind (picture_fits kind (length memory) (length registers)) (modes_of registers) (length out) in
    sym (left-changed (done (length bytes)) _ (over (blocks_of kind (picture_of memory registers)) out) out
    (ap done (sym m)
    ∙ answered-no-row rows 8704 (ap not (picture-right kind p), (ap not f, (ap (λ (x : List ℕ). wrong_modes (modes_of x)) er ∙ right, (le-ltb (length out) 8704 (omega (arith, m)), tt)))))
    (over bytes out) (ap (λ (l : List ℕ). over l out) (sym b)) refl)

pub picture-again : (kind : ℕ) (bytes memory registers out : List ℕ) → ((k : ℕ) → at bytes k < 256)
    → (picture_read kind bytes memory registers).answer.number ≡ 0 → length bytes ≤ length out
    → (let r = picture_read kind bytes memory registers in
    picture_written kind r.memory r.registers out ≡ record { answer = done (length bytes); buffer = over bytes out })
unfolding picture_read
picture-again kind bytes memory registers out small z h =
    let content = content_of bytes in
    let rows = picture_read_rows (picture_fits kind (length memory) (length registers)) (content_modes content) in
    let a = read_answer kind bytes rows (length content) in
    let w = read-stands kind bytes rows (length content) z in
    let none = number-none rows refl w.1 in
    let l = fits-are kind (length memory) (length registers) (not-false (picture_fits kind (length memory) (length registers)) none.0) in
    picture-rewritten kind bytes _ _ out l.0 (picture-judged kind bytes l.0 w.0) small
    (sym (changed-done a (scrambled content) memory z)) (sym (changed-done a (drop 8192 content) registers z)) none.1.0 h
