-- Laws of a picture made one of the other kind: its file copied to an output, and sealed anew. Assumes nothing.
use mathlib.Core.Path.{◌≡◌, refl, sym, ap, ap₂, ◌∙◌}
use mathlib.Core.Bool.{true}
use mathlib.Core.List.{List, [], ◌++◌, append-nil}
use Prim.Native.Nat.{ℕ, ◌+◌, ◌-◌}
use native.Mathlib.Omega.{arith}
use lib.ListN.{length, drop}
use lib.Seq.{take_all}
use borrow.Rule.Slice.PartMut.{put_mid}
use Rattle.bits.specs.Steps.{written}
use Rattle.bits.proofs.Puts.{part-put, put_front}
use Rattle.registers.specs.Modes.{mode_bytes, none_set}
use Rattle.contents.specs.File.{is_picture, content_of, blocks_of}
use Rattle.contents.specs.Content.{over}
use Rattle.contents.specs.Payloads.{payloads, laid}
use Rattle.contents.proofs.FileLaws.{Stands}
use Rattle.contents.proofs.PayloadLaws.{file-size, copied-sealed}
use Rattle.pictures.specs.Picture.{picture_registers}
use Rattle.pictures.specs.Conversion.{new_content, old_content}
use Rattle.pictures.proofs.PictureLaws.{picture-judged, picture-size, picture-blocks}

-- ---- the file of a picture that stands

module _ (kind : ℕ) (bytes : List ℕ) (p : is_picture kind ≡ true) (s : Stands kind bytes) where
  pub picture-bytes : length (content_of bytes) ≡ 8192 + picture_registers kind
  picture-bytes = picture-size kind bytes _ (picture-judged kind bytes p (ap (λ x. x.number) s.answer))

  -- 17 blocks
  pub picture-length : length bytes ≡ 8704
  picture-length = file-size kind bytes s ∙ picture-blocks kind (length (content_of bytes)) picture-bytes

-- copied to the front of an output it stands over it
pub copied-over : (bytes out ys : List ℕ) → length bytes ≡ 8704 → ys ≡ bytes → put_mid 0 (8704 - 0) out ys ≡ over bytes out
copied-over bytes out ys n e =
    part-put 0 8704 out ys (ap length e ∙ n) ∙ put_front ys out ∙ ap (λ (l : List ℕ). over l out) e

-- the same, put before what is left of the output
pub copied-front : (bytes out ys : List ℕ) → length bytes ≡ 8704 → ys ≡ bytes → ys ++ drop 8704 out ≡ over bytes out
copied-front bytes out ys n e = ap₂ (λ (l : List ℕ) (k : ℕ). l ++ drop k out) e (sym n)

-- ---- and sealed anew

pub new-sealed : (bytes out o : List ℕ) → Stands 1 bytes → o ≡ laid (mode_bytes none_set) 8288 (over bytes out)
    → over (blocks_of 4 (payloads o 0 8292)) o ≡ over (blocks_of 4 (new_content (content_of bytes))) out
new-sealed bytes out o s e =
    let n = picture-bytes 1 bytes refl s in
    ap (λ (l : List ℕ). over (blocks_of 4 (payloads l 0 8292)) l) e
    ∙ copied-sealed 1 4 bytes out (mode_bytes none_set) 8288 s (omega arith) (sym (picture-length 1 bytes refl s))
    ∙ ap (λ (l : List ℕ). over (blocks_of 4 (l ++ mode_bytes none_set)) out) (take_all 8288 (content_of bytes) (omega arith))

pub old-sealed : (bytes out o : List ℕ) → Stands 4 bytes → o ≡ over bytes out
    → over (blocks_of 1 (payloads o 0 8288)) o ≡ over (blocks_of 1 (old_content (content_of bytes))) out
unfolding written
old-sealed bytes out o s e =
    let n = picture-bytes 4 bytes refl s in
    ap (λ (l : List ℕ). over (blocks_of 1 (payloads l 0 8288)) l) e
    ∙ copied-sealed 4 1 bytes out [] 8288 s (omega arith) (sym (picture-length 4 bytes refl s))
    ∙ ap (λ (l : List ℕ). over (blocks_of 1 l) out) (append-nil (old_content (content_of bytes)))
