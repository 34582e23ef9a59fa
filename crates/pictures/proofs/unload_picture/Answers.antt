-- `unload_picture`: each turn puts eight words more of the content into the memory.
use mathlib.Core.Path.{◌≡◌, ap, ◌∙◌}
use Prim.Native.Nat.{◌*◌}
use native.Mathlib.Omega.{arith}
use lib.ListN.{length}
use Rattle.contents.specs.File.{content_of}
use Rattle.contents.proofs.OneForm.{content-bytes}
use Rattle.contents.proofs.PayloadLaws.{payloads-content, payloads-room}
use Rattle.pictures.proofs.PictureLaws.{picture-stands, picture-size, registers-rest, with_words, words-start, words-put, words-done}
use borrow.Author.Rules.{rules}
use Rattle.pictures.proofs.unload_picture.Goals as goal

pub loop-v-init : goal.loop-v-init
loop-v-init c = words-start (content_of c.args.bytes.now) c.args.memory.now (search rules) (λ i. search rules)

pub part_of-requires : goal.part_of-requires
part_of-requires c =
    let b = c.args.bytes.now in
    let q = c.requires.1 in
    payloads-room _ b (picture-stands _ b _ q) _ (omega (arith, picture-size _ b _ q))

pub loop-v-preserved : goal.loop-v-preserved
loop-v-preserved c =
    let b = c.args.bytes.now in
    let l = c.loop-v in
    let s = picture-stands _ b _ c.requires.1 in
    let n = picture-size _ b _ c.requires.1 in
    c.words_in.ensures
    ∙ words-put (content_of b) c.args.memory.now (omega arith) (content-bytes _ b s (λ i. search rules)) l.memory _ l.v (omega arith) l.invariant
    (c.part_of.ensures ∙ payloads-content _ b s (256 * l.v) 256 (omega arith))

pub part_of-requires-2 : goal.part_of-requires-2
part_of-requires-2 c =
    let b = c.args.bytes.now in
    let q = c.requires.1 in
    payloads-room _ b (picture-stands _ b _ q) _ (omega (arith, picture-size _ b _ q))

pub returns : goal.returns
returns c =
    let b = c.args.bytes.now in
    let registers = length c.args.registers.now in
    let s = picture-stands _ b _ c.requires.1 in
    let n = picture-size _ b _ c.requires.1 in
    let all : c.loop-v.v ≡ 32 = omega arith in (
      c.loop-v.invariant
          ∙ ap (with_words (content_of b) c.args.memory.now) all
          ∙ words-done (content_of b) c.args.memory.now (omega arith) (content-bytes _ b s (λ i. search rules)),
      c.part_of-2.ensures ∙ payloads-content _ b s 8192 registers (omega arith) ∙ registers-rest (content_of b) registers n,
    )
