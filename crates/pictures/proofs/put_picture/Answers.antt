-- `put_picture`: each turn lays eight words more of the content; the blocks are made around it.
use mathlib.Core.Path.{◌≡◌, refl, ap, ◌∙◌}
use Prim.Native.Nat.{ℕ, ◌*◌}
use native.Mathlib.Omega.{arith}
use lib.ListN.{length, take}
use Rattle.bits.specs.Steps.{written}
use Rattle.words.proofs.PlainLaws.{length-plain}
use Rattle.contents.specs.Payloads.{laid}
use Rattle.pictures.specs.Picture.{plain_words}
use Rattle.pictures.proofs.PictureLaws.{fits-are, words-laid, picture-laid, picture-sealed}
use Rattle.pictures.proofs.put_picture.Goals as goal

pub loop-v-init : goal.loop-v-init
unfolding written
loop-v-init c = refl

pub loop-v-preserved : goal.loop-v-preserved
loop-v-preserved c =
    let l = c.loop-v in
    let a = c.args in
    let w = c.words_out-words in
    c.put_part.ensures ∙ words-laid (plain_words a.memory.now) a.out.now l.out w.result l.v (omega (arith, length-plain a.memory.now)) l.invariant w.ensures

pub returns : goal.returns
returns c =
    let l = c.loop-v in
    let memory = c.args.memory.now in
    let registers = c.args.registers.now in
    let old = c.args.out.now in
    let all : 256 * l.v ≡ 8192 = omega arith in
    c.seal_all.ensures
    ∙ picture-sealed memory registers old c.args.kind (fits-are c.args.kind (length memory) (length registers) c.requires.0).2 c.requires.1 _
    (c.put_part-2.ensures
    ∙ ap (laid registers 8192) (l.invariant ∙ ap (λ (k : ℕ). laid (take k (plain_words memory)) 0 old) all)
    ∙ picture-laid memory registers old)
