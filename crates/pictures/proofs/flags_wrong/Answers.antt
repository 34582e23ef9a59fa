-- `flags_wrong`: of kind 4 by its mode registers; one of kind 1 has none, and so none that is wrong.
use mathlib.Core.Path.{◌≡◌, sym, ap, ◌∙◌}
use mathlib.Core.Logic.{inl, inr}
use Prim.Native.Nat.{ℕ, ◌+◌}
use native.Mathlib.Omega.{arith}
use borrow.Author.Tests.{ne_eqb}
use lib.ListN.{drop, length-drop}
use Rattle.registers.specs.Modes.{wrong_modes}
use Rattle.registers.proofs.ModeLaws.{modes-none}
use Rattle.contents.specs.File.{done, content_of, file_judged}
use Rattle.pictures.specs.Picture.{picture_registers}
use Rattle.pictures.proofs.PictureLaws.{picture-kinds, picture-judged, picture-size}
use Rattle.pictures.proofs.flags_wrong.Goals as goal

pub modes_in-requires : goal.modes_in-requires
modes_in-requires c =
    let s = c in
    let b = s.args.bytes.now in
    let k = c.if-kind.true in
    sym (ap (λ (x : ℕ). file_judged x b) k) ∙ picture-judged s.args.kind b s.requires.0 s.requires.1 ∙ ap (λ (x : ℕ). done (8192 + picture_registers x)) k

pub returns-else-kind : goal.returns-else-kind
unfolding wrong_modes
returns-else-kind c =
    let s = c in
    let kind = s.args.kind in
    let b = s.args.bytes.now in
    let n = picture-size kind b _ (picture-judged kind b s.requires.0 s.requires.1) in
    let one : kind ≡ 1 = elim (picture-kinds kind s.requires.0) [ inl e ↦ e | inr e ↦ absurd (c.if-kind.false e) ] in
    let r : 8192 + picture_registers kind ≡ 8288 = ap (λ (x : ℕ). 8192 + picture_registers x) one in
    ne_eqb kind 4 c.if-kind.false ∙ sym (ap wrong_modes (modes-none (drop 8192 (content_of b)) (omega (arith, length-drop 8192 (content_of b), n ∙ r))))
